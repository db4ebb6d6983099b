-- Why a command is refused. The causes are this tool's own.
use Rattle.std.specs.Prelude.{◌≡◌, ℕ, List, [], Option, None, Some, IfSome}
use Rattle.tk_outside.specs.Shelf.{ShelfFacts, FaultsRose}
use Rattle.tool_words.specs.declared.refusal.Refusal.{Refusal}
use Rattle.tool_words.specs.declared.refusal.Refusal.TheVariants.{Usage, Fault, Memory}
use Rattle.tool_words.specs.Words.{Command}
use Rattle.tool_tasks.specs.Comes.{Named, files_of, refused_at, ReadsUpTo}

-- what a shelf tells over a call: what it told before it, and whether its count of faults rose
pub record ShelfAccount : Type 1 where
  pub before : ShelfFacts
  pub rose : Type 0

-- what a shelf tells over a call that led from one state to another
abbrev pub shelf_account : {H : Type 0} → (H → ShelfFacts) → H → H → ShelfAccount
shelf_account tells old new = record { before = tells old; rose = FaultsRose tells old new }

-- a file for whose bytes a command is refused
pub record IsRefusedFor (told : ShelfAccount) (command : Command) (refusal : Refusal) (before : List (List ℕ))
    (f : Named) : Type 0 where
  pub text : List ℕ
  pub read : IfSome (told.before.bytes f.name) (λ b. text ≡ b)
  pub refused : refused_at command before f.file text ≡ Some refusal

-- The cause of each refusal, where the words are a command. The files are read one after another: those before the one
-- that is not sound, or for which the command is refused, were read whole and are no cause.
abbrev pub CauseOf : ShelfAccount → Command → Refusal → Type 0
CauseOf told command Usage = ⊥
CauseOf told command Memory = Unit {0}
CauseOf told command (Fault file) =
    told.rose × ReadsUpTo told.before.bytes command (λ before f. (f.file ≡ file) × ¬ told.before.is_sound f.name) []
    (files_of command)
CauseOf told command refusal =
    ReadsUpTo told.before.bytes command (IsRefusedFor told command refusal) [] (files_of command)

-- the cause of a refusal; where the words are no command nothing else is looked at
abbrev pub Cause : ShelfAccount → Option Command → Refusal → Type 0
Cause told None Usage = Unit {0}
Cause told None other = ⊥
Cause told (Some command) refusal = CauseOf told command refusal
