-- What files that are read one after another decide.
use Rattle.std.proofs.Common.{ℕ, List, [], ◌∷◌, ◌++◌, Option, None, Some, IfSome, inl, inr, refl, sym, subst}
use Rattle.tool_words.specs.declared.refusal.File.{File}
use Rattle.tool_words.specs.declared.refusal.Refusal.{Refusal}
use Rattle.tool_words.specs.Words.{Command}
use Rattle.tool_words.specs.Refusals.{status_of}
use Rattle.tool_tasks.specs.Comes.{Named, Passes, ReadsAll, ReadsUpTo, refused_at}
use Rattle.tool_tasks.specs.Causes.{ShelfAccount, IsRefusedFor}
use Rattle.tool_tasks.specs.Parts.{IsUnsound}
use Rattle.tool_answers.specs.Served.{IsRefusedOr, DecidedBy}
use Rattle.tool_answers.specs.Parts.{IsUnhindered}

-- what the files decide
module _ (told : ShelfAccount) (command : Command) where
  given : {X : Type 0} (o : Option X) (P R : X → Type 0) → IfSome o P → ((x : X) → P x → R x) → IfSome o R
  given None P R p f = tt
  given (Some x) P R p f = f x p

  any : {X : Type 0} (o : Option X) (R : X → Type 0) → ((x : X) → R x) → IfSome o R
  any None R f = tt
  any (Some x) R f = f x

  -- a file that was read is passed
  passed : (answer : ℕ) (P : List (List ℕ) → Type 0) (f : Named) (files : List Named) (before : List (List ℕ))
      (h : Passes told.before.bytes command before f P) → DecidedBy told command answer (before ++ (h.text ∷ [])) files
      → DecidedBy told command answer before (f ∷ files)
  passed answer P f files before h on =
      given (told.before.bytes f.name) _ _ h.read
      (λ b e u. subst
      (λ (x : List ℕ). IsRefusedOr (refused_at command before f.file x) answer
      (DecidedBy told command answer (before ++ (x ∷ [])) files))
      e
      (subst (λ (o : Option Refusal). IsRefusedOr o answer
      (DecidedBy told command answer (before ++ (h.text ∷ [])) files)) (sym h.free) on))

  -- where all were read the answer is 0
  pub by_task : (P : List (List ℕ) → Type 0) (files : List Named) (before : List (List ℕ))
      → ReadsAll told.before.bytes command P before files → DecidedBy told command 0 before files
  by_task P [] before h = inl refl
  by_task P (f ∷ files) before h = passed 0 _ f files before h (by_task P files (before ++ (h.text ∷ [])) h.holds)

  -- where one is a cause, it decides
  up_to : (answer : ℕ) (P : List (List ℕ) → Named → Type 0)
      → ((before : List (List ℕ)) (f : Named) (files : List Named) → P before f
      → DecidedBy told command answer before (f ∷ files)) → (files : List Named) (before : List (List ℕ))
      → ReadsUpTo told.before.bytes command P before files → DecidedBy told command answer before files
  up_to answer P each [] before h = absurd h
  up_to answer P each (f ∷ files) before (inl h) = each before f files h
  up_to answer P each (f ∷ files) before (inr h) =
      passed answer _ f files before h (up_to answer P each files (before ++ (h.text ∷ [])) h.holds)

  refused_here : (refusal : Refusal) (before : List (List ℕ)) (f : Named) (files : List Named)
      → IsRefusedFor told command refusal before f → DecidedBy told command (status_of refusal) before (f ∷ files)
  refused_here refusal before f files h =
      given (told.before.bytes f.name) _ _ h.read
      (λ b e u. subst
      (λ (x : List ℕ). IsRefusedOr (refused_at command before f.file x) (status_of refusal)
      (DecidedBy told command (status_of refusal) (before ++ (x ∷ [])) files))
      e
      (subst (λ (o : Option Refusal). IsRefusedOr o (status_of refusal)
      (DecidedBy told command (status_of refusal) (before ++ (h.text ∷ [])) files)) (sym h.refused) (inl refl)))

  pub by_refusal : (refusal : Refusal) (files : List Named) (before : List (List ℕ))
      → ReadsUpTo told.before.bytes command (IsRefusedFor told command refusal) before files
      → DecidedBy told command (status_of refusal) before files
  by_refusal refusal files before h =
      up_to (status_of refusal) (IsRefusedFor told command refusal) (refused_here refusal) files before h

  hindered : (answer : ℕ) (file : File) → told.rose → (before : List (List ℕ)) (f : Named) (files : List Named)
      → IsUnsound told file before f → DecidedBy told command answer before (f ∷ files)
  hindered answer file rose before f files h = any (told.before.bytes f.name) _ (λ b u. absurd (no u))
    where
      no : IsUnhindered told f.name → ⊥
      no (inl sound) = h.1 sound
      no (inr calm) = calm rose

  pub by_fault : (answer : ℕ) (file : File) → told.rose → (files : List Named) (before : List (List ℕ))
      → ReadsUpTo told.before.bytes command (IsUnsound told
      file) before files → DecidedBy told command answer before files
  by_fault answer file rose files before h =
      up_to answer (IsUnsound told file) (hindered answer file rose) files before h

  memory_or : (o : Option Refusal) (Goes : Type 0) → Goes → IsRefusedOr o 7 Goes
  memory_or None Goes g = g
  memory_or (Some refusal) Goes g = inr refl

  pub by_memory : (files : List Named) (before : List (List ℕ)) → DecidedBy told command 7 before files
  by_memory [] before = inr refl
  by_memory (f ∷ files) before =
      any (told.before.bytes f.name) _ (λ b u.
      memory_or (refused_at command before f.file b) _ (by_memory files (before ++ (b ∷ []))))
