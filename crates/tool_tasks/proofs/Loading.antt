-- Why files that are read lead to a task, or to a refusal. A file that is read is refused for its length, or for what
-- the one table (`comes_to`) says of the command and the texts so far; one that cannot be read, for that. For each
-- command its row of the table computes, and a script or an edit that is refused names its fault.
use Rattle.std.proofs.Common.{◌≡◌, ℕ, suc, ◌<◌, ◌≤◌, nat_lt, true, false, List, [], ◌∷◌, ◌++◌}
use Rattle.std.proofs.Common.{length, replicate, take, drop, Option, None, Some, IfSome, Result, Ok, Err, inl, inr}
use Rattle.std.proofs.Common.{refl, sym, subst, ap, ◌∙◌, arith}
use Rattle.std.proofs.Math.Seq.{take-append_seam}
use Rattle.std.proofs.lemmas.Bool.Decides.{nat_tests}
use Rattle.std.proofs.lemmas.List.{length-replicate}
use Rattle.std.specs.Result.{is_ok}
use Rattle.tk_base.specs.declared.limits.TheConstants.{FLASH_LIMIT, SCRIPT_LIMIT}
use Rattle.script_text.specs.Settings.{ScriptSettings}
use Rattle.script_text.specs.Reading.{Fault as BadLine, reading}
use Rattle.image_make.specs.declared.edits.EditFault.{EditFault}
use Rattle.tk_outside.specs.Shelf.{ShelfFacts}
use Rattle.board_opening.specs.Opening.{opening}
use Rattle.tool_words.specs.declared.refusal.File.{File}
use Rattle.tool_words.specs.declared.refusal.File.TheVariants.{Flash, Script as ScriptFile}
use Rattle.tool_words.specs.declared.refusal.Refusal.{Refusal}
use Rattle.tool_words.specs.declared.refusal.Refusal.TheVariants.{Fault, TooLong, Script, Image, Memory}
use Rattle.run_text.specs.declared.mode.Mode.TheVariants.{Soak}
use Rattle.tool_words.specs.Words.{Command, Lists, Soaks}
use Rattle.tool_words.specs.Parts.{RunWords, EditWords, editing, running}
use Rattle.tool_words.specs.Refusals.{limit_of, edit_refused}
use Rattle.tool_tasks.specs.Comes.{Generated, Named, Task, Running, Listing, Making, IsTask, IsTaskOf, comes_to}
use Rattle.tool_tasks.specs.Parts.{IsText, edit_made}
use Rattle.tool_tasks.specs.Comes.{edited_by, flash_named, refused_at, run_under}
use Rattle.tool_tasks.specs.Parts.{script_named, refusal_of_task}
use Rattle.tool_tasks.specs.Causes.{ShelfAccount, CauseOf, IsRefusedFor, shelf_account}
use Rattle.tool_tasks.specs.Parts.{ReadingComesTo, IsUnsound}
use Rattle.tool_tasks.specs.Ready.{HasNoReading, IsUnread, KeepsShelf}

not_past : (limit n : ℕ) → n ≤ limit → nat_lt limit n ≡ false
not_past limit n h = grind (arith, nat_tests)

past : (limit n : ℕ) → limit < n → nat_lt limit n ≡ true
past limit n h = grind (arith, nat_tests)

-- a file within its limit is refused for what the command comes to
pub within_limit : (command : Command) (before : List (List ℕ)) (file : File) (text : List ℕ)
    → length text ≤ limit_of file
    → refused_at command before file text ≡ refusal_of_task (comes_to command (before ++ (text ∷ [])))
unfolding refused_at
within_limit command before file text h =
    rw (not_past (limit_of file) (length text) h) refl

past_limit : (command : Command) (before : List (List ℕ)) (file : File) (text : List ℕ) → limit_of file < length text
    → refused_at command before file text ≡ Some (TooLong file)
unfolding refused_at
past_limit command before file text h =
    rw (past (limit_of file) (length text) h) refl

zeros : ℕ → List ℕ
zeros n = replicate n 0

length-zeros : (n : ℕ) → length (zeros n) ≡ n
unfolding zeros
length-zeros n = length-replicate n 0

-- a text that is the file's where its bytes are told, and is too long as they are
long_text : (o : Option (List ℕ)) (limit : ℕ) → IfSome o (λ b. limit < length b)
    → (text : List ℕ) × (IfSome o (λ b. text ≡ b)) × (limit < length text)
long_text None limit h =
    let long = length-zeros (suc limit) in
    (zeros (suc limit), tt, omega (arith, long))
long_text (Some b) limit h = (b, refl, h)

-- the reading comes to a file
abbrev pub Reached : ShelfAccount → Command → Named → Type 1
Reached told command f = (Holds : List (List ℕ) → Named → Type 0) → ((texts : List (List ℕ)) → Holds texts f)
    → ReadingComesTo told command Holds

module _ (told : ShelfAccount) (command : Command) (f : Named) where
  long_here : (texts : List (List ℕ)) (other : File) → other ≡ f.file
      → IfSome (told.before.bytes f.name) (λ b. limit_of f.file < length b) → IsRefusedFor told command (TooLong
      other) texts f
  long_here texts other e h =
      let long = long_text (told.before.bytes f.name) (limit_of f.file) h in
      record {
        text = long.0;
        read = long.1;
        refused = past_limit command texts f.file long.0 long.2 ∙ ap (λ (x : File). Some (TooLong x)) (sym e);
      }

  -- that is not read
  pub not_read : (refusal : Refusal) → Reached told command f → IsUnread told f.file f.name refusal
      → CauseOf told command refusal
  not_read (Fault other) at u = (u.1, at (IsUnsound told other) (λ texts. (sym u.0, u.2)))
  not_read (TooLong other) at u =
      at (IsRefusedFor told command (TooLong other)) (λ texts. long_here texts other u.0 u.1)
  not_read Memory at u = tt
  not_read refusal at u = absurd u

-- the same, told over a later call alone
pub unread_later : {H : Type 0} (tells : H → ShelfFacts) (old mid new : H) (file : File) (name : List ℕ)
    (refusal : Refusal) → KeepsShelf tells old mid → IsUnread (shelf_account tells mid new) file name refusal
    → IsUnread (shelf_account tells old new) file name refusal
unread_later tells old mid new file name (Fault other) k u =
    let count = k.count in
    let rose = u.1 in
    (u.0, omega arith, λ sound. u.2 (k.sound name sound))
unread_later tells old mid new file name (TooLong other) k u =
    (u.0, subst (λ (bytes : List ℕ → Option (List ℕ)). IfSome (bytes name) (λ b. limit_of file < length b)) k.bytes u.1)
unread_later tells old mid new file name Memory k u = tt
unread_later tells old mid new file name refusal k u = absurd u

pub text_later : {H : Type 0} (tells : H → ShelfFacts) (old mid : H) (name text : List ℕ) → KeepsShelf tells old mid
    → IsText (tells mid).bytes name text → IsText (tells old).bytes name text
text_later tells old mid name text k h = subst (λ (bytes : List ℕ → Option (List ℕ)). IsText bytes name text) k.bytes h

-- `list`
pub list_task : (bytes : List ℕ → Option (List ℕ)) (name flash : List ℕ) → IsText bytes name flash
    → length flash ≤ FLASH_LIMIT → IsTaskOf bytes (Lists name) (Listing flash)
unfolding comes_to
list_task bytes name flash r h =
    record { text = flash; read = r; free = within_limit (Lists name) [] Flash flash h; holds = refl }

pub list_unread : (told : ShelfAccount) (name : List ℕ) (refusal : Refusal) → IsUnread told Flash name refusal
    → CauseOf told (Lists name) refusal
list_unread told name refusal u = not_read told (Lists name) (flash_named name) refusal (λ Holds h. inl (h [])) u

-- `boot` and `trace`
module _ (words : RunWords) (flash : List ℕ) (short : length flash ≤ FLASH_LIMIT) where
  flash_free : refused_at (running words) [] Flash flash ≡ None
  unfolding comes_to
  flash_free = within_limit (running words) [] Flash flash short

  script_at : (script : List ℕ) → length script ≤ SCRIPT_LIMIT
      → refused_at (running words) (flash ∷ []) ScriptFile script
      ≡ refusal_of_task (Some (run_under words.mode words.turns flash (reading script)))
  unfolding comes_to
  script_at script h = within_limit (running words) (flash ∷ []) ScriptFile script h

  pub run_unread : (told : ShelfAccount) (refusal : Refusal) → IsText told.before.bytes words.flash flash
      → IsUnread told ScriptFile words.script refusal → CauseOf told (running words) refusal
  run_unread told refusal r u =
      not_read told (running words) (script_named words.script) refusal
      (λ Holds h. inr (record { text = flash; read = r; free = flash_free; holds = inl (h (flash ∷ [])) })) u

  module _ (script : List ℕ) (h : length script ≤ SCRIPT_LIMIT) where
    pub run_task : (bytes : List ℕ → Option (List ℕ)) (settings : ScriptSettings) → IsText bytes words.flash flash
        → IsText bytes words.script script → reading script ≡ Ok settings
        → IsTaskOf bytes (running words) (Running words.mode words.turns (opening settings flash))
    unfolding comes_to
    run_task bytes settings f s is =
        let said = ap (run_under words.mode words.turns flash) is in
        record {
          text = flash;
          read = f;
          free = flash_free;
          holds = record {
            text = script;
            read = s;
            free = script_at script h ∙ ap (λ (r : Result Task Refusal). refusal_of_task (Some r)) said;
            holds = ap (λ (r : Result Task Refusal). Some r) said;
          };
        }

    pub run_refused : (told : ShelfAccount) (refusal : Refusal) → IsText told.before.bytes words.flash flash
        → IsText told.before.bytes words.script script → HasNoReading script refusal → CauseOf told (running
        words) refusal
    run_refused told (Script line rule) f s n =
        inr (record {
          text = flash;
          read = f;
          free = flash_free;
          holds = inl (record {
            text = script;
            read = s;
            refused = script_at script h ∙ ap (λ (r : Result ScriptSettings BadLine). refusal_of_task
                (Some (run_under words.mode words.turns flash r))) n;
          });
        })
    run_refused told Memory f s n = tt
    run_refused told refusal f s n = absurd n

pub run_unread_flash : (told : ShelfAccount) (words : RunWords) (refusal : Refusal)
    → IsUnread told Flash words.flash refusal → CauseOf told (running words) refusal
run_unread_flash told words refusal u =
    not_read told (running words) (flash_named words.flash) refusal (λ Holds h. inl (h [])) u

-- `soak`
pub soak_task : (makes : ℕ → Generated) (bytes : List ℕ → Option (List ℕ)) (number turns : ℕ)
    (settings : ScriptSettings) → reading (makes number).script ≡ Ok settings
    → IsTask makes bytes (Some (Soaks number turns)) (Running Soak turns (opening settings (makes number).flash))
soak_task makes bytes number turns settings is =
    ap (λ (r : Result ScriptSettings BadLine). run_under Soak turns (makes number).flash r) is

ok_is_no_error : (r : Result ScriptSettings BadLine) (fault : BadLine) → is_ok r ≡ true → r ≡ Err fault → ⊥
ok_is_no_error (Ok said) fault o e = cc
ok_is_no_error (Err bad) fault o e = cc

-- the one reason for which a script that has a reading is not read
pub only_memory : (script : List ℕ) (refusal : Refusal) → is_ok (reading script) ≡ true → HasNoReading script refusal
    → refusal ≡ Memory
only_memory script (Script line rule) o h = absurd (ok_is_no_error (reading script) _ o h)
only_memory script Memory o h = refl
only_memory script refusal o h = absurd h

-- the edits
module _ (words : EditWords) (flash : List ℕ) (short : length flash ≤ FLASH_LIMIT) where
  edit_at : refused_at (editing words) [] Flash flash
      ≡ refusal_of_task (Some (edit_made (edited_by words.edit words.offset flash)))
  unfolding comes_to
  edit_at = within_limit (editing words) [] Flash flash short

  pub edit_task : (bytes : List ℕ → Option (List ℕ)) (new : List ℕ) → IsText bytes words.flash flash
      → edited_by words.edit words.offset flash ≡ Ok new → IsTaskOf bytes (editing words) (Making new)
  unfolding comes_to
  edit_task bytes new r e = record {
    text = flash;
    read = r;
    free = edit_at ∙ ap (λ (x : Result (List ℕ) EditFault). refusal_of_task (Some (edit_made x))) e;
    holds = ap (λ (x : Result (List ℕ) EditFault). Some (edit_made x)) e;
  }

  pub edit_no_task : (told : ShelfAccount) (fault : EditFault) → IsText told.before.bytes words.flash flash
      → edited_by words.edit words.offset flash ≡ Err fault → CauseOf told (editing words) (Image (edit_refused fault))
  edit_no_task told fault r e =
      inl (record {
        text = flash;
        read = r;
        refused = edit_at ∙ ap (λ (x : Result (List ℕ) EditFault). refusal_of_task (Some (edit_made x))) e;
      })

pub edit_unread : (told : ShelfAccount) (words : EditWords) (refusal : Refusal)
    → IsUnread told Flash words.flash refusal → CauseOf told (editing words) refusal
edit_unread told words refusal u =
    not_read told (editing words) (flash_named words.flash) refusal (λ Holds h. inl (h [])) u

-- the whole of a vector is put back
pub whole_back : (n : ℕ) (new old : List ℕ) → n ≡ length new → take n (new ++ drop (length new) old) ≡ new
whole_back n new old e =
    rw e (take-append_seam new (drop (length new) old))
