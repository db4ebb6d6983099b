-- The line of a slot fits its 64 bytes, with the newline at its end: each piece has a longest length (two digits, a
-- name of 32 bytes, the longest word), and the sum of these leaves room for one byte more.
use Rattle.std.proofs.Common.{◌≡◌, ◌+◌, ◌≤◌, ◌++◌, length, ℕ, List, [], ◌∷◌, Bool, true, false, cond, ap, arith}
use Rattle.std.proofs.Common.{◌<◌, ◌∙◌, length-append, subst, sym}
use Rattle.std.specs.Fmt.{decimal}
use Rattle.std.proofs.lemmas.Fmt.{length-decimal-le}
use Rattle.std.specs.Prelude.{codes}
use Rattle.tk_base.specs.declared.limits.TheConstants.{SLOT_COUNT}
use Rattle.tk_base.specs.declared.upcall.Wait.{Wait}
use Rattle.tk_base.specs.declared.upcall.Wait.TheVariants.{No, For, Given}
use Rattle.process_record.specs.declared.process.State.{State}
use Rattle.process_record.specs.declared.process.State.TheVariants.{Running, Yielded, Faulted, Terminated}
use Rattle.process_record.specs.declared.summary.SlotLine.{SlotLine}
use Rattle.process_record.specs.Lines.{state_word}
use Rattle.process_record.specs.Parts.{line_word}
use Rattle.process_console.proofs.listing.list_line.Goals as goal

-- a word is short
word_fits : (line : SlotLine) → length (line_word line) ≤ 10
word_fits line = by_held line.held line.state line.wait
  where
    by_held : (held : Bool) (state : State) (wait : Wait)
        → length (cond held (codes "stopped") (state_word state wait)) ≤ 10
    by_held true state wait = omega arith
    by_held false Running wait = omega arith
    by_held false Yielded No = omega arith
    by_held false Yielded (For driver number) = omega arith
    by_held false Yielded (Given arguments) = omega arith
    by_held false Faulted wait = omega arith
    by_held false (Terminated code) wait = omega arith

-- the pieces leave room for one byte more
leaves_room : (digits name word none one two three four five : List ℕ) → none ≡ [] → one ≡ none ++ digits
    → two ≡ one ++ 32 ∷ [] → three ≡ two ++ name → four ≡ three ++ 32 ∷ [] → five ≡ four ++ word → length digits ≤ 2
    → length name ≤ 32 → length word ≤ 10 → length five + 1 ≤ 64
leaves_room digits name word none one two three four five a b d e f g x y z =
    omega (
      arith,
      ap length a,
      ap length b ∙ length-append none digits,
      ap length d ∙ length-append one (32 ∷ []),
      ap length e ∙ length-append two name,
      ap length f ∙ length-append three (32 ∷ []),
      ap length g ∙ length-append four word,
      x,
      y,
      z,
    )

-- a slot has two digits at most
slot_digits : (slot : ℕ) → slot < SLOT_COUNT → length (decimal slot) ≤ 2
slot_digits slot below = length-decimal-le 2 slot (omega arith) (omega (arith, below)) (omega (arith, below))

-- src/listing.rt:34:5
pub put-requires-6 : goal.put-requires-6
put-requires-6 c =
    leaves_room c.as_bytes.result.now c.deref-2.result.now (line_word c.args.line.now) c.new-text.result.items
    c.put.new.text.items c.put-2.new.text.items c.put-3.new.text.items c.put-4.new.text.items c.put-5.new.text.items
    c.new-text.ensures c.put.ensures c.put-2.ensures c.put-3.ensures c.put-4.ensures
    (c.put-5.ensures ∙ ap (λ (xs : List ℕ). c.put-4.new.text.items ++ xs) c.line_word.ensures)
    (subst (λ (xs : List ℕ). length xs ≤ 2) (sym (c.as_bytes.ensures.value ∙ c.format.ensures.text))
    (slot_digits c.index.result c.index.ensures.below))
    c.deref-2.ensures.1
    (word_fits c.args.line.now)
