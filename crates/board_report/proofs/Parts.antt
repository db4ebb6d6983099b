-- Texts in parts, as the loops write them.
use Rattle.std.proofs.Common.{◌≡◌, ℕ, zero, suc, ◌+◌, ◌-◌, ◌/◌, ◌^◌, ◌<◌, ◌≤◌, List, [], ◌∷◌, ◌++◌, length, get_or}
use Rattle.std.proofs.Common.{take, drop, map, refl, sym, ap, ◌∙◌, arith, append_assoc, drop-cons, add-one, add-zero}
use Rattle.std.proofs.Common.{zero-add, suc-add}
use Rattle.std.proofs.Common.{length-take}
use Rattle.std.proofs.Math.Nat.{div-eq_of_lt}
use Rattle.std.proofs.Math.Pow.{pow_mono}
use Rattle.std.proofs.lemmas.List.{take-append-drop, take_more, append-nil}
use Rattle.std.proofs.lemmas.List.Concat.{flat_map-append}
use Rattle.std.specs.List.{flat_map, range_with_len}
use Rattle.tk_outside.specs.Sink.{SinkFacts}
use Rattle.tk_outside.specs.Writes.{WroteAll, WrotePart}
use Rattle.tk_outside.specs.Laws.{WritesCompose}
use Rattle.process_record.specs.declared.summary.SlotLine.{SlotLine}
use Rattle.board_report.specs.Report.{slot_text, slot_texts, led_text}
use Rattle.board_report.specs.Parts.{led_texts}

-- a piece failed after what stands before it was written
pub part_between : {K : Type 0} {tells : K → SinkFacts} {a b c : K} {front piece : List ℕ} → WritesCompose tells
    → (rest whole : List ℕ) → whole ≡ front ++ (piece ++ rest) → WroteAll tells a b front → WrotePart tells b c piece
    → WrotePart tells a c whole
part_between law rest whole e p q = rw e (law.all_then_part p (law.part_of_more rest q))

-- the lines of some slots and of the slots after them
slot_texts-append : (slot : ℕ) (xs ys : List SlotLine) → slot_texts slot (xs ++ ys)
    ≡ slot_texts slot xs ++ slot_texts (slot + length xs) ys
slot_texts-append slot [] ys = rw (add-zero slot) refl
slot_texts-append slot (x ∷ xs) ys =
    let moved : slot + 1 + length xs ≡ slot + suc (length xs) = omega arith in
    rw (slot_texts-append (slot + 1) xs ys, append_assoc, moved) refl

taken : {X : Type 0} (i : ℕ) (xs : List X) → i < length xs → 0 + length (take i xs) ≡ i
taken i xs h = rw length-take (omega arith)

pub slots_around : (i : ℕ) (lines : List SlotLine) (line : SlotLine) → i < length lines → line ≡ get_or lines i line
    → slot_texts 0 lines ≡ slot_texts 0 (take i lines) ++ (slot_text i line ++ slot_texts (i + 1) (drop (i + 1) lines))
slots_around i lines line h e =
    ap (slot_texts 0) (sym (take-append-drop i lines))
    ∙ rw (slot_texts-append 0 (take i lines) (drop i lines), taken i lines h, drop-cons lines i line h, ← e, add-one i)

pub slots_more : (i : ℕ) (lines : List SlotLine) (line : SlotLine) → i < length lines → line ≡ get_or lines i line
    → slot_texts 0 (take (i + 1) lines) ≡ slot_texts 0 (take i lines) ++ slot_text i line
slots_more i lines line h e =
    rw (
      take_more lines i line h,
      slot_texts-append 0 (take i lines) (get_or lines i line ∷ []),
      taken i lines h,
      ← e,
      append-nil (slot_text i line),
    ) refl

-- the texts of some items, around one of them
pub texts_around : {X : Type 0} (text : X → List ℕ) (xs : List X) (i : ℕ) (d : X) → i < length xs
    → flat_map text xs ≡ flat_map text (take i xs) ++ (text (get_or xs i d) ++ flat_map text (drop (i + 1) xs))
texts_around text xs i d h =
    ap (flat_map text) (sym (take-append-drop i xs))
    ∙ rw (flat_map-append text (take i xs) (drop i xs), drop-cons xs i d h, add-one i)

-- a range in two parts
led_texts-add : (leds from n m : ℕ) → map (led_text leds) (range_with_len from (n + m))
    ≡ map (led_text leds) (range_with_len from n) ++ map (led_text leds) (range_with_len (from + n) m)
led_texts-add leds from zero m = rw (zero-add m, add-zero from) refl
led_texts-add leds from (suc n) m =
    let moved : from + 1 + n ≡ from + suc n = omega arith in
    rw (suc-add n m, led_texts-add leds (from + 1) n m, moved) refl

pub leds_more : (leds i : ℕ) → led_texts leds (i + 1) ≡ led_texts leds i ++ led_text leds i ∷ []
leds_more leds i = led_texts-add leds 0 i 1 ∙ rw (zero-add i) refl

pub leds_around : (leds i count : ℕ) → i < count → led_texts leds count
    ≡ led_texts leds i ++ ((led_text leds i ∷ []) ++ map (led_text leds) (range_with_len (i + 1) (count - (i + 1))))
leds_around leds i count h =
    let split : count ≡ i + 1 + (count - (i + 1)) = omega arith in
    ap (led_texts leds) split
    ∙ rw (led_texts-add leds 0 (i + 1) (count - (i + 1)), leds_more leds i, zero-add (i + 1), append_assoc)

-- an LED past the word's 32 bits is off
pub off_past : (leds led : ℕ) → leds < 2 ^ 32 → 32 ≤ led → 48 ≡ led_text leds led
off_past leds led f h =
    let e : leds / 2 ^ led ≡ 0 = div-eq_of_lt (small leds led f (pow_mono h)) in
    rw e refl
  where
    small : (leds led : ℕ) → leds < 2 ^ 32 → 2 ^ 32 ≤ 2 ^ led → leds < 2 ^ led
    small leds led f p = omega arith
