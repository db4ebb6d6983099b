-- What the loops of the calls that write keep, and the digits of a number.
use Rattle.std.proofs.Common.{◌≡◌, ℕ, ◌+◌, ◌-◌, ◌<◌, ◌≤◌, suc, zero, List, [], ◌∷◌, ◌++◌, length, take, drop, get_or}
use Rattle.std.proofs.Common.{refl, sym, ap, subst, ◌∙◌, append_assoc, append-nil, arith, take-append-drop, zero-add}
use Rattle.std.proofs.Common.{suc-add}
use Rattle.std.specs.Prelude.{Option, None, Some}
use Rattle.std.specs.Io.KnownBytes.{Appends, Keeps}
use Rattle.std.specs.Borrow.{Bor}
use Rattle.std.proofs.lemmas.List.{take_more}
use Rattle.std.proofs.lemmas.Grind.{flat_map-append}
use Rattle.tk_outside.specs.Count.{Rose}
use Rattle.tk_outside.specs.Sink.{SinkFacts}
use Rattle.tk_outside.specs.Writes.{WroteAll, WrotePart}
use Rattle.tk_outside.specs.Text.{text_of, hex_digits}
use Rattle.tk_outside.proofs.WritesLemmas.{wrote_nothing, all_then_all, all_then_part, part_of_more}

-- the last k digits are the back of more digits
pub hex_digits-drop : (j k n : ℕ) → drop j (hex_digits (j + k) n) ≡ hex_digits k n
unfolding hex_digits
hex_digits-drop zero k n = rw zero-add
hex_digits-drop (suc j) k n = rw suc-add (hex_digits-drop j k n)

pub hex_digits_back : (digits n : ℕ) → digits ≤ 8 → drop (8 - digits) (hex_digits 8 n) ≡ hex_digits digits n
hex_digits_back digits n h =
    let e : (8 - digits) + digits ≡ 8 = omega arith in
    subst (λ m. drop (8 - digits) (hex_digits m n) ≡ hex_digits digits n) e (hex_digits-drop (8 - digits) digits n)

-- a front of the whole text was written, and the rest is left
pub record Sent {K : Type 0} (tells : K → SinkFacts) (old now : K) (whole rest : List ℕ) : Type 0 where
  pub front : List ℕ
  pub parts : whole ≡ front ++ rest
  pub wrote : WroteAll tells old now front

pub sent_nothing : {K : Type 0} (tells : K → SinkFacts) (a : K) (whole : List ℕ) → Sent tells a a whole whole
sent_nothing tells a whole = record { front = []; parts = refl; wrote = wrote_nothing tells a }

-- a write took the first bytes of the rest
pub sent_more : {K : Type 0} {tells : K → SinkFacts} {a b : K} {whole rest : List ℕ} (c : K) (n : ℕ)
    → Sent tells a b whole rest → Appends (tells b).written (tells c).written (take n rest)
    → (tells b).faults ≤ (tells c).faults → Sent tells a c whole (drop n rest)
sent_more {K} {tells} {a} {b} {whole} {rest} c n s p h =
    let w : WroteAll tells b c (take n rest) = record { appended = p; count = h } in
    record {
      front = s.front ++ take n rest;
      parts =
          s.parts ∙ ap (λ l. s.front ++ l) (sym (take-append-drop n rest))
          ∙ sym (append_assoc s.front (take n rest) (drop n rest));
      wrote = all_then_all s.wrote w;
    }

pub sent_all : {K : Type 0} {tells : K → SinkFacts} {a b : K} {whole : List ℕ} (rest : List ℕ) → length rest ≡ 0
    → Sent tells a b whole rest → WroteAll tells a b whole
sent_all {K} {tells} {a} {b} {whole} [] e s = subst (WroteAll tells a b) (sym (s.parts ∙ append-nil s.front)) s.wrote
sent_all (x ∷ rest) e s = absurd (omega arith)

pub appends_none : (x y : Option (List ℕ)) → Keeps x y → Appends x y []
appends_none None y h = tt
appends_none (Some xs) None h = absurd h
appends_none (Some xs) (Some ys) h = h ∙ sym (append-nil xs)

-- the write of a rest that is not empty failed
pub sent_part : {K : Type 0} {tells : K → SinkFacts} {a b : K} {whole rest : List ℕ} (c : K)
    → Sent tells a b whole rest → 0 < length rest → Keeps (tells b).written (tells c).written
    → (tells b).faults ≤ (tells c).faults → Rose (tells b).faults (tells c).faults → WrotePart tells a c whole
sent_part {K} {tells} {a} {b} {whole} {rest} c s some kept count rose =
    let q : WrotePart tells b c rest =
    record {
      front = [];
      missing = rest;
      parts = refl;
      lacks = some;
      appended =
          appends_none (tells b).written (tells c).written kept;
      count = count;
      rose = rose;
    } in
    subst (WrotePart tells a c) (sym s.parts) (all_then_part s.wrote q)

-- the text of a front of the pieces, one piece longer
pub text_of-more : (pieces : List (Bor (List ℕ))) (i : ℕ) (d : Bor (List ℕ)) → i < length pieces
    → text_of (take (i + 1) pieces) ≡ text_of (take i pieces) ++ (get_or pieces i d).now
text_of-more pieces i d h =
    ap text_of (take_more pieces i d h)
    ∙ flat_map-append (λ (p : Bor (List ℕ)). p.now) (take i pieces) (get_or pieces i d ∷ [])
    ∙ ap (λ l. text_of (take i pieces) ++ l) (append-nil ((get_or pieces i d).now))

-- one of the pieces was not written whole
pub part_of_pieces : {K : Type 0} {tells : K → SinkFacts} {a b c : K} (pieces : List (Bor (List ℕ))) (i : ℕ)
    (d : Bor (List ℕ)) → i < length pieces
    → WroteAll tells a b (text_of (take i pieces)) → WrotePart tells b c ((get_or pieces i d).now)
    → WrotePart tells a c (text_of pieces)
part_of_pieces {K} {tells} {a} {b} {c} pieces i d h p q =
    let front : WrotePart tells a c (text_of (take (i + 1) pieces)) =
    rw (text_of-more pieces i d h) (all_then_part p q) in
    let whole : text_of (take (i + 1) pieces) ++ text_of (drop (i + 1) pieces) ≡ text_of pieces =
    sym (flat_map-append (λ (p : Bor (List ℕ)). p.now) (take (i + 1) pieces) (drop (i + 1) pieces))
    ∙ ap text_of (take-append-drop (i + 1) pieces) in
    subst (WrotePart tells a c) whole (part_of_more (text_of (drop (i + 1) pieces)) front)
