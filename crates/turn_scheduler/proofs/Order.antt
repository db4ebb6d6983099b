-- The first ready slot, in parts.
use Rattle.std.proofs.Common.{◌≡◌, ℕ, zero, suc, ◌+◌, ◌-◌, ◌<◌, ◌≤◌, Bool, true, false, cond, List, [], ◌∷◌, find}
use Rattle.std.proofs.Common.{Option, None, Some, sym, ap, ◌∙◌, refl, arith, ◌^◌}
use Rattle.std.specs.List.{range_with_len}
use Rattle.std.specs.Option.{option_or}
use Rattle.std.proofs.lemmas.List.Folds.{find-append}
use Rattle.tk_base.specs.declared.limits.TheConstants.{SLOT_COUNT}
use Rattle.partition_turns.proofs.Found.{passes_first}
use Rattle.turn_scheduler.specs.RoundRobin.{slots_after, ready_device, IsNextAhead}
use Rattle.turn_scheduler.specs.Situation.{Situation}

comes_first : (p : ℕ → Bool) (from n m : ℕ) → n ≡ suc m → p from ≡ true → find p (range_with_len from n) ≡ Some from
comes_first p from n m e f = rw (e, f) refl

none_there : (p : ℕ → Bool) (from n : ℕ) → ((slot : ℕ) → from ≤ slot → p slot ≡ false)
    → find p (range_with_len from n) ≡ None
none_there p from zero h = refl
none_there p from (suc n) h =
    passes_first p from (suc n) n refl (h from (omega arith))
    ∙ none_there p (from + 1) n (λ slot at. h slot (omega (arith, at)))

none_more : (p : ℕ → Bool) (from k m : ℕ) → ((slot : ℕ) → from + k ≤ slot → p slot ≡ false)
    → find p (range_with_len from (k + m)) ≡ find p (range_with_len from k)
none_more p from zero m h =
    ap (λ (n : ℕ). find p (range_with_len from n)) (nothing m)
    ∙ none_there p from m (λ slot at. h slot (omega (arith, at)))
  where
    nothing : (m : ℕ) → 0 + m ≡ m
    nothing m = omega arith
none_more p from (suc k) m h =
    by_first (p from) refl (none_more p (from + 1) k m (λ slot at. h slot (omega (arith, at))))
  where
    by_first : (b : Bool) → p from ≡ b
        → find p (range_with_len (from + 1) (k + m)) ≡ find p (range_with_len (from + 1) k)
        → find p (range_with_len from (suc k + m)) ≡ find p (range_with_len from (suc k))
    by_first true e rest =
        comes_first p from (suc k + m) (k + m) (omega arith) e ∙ sym (comes_first p from (suc k) k refl e)
    by_first false e rest =
        passes_first p from (suc k + m) (k + m) (omega arith) e ∙ rest ∙ sym (passes_first p from (suc k) k refl e)

-- where none is ready from a slot on, none is looked for there
pub none_past : (p : ℕ → Bool) (from to : ℕ) → to ≤ SLOT_COUNT → ((slot : ℕ) → to ≤ slot → p slot ≡ false)
    → find p (range_with_len from (SLOT_COUNT - from)) ≡ find p (range_with_len from (to - from))
none_past p from to h none =
    ap (λ (n : ℕ). find p (range_with_len from n)) in_two
    ∙ none_more p from (to - from) (SLOT_COUNT - from - (to - from)) (λ slot at. none slot (omega (arith, at)))
  where
    in_two : SLOT_COUNT - from ≡ (to - from) + (SLOT_COUNT - from - (to - from))
    in_two = omega (arith, h)

-- one that is ready after the present slot comes first
pub slots_after-some : (p : ℕ → Bool) (o : Option ℕ) (present i slot : ℕ) → o ≡ Some present → i ≡ present
    → Some slot ≡ find p (range_with_len (i + 1) (SLOT_COUNT - (i + 1))) → Some slot ≡ find p (slots_after o)
slots_after-some p o present i slot e f h =
    let after = range_with_len (present + 1) (SLOT_COUNT - (present + 1)) in
    let up_to = range_with_len 0 (present + 1) in
    let found : find p after ≡ Some slot =
    ap (λ (k : ℕ). find p (range_with_len (k + 1) (SLOT_COUNT - (k + 1)))) (sym f) ∙ sym h in
    sym (ap (λ (q : Option ℕ). find p (slots_after q)) e ∙ find-append p after up_to
    ∙ ap (λ (q : Option ℕ). option_or q (find p up_to)) found)

-- else the first from slot 0 on, up to the present one
pub slots_after-none : (p : ℕ → Bool) (o : Option ℕ) (present i : ℕ) (r : Option ℕ) → o ≡ Some present → i ≡ present
    → None ≡ find p (range_with_len (i + 1) (SLOT_COUNT - (i + 1))) → r ≡ find p (range_with_len 0 (i + 1 - 0))
    → r ≡ find p (slots_after o)
slots_after-none p o present i r e f h k =
    let after = range_with_len (present + 1) (SLOT_COUNT - (present + 1)) in
    let up_to = range_with_len 0 (present + 1) in
    let none : find p after ≡ None =
    ap (λ (j : ℕ). find p (range_with_len (j + 1) (SLOT_COUNT - (j + 1)))) (sym f) ∙ sym h in
    let length_is : i + 1 - 0 ≡ present + 1 = omega arith in
    k ∙ ap (λ (n : ℕ). find p (range_with_len 0 n)) length_is
    ∙ sym (ap (λ (q : Option ℕ). find p (slots_after q)) e ∙ find-append p after up_to
    ∙ ap (λ (q : Option ℕ). option_or q (find p up_to)) none)

-- where none is ready from slot 0 on, none is the next
pub nobody_ready : (p : ℕ → Bool) (slots : List ℕ) (bound : ℕ) → bound ≡ 0 → ((slot : ℕ) → bound ≤ slot → p slot ≡
    false)
    → None ≡ find p slots
nobody_ready p [] bound is none = refl
nobody_ready p (slot ∷ slots) bound is none =
    by_first (p slot) (none slot (omega (arith, is))) (nobody_ready p slots bound is none)
  where
    by_first : (b : Bool) → b ≡ false → None ≡ find p slots → None ≡ cond b (Some slot) (find p slots)
    by_first true e rest = cc
    by_first false e rest = rest

-- with no present slot, the first from slot 0 on
pub slots_after-start : (p : ℕ → Bool) (o : Option ℕ) (r : Option ℕ) → o ≡ None
    → r ≡ find p (range_with_len 0 (SLOT_COUNT - 0)) → r ≡ find p (slots_after o)
slots_after-start p o r e h = h ∙ sym (ap (λ (q : Option ℕ). find p (slots_after q)) e)

-- where no device step is ready, the next time lies ahead
pub time_ahead : (s : Situation) (at : ℕ) → ready_device s.devices ≡ None → s.next ≡ Some at → IsNextAhead s
    → (s.time < at) × (at - s.time < 2 ^ 32)
time_ahead s at f e h = h f at e
