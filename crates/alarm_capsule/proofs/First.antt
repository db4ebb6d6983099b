-- A slot below which each kept time lies behind the nearest, as the loop over slots finds it: it keeps the nearest time
-- so far and the first slot that has it (`FindsNearest`), and one slot more is nearer, or is not. So where the nearest
-- has just come none below that slot is due, and the search may begin there.
use Rattle.std.proofs.Common.{◌≡◌, ◌≢◌, ℕ, zero, suc, ◌+◌, ◌-◌, ◌<◌, ◌≤◌, Bool, true, false, List, find, fold}
use Rattle.std.proofs.Common.{length}
use Rattle.std.proofs.Common.{slice_index_or, slice_set, nat_lt, Option, None, Some, refl, sym, ap, ◌∙◌}
use Rattle.std.proofs.Common.{arith, eqb-true, eq-eqb}
use Rattle.std.specs.Prelude.{IfSome, min, nat_eq, not}
use Rattle.std.specs.Option.{option_eq}
use Rattle.std.specs.List.{range_with_len}
use Rattle.std.proofs.Common.{◌⊎◌, inl, inr}
use Rattle.std.proofs.lemmas.Bool.{cases_eq, cases_lt}
use Rattle.std.proofs.lemmas.Bool.{false≢true}
use Rattle.std.proofs.lemmas.Bool.Decides.{nat_tests}
use Rattle.std.proofs.lemmas.List.{get_or-set_same, get_or-set_other}
use Rattle.tk_base.specs.declared.limits.TheConstants.{SLOT_COUNT}
use Rattle.process_model.specs.Own.{Own}
use Rattle.driver_model.specs.Alarm.{nearer}
use Rattle.driver_model.specs.Laws.{IsDueWhereNoneAreLeft}
use Rattle.alarm_capsule.specs.Times.{AllBehind, AllTell, NoneDueBelow, comes_before, nearer_kept, nearest_kept}
use Rattle.alarm_capsule.proofs.Nearest.{not_due_yet}
use Rattle.alarm_capsule.proofs.Slots.{passed}

is_below : (a b : ℕ) → nat_lt a b ≡ true → a < b
is_below a b e = grind (arith, nat_tests)

is_not_below : (a b : ℕ) → nat_lt a b ≡ false → b ≤ a
is_not_below a b e = grind (arith, nat_tests)

-- two that are found equal, or not
same_option : (o other : Option ℕ) → option_eq nat_eq o other ≡ true → o ≡ other
same_option None None e = refl
same_option None (Some y) e = cc
same_option (Some x) None e = cc
same_option (Some x) (Some y) e = ap Some (eqb-true x y e)

found_same : (o : Option ℕ) → option_eq nat_eq o o ≡ true
found_same None = refl
found_same (Some x) = eq-eqb x x refl

-- two that are not found unlike are the same
pub same_kept : (o other : Option ℕ) → not (option_eq nat_eq o other) ≡ false → o ≡ other
same_kept o other e = same_option o other (grind (arith, nat_tests))

pub unlike : (o other : Option ℕ) → option_eq nat_eq o other ≡ false → o ≢ other
unlike o other e same =
    false≢true (sym e ∙ ap (option_eq nat_eq o) (sym same) ∙ found_same o)

-- a time that comes before the nearest is the nearer of the two, and another
earlier : (a b : ℕ) → nat_lt a b ≡ true → a ≡ min b a
earlier a b e = omega (arith, is_below a b e)

pub comes_first : (time nearest : Option ℕ) → comes_before time nearest ≡ true → time ≡ nearer nearest time
comes_first None nearest e = cc
comes_first (Some at) None e = refl
comes_first (Some at) (Some n) e = ap Some (earlier at n e)

the_one : (x y : ℕ) → ◌≡◌ {A = Option ℕ} (Some x) (Some y) → x ≡ y
the_one x y e = cc

pub comes_another : (time nearest : Option ℕ) → comes_before time nearest ≡ true → time ≢ nearest
comes_another None nearest e same = cc
comes_another (Some at) None e same = cc
comes_another (Some at) (Some n) e same = omega (arith, is_below at n e, the_one at n same)

-- one that does not leaves it the nearest
later_stays : (a b : ℕ) → nat_lt a b ≡ false → b ≡ min b a
later_stays a b e = omega (arith, is_not_below a b e)

pub comes_after : (time nearest : Option ℕ) → comes_before time nearest ≡ false → nearest ≡ nearer nearest time
comes_after None None e = refl
comes_after None (Some n) e = refl
comes_after (Some at) None e = cc
comes_after (Some at) (Some n) e = ap Some (later_stays at n e)

-- a time does not lie before the nearest, of which there is one then
abbrev NotBefore : Option ℕ → ℕ → Type 0
NotBefore None at = ⊥
NotBefore (Some nearest) at = nearest ≤ at

-- so it is of the slots below one
abbrev NoneBefore : Option ℕ → ℕ → List (Option ℕ) → Type 0
NoneBefore nearest below times =
    (slot : ℕ) → slot < below → IfSome (slice_index_or times slot None) (NotBefore nearest)

-- What is found of the nearest of the times, of the slots below one.
pub record FindsNearest (times : List (Option ℕ)) (nearest : Option ℕ) (first slot : ℕ) : Type 0 where
  pub folded : fold (nearer_kept times) nearest (range_with_len slot (SLOT_COUNT - slot)) ≡ nearest_kept times
  pub before : NoneBefore nearest slot times
  pub behind : AllBehind nearest first times

-- before the first slot is looked at
pub nothing_found : (times : List (Option ℕ))
    → fold (nearer_kept times) None (range_with_len 0 (SLOT_COUNT - 0)) ≡ nearest_kept times
    → FindsNearest times None 0 0
nothing_found times folded = record { folded = folded; before = λ slot h. absurd (omega (arith, h)); behind = tt }

-- a nearer one is none before which these lie
nearer_before : (nearest kept : Option ℕ) (at : ℕ) → NotBefore nearest at → NotBefore (nearer nearest kept) at
nearer_before None kept at h = absurd h
nearer_before (Some n) None at h = h
nearer_before (Some n) (Some k) at h = omega (arith, h)

kept_before : (nearest : Option ℕ) (k : ℕ) → NotBefore (nearer nearest (Some k)) k
kept_before None k = omega arith
kept_before (Some n) k = omega arith

if_before : (nearest kept other : Option ℕ) → IfSome other (NotBefore nearest)
    → IfSome other (NotBefore (nearer nearest kept))
if_before nearest kept None h = tt
if_before nearest kept (Some at) h = nearer_before nearest kept at h

if_kept : (nearest kept : Option ℕ) → IfSome kept (NotBefore (nearer nearest kept))
if_kept nearest None = tt
if_kept nearest (Some k) = kept_before nearest k

-- so it is of one slot more
one_more_before : (times : List (Option ℕ)) (nearest : Option ℕ) (slot : ℕ) → NoneBefore nearest slot times
    → NoneBefore (nearer nearest (slice_index_or times slot None)) (slot + 1) times
one_more_before times nearest slot so_far other h = elim (cases_eq other slot) [
  | inl same ↦ rw same (if_kept nearest (slice_index_or times slot None))
  | inr apart ↦ if_before nearest (slice_index_or times slot None) (slice_index_or times other None)
      (so_far other (omega (arith, h, apart)))
]

-- those below a slot that has the nearest lie behind it
nearest_there : (times : List (Option ℕ)) (nearest kept : Option ℕ) (slot : ℕ) → NoneBefore nearest slot times
    → nearer nearest kept ≢ nearest → AllBehind (nearer nearest kept) slot times
nearest_there times None None slot so_far another = tt
nearest_there times None (Some k) slot so_far another =
    λ other h. by_kept (slice_index_or times other None) (so_far other h)
  where
    by_kept : (o : Option ℕ) → IfSome o (NotBefore None) → IfSome o (λ at. k < at)
    by_kept None e = tt
    by_kept (Some at) e = absurd e
nearest_there times (Some n) None slot so_far another = absurd (another refl)
nearest_there times (Some n) (Some k) slot so_far another =
    λ other h. by_kept (slice_index_or times other None) (so_far other h)
  where
    less : k < n
    less = elim (cases_lt k n) [ inl l ↦ l | inr least ↦ absurd (another (ap Some (omega (arith, least)))) ]

    by_kept : (o : Option ℕ) → IfSome o (NotBefore (Some n)) → IfSome o (λ at. min n k < at)
    by_kept None e = tt
    by_kept (Some at) e = omega (arith, e, less)

-- one slot more is looked at: it has the nearest so far, or not
pub found_there : (times : List (Option ℕ)) (nearest next : Option ℕ) (first slot : ℕ)
    → fold (nearer_kept times) next (range_with_len (slot + 1) (SLOT_COUNT - (slot + 1))) ≡ nearest_kept times
    → next ≡ nearer nearest (slice_index_or times slot None) → next ≢ nearest → FindsNearest times nearest first slot
    → FindsNearest times next slot (slot + 1)
found_there times nearest next first slot folded is another so_far = record {
  folded = folded;
  before = rw is (one_more_before times nearest slot so_far.before);
  behind = rw is
      (nearest_there times nearest (slice_index_or times slot None) slot so_far.before (λ e. another (is ∙ e)));
}

pub found_before : (times : List (Option ℕ)) (nearest next : Option ℕ) (first slot : ℕ)
    → fold (nearer_kept times) next (range_with_len (slot + 1) (SLOT_COUNT - (slot + 1))) ≡ nearest_kept times
    → next ≡ nearer nearest (slice_index_or times slot None) → next ≡ nearest → FindsNearest times nearest first slot
    → FindsNearest times next first (slot + 1)
found_before times nearest next first slot folded is same so_far = record {
  folded = folded;
  before = rw is (one_more_before times nearest slot so_far.before);
  behind = rw same so_far.behind;
}

-- below slot 0 there is none
pub none_below : (nearest : Option ℕ) (times : List (Option ℕ)) → AllBehind nearest 0 times
none_below None times = tt
none_below (Some at) times = λ slot h. absurd (omega (arith, h))

-- where a time is kept of a slot of which none was, and it is not the nearest, all lie behind that still
pub still_behind : (times : List (Option ℕ)) (slot first : ℕ) (nearest due : Option ℕ) → slot < length times
    → due ≢ nearer nearest due → AllBehind nearest first times
    → AllBehind (nearer nearest due) first (slice_set times slot due)
still_behind times slot first None None within another behind = tt
still_behind times slot first None (Some d) within another behind = absurd (another refl)
still_behind times slot first (Some n) due within another behind =
    by_due due another
  where
    by_slot : (o : Option ℕ) (at other : ℕ) → IfSome o (λ k. at < k)
        → IfSome (slice_index_or times other None) (λ k. at < k)
        → IfSome (slice_index_or (slice_set times slot o) other None) (λ k. at < k)
    by_slot o at other here there = elim (cases_eq other slot) [
      | inl same ↦ rw (same, get_or-set_same times slot o None within) here
      | inr apart ↦ rw (get_or-set_other times slot other o None apart) there
    ]

    nearer_too : (o : Option ℕ) (at : ℕ) → at ≤ n → IfSome o (λ k. n < k) → IfSome o (λ k. at < k)
    nearer_too None at h e = tt
    nearer_too (Some k) at h e = omega (arith, h, e)

    later : (d : ℕ) → Some d ≢ nearer (Some n) (Some d) → min n d < d
    later d ne = elim (cases_lt n d) [
      | inl less ↦ omega (arith, less)
      | inr least ↦ absurd (ne (ap Some (omega (arith, least))))
    ]

    by_due : (o : Option ℕ) → o ≢ nearer (Some n) o → AllBehind (nearer (Some n) o) first (slice_set times slot o)
    by_due None ne = λ other h. by_slot None n other tt (behind other h)
    by_due (Some d) ne = λ other h. by_slot (Some d) (min n d) other (later d ne)
        (nearer_too (slice_index_or times other None) (min n d) (omega arith) (behind other h))

-- where the nearest has just come, none below the first slot is due
pub none_due_below : IsDueWhereNoneAreLeft → (now time at first : ℕ) (times : List (Option ℕ)) (owns : List Own)
    → AllTell now time times owns → at ≡ time → AllBehind (Some at) first times → NoneDueBelow first now owns
none_due_below law now time at first times owns tell is behind = λ slot h.
    sym (not_due_yet law now time slot (slice_index_or times slot None) owns (tell slot)
    (rw is at (behind slot h)))

pub none_due_below_0 : (now : ℕ) (owns : List Own) → NoneDueBelow 0 now owns
none_due_below_0 now owns = λ slot h. absurd (omega (arith, h))

-- slots of which none is found are passed
pub all_passed : (p : ℕ → Bool) (from : ℕ) → ((slot : ℕ) → slot < from → p slot ≡ false)
    → find p (range_with_len from (SLOT_COUNT - from)) ≡ find p (range_with_len 0 SLOT_COUNT)
all_passed p zero none = refl
all_passed p (suc from) none =
    ap (λ (n : ℕ). find p (range_with_len n (SLOT_COUNT - n))) (one_more from)
    ∙ step (cases_lt from SLOT_COUNT) ∙ all_passed p from (λ slot h. none slot (omega (arith, h)))
  where
    one_more : (n : ℕ) → suc n ≡ n + 1
    one_more n = omega arith

    no_more : (slot n : ℕ) → n ≡ 0 → find p (range_with_len slot n) ≡ None
    no_more slot n e = rw (e) refl

    step : (from < SLOT_COUNT) ⊎ (SLOT_COUNT ≤ from)
        → find p (range_with_len (from + 1) (SLOT_COUNT - (from + 1))) ≡ find p (range_with_len from (SLOT_COUNT -
        from))
    step (inl less) = passed p from SLOT_COUNT less (none from (omega arith))
    step (inr past) =
        no_more (from + 1) (SLOT_COUNT - (from + 1)) (omega (arith, past))
        ∙ sym (no_more from (SLOT_COUNT - from) (omega (arith, past)))
