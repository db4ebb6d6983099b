-- What the nearest of the kept times says of the next alarm: as long as it lies ahead, the ticks up to it are those
-- that are left of all alarms, and none is due. Both are folds over the slots that keep the nearer of two, equal by
-- induction; all lie less than 2^32 ticks ahead, so the clock reckons them alike.
use Rattle.std.proofs.Common.{◌≡◌, ◌≢◌, ℕ, zero, suc, ◌+◌, ◌-◌, ◌^◌, ◌<◌, ◌≤◌, List, [], ◌∷◌, fold}
use Rattle.std.proofs.Common.{slice_get, slice_index_or, slice_set, length}
use Rattle.std.proofs.Common.{replicate, Bool, true, false, cond, IsTrue, Option, None, Some, refl}
use Rattle.std.proofs.Common.{sym, ap, ◌∙◌, arith}
use Rattle.std.specs.Prelude.{IfSome, is_some, min}
use Rattle.std.specs.List.{range_with_len}
use Rattle.std.proofs.Common.{inl, inr}
use Rattle.std.proofs.lemmas.Bool.{cases_eq}
use Rattle.std.proofs.lemmas.List.{get_or-set_same, get_or-set_other, set-get_or}
use Rattle.tk_base.specs.declared.limits.TheConstants.{SLOT_COUNT}
use Rattle.process_model.specs.Own.{Own}
use Rattle.driver_model.specs.Alarm.{due_for, due_slot, has_due, nearer, next_left, ticks_left_in}
use Rattle.driver_model.specs.Parts.{nearer_with}
use Rattle.driver_model.specs.Laws.{IsDueWhereNoneAreLeft}
use Rattle.alarm_capsule.specs.Times.{AllTell, TellsAlarm, nearer_kept, nearest_kept}
use Rattle.alarm_capsule.proofs.KeptTimes.{left_ahead, soon}

-- how long it is until a time, if there is one
abbrev until : ℕ → Option ℕ → Option ℕ
until time None = None
until time (Some at) = Some (at - time)

the_one : (x y : ℕ) → ◌≡◌ {A = Option ℕ} (Some x) (Some y) → x ≡ y
the_one x y e = cc

no_left : (x : ℕ) → ◌≡◌ {A = Option ℕ} None (Some x) → ⊥
no_left x e = cc

is_true : (b : Bool) → b ≡ true → IsTrue b
is_true b e = e

-- the nearest of times is none of those after one of them
not_after : (times : List (Option ℕ)) (slots : List ℕ) (x at : ℕ)
    → fold (nearer_kept times) (Some x) slots ≡ Some at → at ≤ x
not_after times [] x at e = omega (arith, the_one x at e)
not_after times (slot ∷ slots) x at e =
    by_kept (slice_index_or times slot None) (λ y f. not_after times slots y at f) e
  where
    by_kept : (kept : Option ℕ) → ((y : ℕ) → fold (nearer_kept times) (Some y) slots ≡ Some at → at ≤ y)
        → fold (nearer_kept times) (nearer (Some x) kept) slots ≡ Some at → at ≤ x
    by_kept None rest f = rest x f
    by_kept (Some other) rest f = omega (arith, rest (min x other) f)

-- where there is one there is a nearest
not_none : (times : List (Option ℕ)) (slots : List ℕ) (x : ℕ) → fold (nearer_kept times) (Some x) slots ≡ None → ⊥
not_none times [] x e = cc
not_none times (slot ∷ slots) x e =
    by_kept (slice_index_or times slot None) (λ y f. not_none times slots y f) e
  where
    by_kept : (kept : Option ℕ) → ((y : ℕ) → fold (nearer_kept times) (Some y) slots ≡ None → ⊥)
        → fold (nearer_kept times) (nearer (Some x) kept) slots ≡ None → ⊥
    by_kept None rest f = rest x f
    by_kept (Some other) rest f = rest (min x other) f

-- so is none of those after a time that is kept of a slot
not_after_kept : (times : List (Option ℕ)) (slots : List ℕ) (least : Option ℕ) (x at : ℕ)
    → fold (nearer_kept times) (nearer least (Some x)) slots ≡ Some at → at ≤ x
not_after_kept times slots None x at e = not_after times slots x at e
not_after_kept times slots (Some least) x at e = omega (arith, not_after times slots (min least x) at e)

nearer_until : (time : ℕ) (least kept : Option ℕ) → nearer (until time least) (until time kept) ≡ until time (nearer
    least kept)
nearer_until time None kept = refl
nearer_until time (Some x) None = refl
nearer_until time (Some x) (Some y) = ap Some (omega arith)

module _ (now time : ℕ) (times : List (Option ℕ)) (owns : List Own) (tell : AllTell now time times owns) where
  -- where all times that are kept lie ahead, each says what is left
  all_left : (slots : List ℕ) (least : Option ℕ) (at : ℕ) → fold (nearer_kept times) least slots ≡ Some at → time < at
      → fold (nearer_with now owns) (until time least) slots ≡ Some (at - time)
  all_left [] least at e ahead = ap (until time) e
  all_left (slot ∷ slots) least at e ahead =
      ap (λ (o : Option ℕ). fold (nearer_with now owns) o slots)
      (ap (nearer (until time least)) (left (slice_index_or times slot None) (tell slot) e)
      ∙ nearer_until time least (slice_index_or times slot None))
      ∙ all_left slots (nearer least (slice_index_or times slot None)) at e ahead
    where
      left : (kept : Option ℕ) → TellsAlarm now time kept (slice_get owns slot)
          → fold (nearer_kept times) (nearer least kept) slots ≡ Some at
          → ticks_left_in now owns slot ≡ until time kept
      left None tells f = tells
      left (Some other) tells f =
          left_ahead now time other (slice_get owns slot)
          (tells (omega (arith, ahead, not_after_kept times slots least other at f)))

  -- where no time is kept none is left
  none_left : (slots : List ℕ) → fold (nearer_kept times) None slots ≡ None
      → fold (nearer_with now owns) None slots ≡ None
  none_left [] e = refl
  none_left (slot ∷ slots) e = by_kept (slice_index_or times slot None) (tell slot) (none_left slots) e
    where
      by_kept : (kept : Option ℕ) → TellsAlarm now time kept (slice_get owns slot)
          → (fold (nearer_kept times) None slots ≡ None → fold (nearer_with now owns) None slots ≡ None)
          → fold (nearer_kept times) kept slots ≡ None
          → fold (nearer_with now owns) (ticks_left_in now owns slot) slots ≡ None
      by_kept None tells rest f = ap (λ (o : Option ℕ). fold (nearer_with now owns) o slots) tells ∙ rest f
      by_kept (Some other) tells rest f = absurd (not_none times slots other f)

  -- the nearest lies less than 2^32 ticks ahead
  not_far : (slots : List ℕ) (least : Option ℕ) (at : ℕ) → IfSome least (λ x. x - time < 2 ^ 32)
      → fold (nearer_kept times) least slots ≡ Some at → time < at → at - time < 2 ^ 32
  not_far [] None at near e ahead = cc
  not_far [] (Some x) at near e ahead = omega (arith, near, the_one x at e)
  not_far (slot ∷ slots) least at near e ahead =
      not_far slots (nearer least (slice_index_or times slot None)) at
      (by_kept (slice_index_or times slot None) (tell slot) e) e ahead
    where
      by_both : (o : Option ℕ) (other : ℕ) → IfSome o (λ x. x - time < 2 ^ 32) → other - time < 2 ^ 32
          → IfSome (nearer o (Some other)) (λ x. x - time < 2 ^ 32)
      by_both None other h small = small
      by_both (Some x) other h small = omega (arith, h, small)

      with_none : (o : Option ℕ) → IfSome o (λ x. x - time < 2 ^ 32) → IfSome (nearer o None) (λ x. x - time < 2 ^ 32)
      with_none None h = h
      with_none (Some x) h = h

      by_kept : (kept : Option ℕ) → TellsAlarm now time kept (slice_get owns slot)
          → fold (nearer_kept times) (nearer least kept) slots ≡ Some at
          → IfSome (nearer least kept) (λ x. x - time < 2 ^ 32)
      by_kept None tells f = with_none least near
      by_kept (Some other) tells f =
          by_both least other near (soon now time other (slice_get owns slot)
          (tells (omega (arith, ahead, not_after_kept times slots least other at f))))

  -- so the nearest of all, while it lies ahead, tells the next alarm
  pub nearest_is_next : (at : ℕ) → nearest_kept times ≡ Some at → time < at → Some (at - time) ≡ next_left now owns
  unfolding nearest_kept next_left
  nearest_is_next at e ahead = sym (all_left (range_with_len 0 SLOT_COUNT) None at e ahead)

  pub nearest_is_near : (at : ℕ) → nearest_kept times ≡ Some at → time < at → at - time < 2 ^ 32
  unfolding nearest_kept
  nearest_is_near at e ahead = not_far (range_with_len 0 SLOT_COUNT) None at tt e ahead

  pub none_is_next : nearest_kept times ≡ None → None ≡ next_left now owns
  unfolding nearest_kept next_left
  none_is_next e = sym (none_left (range_with_len 0 SLOT_COUNT) e)

  -- and none is due
  pub none_is_due : IsDueWhereNoneAreLeft → (o : Option ℕ) → nearest_kept times ≡ o → IfSome o (λ at. time < at)
      → None ≡ due_slot now owns
  none_is_due law o e ahead = by_due (due_slot now owns) refl
    where
      not_now : (o : Option ℕ) → nearest_kept times ≡ o → IfSome o (λ at. time < at) → next_left now owns ≡ Some 0 → ⊥
      not_now None f h left = no_left 0 (none_is_next f ∙ left)
      not_now (Some at) f h left = omega (arith, h, the_one (at - time) 0 (nearest_is_next at f h ∙ left))

      by_due : (due : Option ℕ) → due_slot now owns ≡ due → None ≡ due_slot now owns
      by_due None f = sym f
      by_due (Some slot) f =
          absurd (not_now o e ahead ((law None now owns).1 (is_true (is_some (due_slot now owns)) (ap is_some f))))

-- of fresh times there is no nearest
pub no_nearest : nearest_kept (replicate SLOT_COUNT None) ≡ None
unfolding nearest_kept
no_nearest = refl

-- a time that is what was kept leaves the times as they were
pub kept_again : (times : List (Option ℕ)) (slot : ℕ) (due : Option ℕ) → due ≡ slice_index_or times slot None
    → times ≡ slice_set times slot due
kept_again times slot due is = sym (ap (slice_set times slot) is ∙ set-get_or times slot None)

nearer_none : (o : Option ℕ) → nearer o None ≡ o
nearer_none None = refl
nearer_none (Some x) = refl

-- of three times the last two may change places
nearer_last : (o other last : Option ℕ) → nearer (nearer o other) last ≡ nearer (nearer o last) other
nearer_last None None last = sym (nearer_none last)
nearer_last None (Some y) None = refl
nearer_last None (Some y) (Some z) = ap Some (omega arith)
nearer_last (Some x) None None = refl
nearer_last (Some x) None (Some z) = refl
nearer_last (Some x) (Some y) None = refl
nearer_last (Some x) (Some y) (Some z) = ap Some (omega arith)

-- A time that is kept of a slot of which none was: the nearest is then the nearer of it and of the nearest before.
module _ (times : List (Option ℕ)) (slot : ℕ) (due : Option ℕ) (within : slot < length times)
    (none : slice_index_or times slot None ≡ None) where
  after : List (Option ℕ)
  after = slice_set times slot due

  other_kept : (other : ℕ) → other ≢ slot → slice_index_or after other None ≡ slice_index_or times other None
  unfolding after
  other_kept other apart = get_or-set_other times slot other due None apart

  -- of slots beyond it
  nearest_beyond : (n from : ℕ) (so_far : Option ℕ) → slot < from
      → fold (nearer_kept after) (nearer so_far due) (range_with_len from n)
      ≡ nearer (fold (nearer_kept times) so_far (range_with_len from n)) due
  nearest_beyond zero from so_far beyond = refl
  nearest_beyond (suc n) from so_far beyond =
      let kept = slice_index_or times from None in
      ap (λ (o : Option ℕ). fold (nearer_kept after) o (range_with_len (from + 1) n))
      (ap (nearer (nearer so_far due)) (other_kept from (λ same. omega (arith, beyond, same)))
      ∙ nearer_last so_far due kept)
      ∙ nearest_beyond n (from + 1) (nearer so_far kept) (omega (arith, beyond))

  -- of slots of which it is one
  nearest_among : (n from : ℕ) (so_far : Option ℕ) → from ≤ slot → slot < from + n
      → fold (nearer_kept after) so_far (range_with_len from n)
      ≡ nearer (fold (nearer_kept times) so_far (range_with_len from n)) due
  unfolding after
  nearest_among zero from so_far low high = absurd (omega (arith, low, high))
  nearest_among (suc n) from so_far low high = elim (cases_eq from slot) [
    | inl here ↦
        ap (λ (k : Option ℕ). fold (nearer_kept after) (nearer so_far k) (range_with_len (from + 1) n))
        (ap (λ (i : ℕ). slice_index_or after i None) here ∙ get_or-set_same times slot due None within)
        ∙ nearest_beyond n (from + 1) so_far (omega (arith, here))
        ∙ ap (λ (o : Option ℕ). nearer (fold (nearer_kept times) o (range_with_len (from + 1) n)) due)
        (sym (ap (nearer so_far) (ap (λ (i : ℕ). slice_index_or times i None) here ∙ none) ∙ nearer_none so_far))
    | inr apart ↦
        ap (λ (k : Option ℕ). fold (nearer_kept after) (nearer so_far k) (range_with_len (from + 1) n))
        (other_kept from apart)
        ∙ nearest_among n (from + 1) (nearer so_far (slice_index_or times from None)) (omega (arith, low, apart))
        (omega (arith, high))
  ]

  pub nearest_with : slot < SLOT_COUNT → nearer (nearest_kept times) due ≡ nearest_kept (slice_set times slot due)
  unfolding nearest_kept after
  nearest_with there = sym (nearest_among SLOT_COUNT 0 None (omega arith) (omega (arith, there)))

-- A slot whose time lies ahead, or of which none is kept, has no alarm that is due.
pub not_due_yet : IsDueWhereNoneAreLeft → (now time slot : ℕ) (kept : Option ℕ) (owns : List Own)
    → TellsAlarm now time kept (slice_get owns slot) → IfSome kept (λ at. time < at)
    → false ≡ has_due now (slice_get owns slot)
not_due_yet law now time slot kept owns tells ahead = by_due (has_due now (slice_get owns slot)) refl
  where
    left : (kept : Option ℕ) → TellsAlarm now time kept (slice_get owns slot) → IfSome kept (λ at. time < at)
        → ticks_left_in now owns slot ≡ Some 0 → ⊥
    left None told h e = no_left 0 (sym told ∙ e)
    left (Some at) told h e =
        let is = left_ahead now time at (slice_get owns slot) (told h) in
        omega (arith, h, the_one (at - time) 0 (sym is ∙ e))

    by_due : (b : Bool) → has_due now (slice_get owns slot) ≡ b → false ≡ has_due now (slice_get owns slot)
    by_due false e = sym e
    by_due true e =
        absurd (left kept tells ahead ((law (Some slot) now owns).1
        (is_true (is_some (due_for (Some slot) now owns))
        (ap (λ (b : Bool). is_some (cond b (Some slot) None)) e))))
