-- Where a run first reaches a time, a process's record is the replay of what was told of it before.
use Rattle.std.proofs.lemmas.Bool.{cases_Bool}
use Rattle.std.proofs.Common.{inl, inr}
use Rattle.std.proofs.Common.{◌≡◌, ◌<◌, ℕ, zero, suc, ◌==◌, ◌∷◌, ◌++◌, true, nat_lt, List, []}
use Rattle.std.proofs.Common.{Option, None, Some, refl, ap₂, subst, ◌∙◌, arith}
use Rattle.std.specs.List.{flat_map}
use Rattle.std.proofs.lemmas.Bool.Decides.{nat_tests}
use Rattle.std.proofs.lemmas.List.Elements.{filter-append}
use Rattle.std.proofs.lemmas.List.{map-append}
use Rattle.tk_base.specs.declared.process.Choice.{Choice}
use Rattle.kernel_model.specs.Turn.{Event}
use Rattle.kernel_model.specs.World.{Label, World, after, labels}
use Rattle.kernel_model.specs.Run.{next, round}
use Rattle.kernel_model.specs.Parts.{on_choice}
use Rattle.kernel_model.specs.Replay.{RecordIsReplay, RoundFollowsChoices, chosen, history}
use Rattle.kernel_model.specs.Parts.{happened}
use Rattle.kernel_partitions.specs.Moments.{Moment, before, events_of, timed_history}
use Rattle.kernel_partitions.specs.Parts.{told_at_time, told_of}
use Rattle.kernel_partitions.specs.Partitions.{ASlotSeesItselfAlone, RecordIsReplayedUpToATime, SameRecordAtEachTime}
use Rattle.kernel_partitions.specs.Partitions.{time_after}

-- all that a step tells began before a time, where the step did
pub all_kept : (time at : ℕ) (ls : List Label) → at < time → before time (told_at_time at ls) ≡ told_at_time at ls
all_kept time at [] below = refl
all_kept time at (label ∷ ls) below =
    let yes : nat_lt at time ≡ true = grind (arith, nat_tests) in
    rw (yes, all_kept time at ls below) refl

-- a run of one step more, by its first
pub step_first : (n : ℕ) (w : World) (c : Choice) → next w ≡ Some c
    → (round (suc n) w).world ≡ (round n (after w c)).world
unfolding round
step_first n w c is = rw is refl

-- where a run has not reached a time before its last world, all that it tells began before that
all_before : (slot time n : ℕ) (w : World) → ((i : ℕ) → i < n → time_after i w < time)
    → before time (timed_history slot w (chosen n w)) ≡ timed_history slot w (chosen n w)
unfolding chosen round
all_before slot time zero w early = refl
all_before slot time (suc n) w early = by_choice (next w) refl (λ c. all_before slot time n (after w c))
  where
    by_choice : (o : Option Choice) → next w ≡ o
        → ((c : Choice) → ((i : ℕ) → i < n → time_after i (after w c) < time)
        → before time (timed_history slot (after w c) (chosen n (after w c)))
        ≡ timed_history slot (after w c) (chosen n (after w c)))
        → before time (timed_history slot w (on_choice [] (λ c. c ∷ chosen n (after w c)) o))
        ≡ timed_history slot w (on_choice [] (λ c. c ∷ chosen n (after w c)) o)
    by_choice None is rest = refl
    by_choice (Some c) is rest =
        let first = told_at_time w.clock.time (told_of slot (labels w c)) in
        let more = timed_history slot (after w c) (chosen n (after w c)) in
        let some : 0 < suc n = omega arith in
        filter-append (λ (m : Moment). nat_lt m.at time) first more
        ∙ ap₂ (λ (x y : List Moment). x ++ y) (all_kept time w.clock.time (told_of slot (labels w c)) (early 0 some))
        (rest c (λ i below.
        let under : suc i < suc n = omega (arith, below) in
        subst (λ (v : World). v.clock.time < time) (step_first i w c is) (early (suc i) under)))

-- without its times a process's history is what happened to it
events_told : (slot time : ℕ) (ls : List Label)
    → events_of (told_at_time time (told_of slot ls)) ≡ flat_map (happened slot) ls
events_told slot time [] = refl
events_told slot time (label ∷ ls) =
    elim (cases_Bool (label.slot == slot)) [
      | inl e ↦ rw (e, events_told slot time ls) refl
      | inr e ↦ rw e (events_told slot time ls)
    ]

events_are : (slot : ℕ) (w : World) (choices : List Choice)
    → events_of (timed_history slot w choices) ≡ history slot w choices
events_are slot w [] = refl
events_are slot w (c ∷ choices) =
    let first = told_at_time w.clock.time (told_of slot (labels w c)) in
    map-append (λ (m : Moment). m.label.event) first (timed_history slot (after w c) choices)
    ∙ ap₂ (λ (x y : List Event). x ++ y) (events_told slot w.clock.time (labels w c))
    (events_are slot (after w c) choices)

pub record_is_replayed : RecordIsReplay → RoundFollowsChoices → RecordIsReplayedUpToATime
record_is_replayed replayed follows slot w n time first =
    rw (
      follows n w,
      replayed w (chosen n w) slot,
      all_before slot time n w first.not_sooner,
      events_are slot w (chosen n w),
    ) refl

pub same_record_at_each_time : ASlotSeesItselfAlone → RecordIsReplayedUpToATime → SameRecordAtEachTime
same_record_at_each_time alone replayed slot v w good alike n m time here there =
    rw (
      replayed slot v n time here,
      replayed slot w m time there,
      alone slot v w good alike n m time here.reached
          there.reached,
      alike.settings,
      alike.record_is,
    ) refl
