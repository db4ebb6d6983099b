-- Whose alarm fires, and what it changes of its process.
use Rattle.std.proofs.Common.{◌≡◌, ℕ, true, List, ◌∷◌, [], ◌<◌, length, slice_get, Option}
use Rattle.std.proofs.Common.{None, Some, refl, sym, subst}
use Rattle.std.specs.List.{range_with_len}
use Rattle.std.proofs.lemmas.Option.{slice_get_within}
use Rattle.tk_base.specs.declared.limits.TheConstants.{SLOT_COUNT}
use Rattle.grant_values.specs.declared.alarm.Armed.{Armed}
use Rattle.process_model.specs.Own.{Own}
use Rattle.driver_model.specs.Alarm.{alarm_driver, answered, due_alarm, due_slot, expiration, has_due}
use Rattle.driver_model.specs.Parts.{fired_if}
use Rattle.driver_model.specs.Alarm.{showing, with_alarm}
use Rattle.driver_model.specs.Steps.{own_after}
use Rattle.driver_model.specs.Laws.{AnAlarmLeavesTheRest, DueSlotIsThere, IsAtMostOneMore}
use Rattle.driver_model.proofs.Scheduled.{none_more, schedules}
use Rattle.std.proofs.lemmas.Bool.{false≢true}
use Rattle.std.proofs.lemmas.Option.{cond_some}
use Rattle.std.proofs.Common.{inl, inr}
use Rattle.driver_model.proofs.Tables.{cases_Option, found_passes}

fires : (now : ℕ) (own : Own) (alarm : Option Armed) → let o = own_after (fired_if now own alarm) in
    (o ≡ record own { ram = o.ram; inbox = o.inbox; grants = o.grants })
    × IsAtMostOneMore own.inbox.dropped o.inbox.dropped
fires now own None = (refl, none_more own.inbox.dropped)
fires now own (Some alarm) =
    let q = schedules alarm_driver 0 (now ∷ expiration alarm ∷ 0 ∷ []) (with_alarm None (showing now own)) in
    let rest = subst
    (λ (o : Own). o ≡ record own { ram = o.ram; inbox = o.inbox; grants = o.grants }) (sym q.rest) refl in
    (rest, record { not_less = q.dropped.not_less; not_more = q.dropped.not_more })

pub an_alarm_leaves_the_rest : AnAlarmLeavesTheRest
unfolding answered
an_alarm_leaves_the_rest now own = let q = fires now own (due_alarm now own) in (q.0, q.1.not_less, q.1.not_more)

-- a slot with an alarm that is due is there
due_is_there : (now slot : ℕ) (owns : List Own) → has_due now (slice_get owns slot) ≡ true → slot < length owns
due_is_there now slot owns due =
    elim (cases_Option (slice_get owns slot)) [
      | inl none ↦ absurd (false≢true (rw none at due))
      | inr is ↦ slice_get_within owns slot is.0 is.1
    ]

pub due_slot_is_there : DueSlotIsThere
unfolding due_slot
due_slot_is_there None now slot owns e =
    due_is_there now slot owns
    (found_passes (λ s. has_due now (slice_get owns s)) (range_with_len 0 SLOT_COUNT) slot e)
due_slot_is_there (Some only) now slot owns e =
    let is = cond_some (has_due now (slice_get owns only)) only slot e in rw is.1 at (due_is_there now only owns is.0)
