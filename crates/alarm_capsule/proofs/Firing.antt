-- What a visit that fires, or stops, an alarm leaves of a process.
use Rattle.std.proofs.Common.{◌≡◌, ℕ, ◌==◌, Bool, true, false, cond, List, [], ◌∷◌, Option, None, Some, Result}
use Rattle.std.proofs.Common.{ap, option_map, refl, sym, ◌∙◌, subst}
use Rattle.grant_values.specs.declared.alarm.Alarm.{Alarm}
use Rattle.grant_values.specs.declared.alarm.Armed.{Armed}
use Rattle.grant_values.specs.Values.{KeptValue, AlarmValue}
use Rattle.grant_model.specs.Grants.{Grant, grant_of, with_grant, with_value}
use Rattle.process_model.specs.Own.{Own}
use Rattle.process_model.specs.Served.{kept, own_scheduled, with_kept}
use Rattle.process_model.proofs.Scheduling.{keeping_commutes}
use Rattle.driver_model.specs.Steps.{own_after}
use Rattle.process_seat.specs.declared.visit.Unvisited.{Unvisited}
use Rattle.process_seat.specs.Seen.{Seen}
use Rattle.process_seat.specs.Visits.{FoundProcess, GrantsOf, Visits, is_stale}
use Rattle.process_seat.proofs.Outcomes.{of_visit_there, visit_by}
use Rattle.driver_model.specs.Alarm.{alarm_driver, alarm_in, answered, armed_in, due_alarm, expiration, fired, if_due}
use Rattle.driver_model.specs.Parts.{fired_if}
use Rattle.driver_model.specs.Alarm.{showing, with_alarm}

-- what a visitor that fires leaves
abbrev Fires : {A : Type 0} → ℕ → ℕ → (Alarm → Seen → A → Alarm → Own → Type 0) → Type 0
Fires now expires leaves = (value : Alarm) (seen : Seen) (answer : _) (value' : Alarm) (own : Own)
    → leaves value seen answer value' own
    → (value' ≡ record { armed = None })
    × (own ≡ own_scheduled seen.driver 0 (now ∷ expires ∷ 0 ∷ []) (showing now seen.own))

nothing_due : (b : Bool) (alarm : Armed) → ◌≡◌ {A = Option Armed} (cond b None None) (Some alarm) → ⊥
nothing_due true alarm e = cc
nothing_due false alarm e = cc

-- where no value is kept no alarm is due
none_kept : (now : ℕ) (own : Own) (alarm : Armed) → kept alarm_driver own ≡ None → due_alarm now own ≡ Some alarm → ⊥
none_kept now own alarm none due =
    nothing_due own.lives alarm (subst (λ (o : Option KeptValue). cond own.lives (if_due now (armed_in o)) None
    ≡ Some alarm) none due)

pub fires : {V A : Type 0} {new : Own} (grants : GrantsOf) (visitor : V)
    (leaves : V → Alarm → Seen → A → Alarm → Own → Type 0) (process : FoundProcess) (now expires : ℕ) (alarm : Armed)
    (r : Result A (Unvisited V))
    → Visits (visit_by grants (λ (a : Alarm). AlarmValue a.armed) visitor leaves) process r new
    → Fires now expires (leaves visitor) → grants.driver ≡ 0 → expires ≡ expiration alarm
    → is_stale process.life process.own ≡ false → due_alarm now process.own ≡ Some alarm
    → new ≡ own_after (answered now process.own)
unfolding answered
fires grants visitor leaves process now expires alarm r visits says is expires_is present due =
    let shown = showing now process.own in
    of_visit_there _ process alarm_driver (λ (o : Own). o ≡ own_after (answered now process.own)) r visits is present
    (λ was value answer own is_kept left.
    let so = says _ _ _ _ _ left in
    ap (λ (a : Alarm). with_kept alarm_driver (AlarmValue a.armed) own) so.0
    ∙ ap (with_alarm None) (so.1
    ∙ ap (λ (e : ℕ). own_scheduled alarm_driver 0 (now ∷ e ∷ 0 ∷ []) shown) expires_is)
    ∙ keeping_commutes alarm_driver (AlarmValue None) (fired now alarm process.own).schedules shown
    ∙ ap (λ (o : Option Armed). own_after (fired_if now process.own o)) (sym due))
    (λ none. absurd (none_kept now process.own alarm none due))

-- where the alarm's value is that none is armed, none is
none_armed : (gs : List Grant)
    → armed_in (option_map (λ g. g.value)
    (grant_of alarm_driver (with_grant alarm_driver (with_value (AlarmValue None)) gs))) ≡ None
none_armed [] = refl
none_armed (g ∷ gs) = by_driver (g.driver == alarm_driver) refl (none_armed gs)
  where
    armed_of : Option Grant → Option Armed
    armed_of o = armed_in (option_map (λ (h : Grant). h.value) o)

    others : List Grant
    others = with_grant alarm_driver (with_value (AlarmValue None)) gs

    by_driver : (b : Bool) → (g.driver == alarm_driver) ≡ b → armed_of (grant_of alarm_driver others) ≡ None
        → armed_of (grant_of alarm_driver (cond b (with_value (AlarmValue None) g ∷ gs) (g ∷ others))) ≡ None
    by_driver true e rest =
        ap (λ (b : Bool). armed_of (cond b (Some (with_value (AlarmValue None) g)) (grant_of alarm_driver gs))) e
    by_driver false e rest =
        ap (λ (b : Bool). armed_of (cond b (Some g) (grant_of alarm_driver others))) e ∙ rest

-- of a process whose alarm fired none is armed
pub fired_unarmed : (now : ℕ) (old new : Own) (alarm : Armed) → due_alarm now old ≡ Some alarm
    → new ≡ own_after (answered now old) → alarm_in new ≡ None
unfolding answered
fired_unarmed now old new alarm due is =
    ap (λ (o : Own). alarm_in o) (is ∙ ap (λ (o : Option Armed). own_after (fired_if now old o)) due
    ∙ sym (keeping_commutes alarm_driver (AlarmValue None) (fired now alarm old).schedules (showing now old)))
    ∙ none_armed (own_scheduled alarm_driver 0 (now ∷ expiration alarm ∷ 0 ∷ []) (showing now old)).grants
