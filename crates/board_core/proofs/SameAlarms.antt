-- What stays, where a process in a slot has the same alarm as before, and lives as before.
use Rattle.board_core.proofs.Gone.{less_calm}
use Rattle.grant_enter.specs.Homes.{Homes}
use Rattle.process_record.specs.declared.process.Process.{Process}
use Rattle.board_turns.specs.Turning.{ChangesSlot}
use Rattle.std.proofs.Common.{◌≡◌, ℕ, ◌==◌, Bool, true, false, cond, List, slice_get}
use Rattle.std.proofs.Common.{slice_set, slice_index_or, is_some, option_map, Option, None, Some, refl, sym, ap, ap₂}
use Rattle.std.proofs.Common.{◌∙◌, eqb-true, eq-eqb}
use Rattle.std.proofs.lemmas.Bool.{false≢true}
use Rattle.process_model.specs.Own.{Own}
use Rattle.driver_model.specs.Alarm.{alarm_in, if_due, ticks_left}
use Rattle.kernel_alarms.specs.Acting.{HasSameAlarm}
use Rattle.alarm_capsule.specs.Times.{AllTell, TellsAlarm}
use Rattle.alarm_capsule.proofs.KeptTimes.{others_tell}
use Rattle.board_drivers.specs.declared.drivers.Drivers.{Drivers}
use Rattle.board_drivers.specs.Calm.{IsCalm}
use Rattle.board_turns.proofs.TurnsKept.{set_same}

-- what is told of its alarm stays true
same_alarm_tells : (now time : ℕ) (kept : Option ℕ) (own o : Own) → HasSameAlarm own o
    → TellsAlarm now time kept (Some own) → TellsAlarm now time kept (Some o)
same_alarm_tells now time None own o same_alarm tells =
    ap₂ (λ b a. cond b (option_map (ticks_left now) a) None) same_alarm.1 same_alarm.0 ∙ tells
same_alarm_tells now time (Some at) own o same_alarm tells = λ ahead.
    let due = tells ahead in
    let same : own ≡ due.own = cc (due.there) in
    record {
      own = o;
      there = refl;
      lives = same_alarm.1 ∙ ap (λ (x : Own). x.lives) same ∙ due.lives;
      alarm = due.alarm;
      armed = same_alarm.0 ∙ ap alarm_in same ∙ due.armed;
      reference = due.reference;
      delta = due.delta;
      left = due.left;
    }

module _ {slot : ℕ} {home home_after : Homes} {old new : List Process} (t : ChangesSlot slot home home_after old new)
    (same_alarm : HasSameAlarm t.before.1 t.after.1) where
  tells_there : (now time : ℕ) (times : List (Option ℕ)) → AllTell now time times home.owns → (other : ℕ) (b : Bool)
      → (other == slot) ≡ b → TellsAlarm now time (slice_index_or times other None)
      (slice_get (slice_set home.owns slot t.after.1) other)
  tells_there now time times tell other true e =
      rw (eqb-true other slot e, set_same home.owns slot t.before.1 t.after.1 t.own_was)
      (same_alarm_tells now time (slice_index_or times slot None) t.before.1 t.after.1 same_alarm
      (rw t.own_was at (tell slot)))
  tells_there now time times tell other false e =
      others_tell now time slot times home.owns t.after.1 tell other
      (λ same. false≢true (sym e ∙ eq-eqb other slot same))

  -- so the times that are kept tell of all alarms still
  pub same_alarms_tell : (now time : ℕ) (times : List (Option ℕ)) → AllTell now time times home.owns
      → AllTell now time times home_after.owns
  same_alarms_tell now time times tell =
      rw t.own_is (λ other. tells_there now time times tell other (other == slot) refl)

  -- and it stays calm
  pub same_alarms_calm : (start window from until : ℕ) (d : Drivers) → IsCalm start window from until home.owns d
      → IsCalm start window from until home_after.owns d
  same_alarms_calm =
      less_calm t (λ now none. ap₂ (λ b a. is_some (cond b (if_due now a) None)) same_alarm.1 same_alarm.0 ∙ none)
