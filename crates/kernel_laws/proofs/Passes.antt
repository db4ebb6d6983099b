-- That a pass stops at the nearest time, device by device.
use Rattle.kernel_laws.proofs.Cases.{cases_option}
use Rattle.std.proofs.Common.{inl, inr}
use Rattle.std.proofs.Common.{◌≡◌, ◌<◌, ℕ, ◌+◌, ◌%◌, ◌^◌, ◌&&◌, Bool, true, false, nat_le, List, [], ◌∷◌, Option}
use Rattle.std.proofs.Common.{Some, is_some, refl, sym, ap, ◌∙◌, arith}
use Rattle.std.specs.Option.{option_map}
use Rattle.std.proofs.lemmas.Bool.Decides.{nat_tests}
use Rattle.tk_base.specs.declared.process.Choice.TheVariants.{Pass}
use Rattle.tk_base.specs.declared.process.Dev.{Dev}
use Rattle.tk_base.specs.declared.process.Dev.TheVariants as dev
use Rattle.script_text.specs.Settings.{ScriptEvent as Arrival}
use Rattle.turn_scheduler.specs.RoundRobin.{choice, next_slot, ready_device}
use Rattle.board_devices.specs.Arriving.{first_arrival_time, is_time}
use Rattle.board_devices.specs.Clock.{clock_at}
use Rattle.driver_model.specs.Alarm.{due_for, left_for, nearer}
use Rattle.driver_model.specs.Laws.{QuietUntilNext}
use Rattle.kernel_model.specs.World.{World, can_act, can_act_at, line_by, now_in, one_waits, only_in, owns_in}
use Rattle.kernel_model.specs.World.{sending_time, work_in}
use Rattle.kernel_model.specs.Run.{next, next_time, ready_devices, ready_slots}
use Rattle.kernel_laws.specs.Passes.{PassesStopAtTheNearest}
use Rattle.kernel_laws.proofs.Alarms.{IsUpTo, PassesTo, chosen_pass, later_up_to, nearer_left, nearer_right, none_ready}
use Rattle.kernel_laws.proofs.Alarms.{passes_up_to}
use Rattle.kernel_laws.proofs.OneRun.{none_acts}

module _ (law : QuietUntilNext) (w : World) (ticks later : ℕ) (e : next w ≡ Some (Pass ticks)) (below : later < ticks)
  where
    abbrev only : Option ℕ
    only = only_in w

    abbrev alarms : Option ℕ
    alarms = option_map (λ (left : ℕ). w.clock.time + left) (left_for only (now_in w) (owns_in w))

    -- none is ready now
    none_now : (device : Dev) → can_act w device ≡ false
    none_now device = none_acts (work_in w only).ready (none_ready w (Pass ticks) e refl) device

    passes : PassesTo w.clock.time ticks (next_time w)
    unfolding next choice
    passes =
        chosen_pass w.clock.time ticks (ready_device (ready_devices w))
        (next_slot (ready_slots w) w.present.slot w.present.used w.pace.slice) (next_time w) e

    -- and what becomes ready does so later than that
    before : (x : ℕ) → IsUpTo x (work_in w only).next → w.clock.time + later < x
    before x up_to =
        let p = passes in
        let at = passes_up_to w w.pace.window x p.at p.is up_to in
        let by = p.by in
        omega (arith, at, by, below)

    of_arrivals : (arrivals : List Arrival)
        → ((x : ℕ) → IsUpTo x (first_arrival_time arrivals) → w.clock.time + later < x)
        → is_time (w.clock.time + later) arrivals ≡ false
    of_arrivals [] each = refl
    of_arrivals (event ∷ rest) each =
        let past : w.clock.time + later < event.time = each event.time (omega arith) in grind (arith, nat_tests)

    of_alarms : is_some (due_for only (clock_at w.settings.start (w.clock.time + later)) (owns_in w)) ≡ false
    of_alarms =
        let same : (clock_at w.settings.start w.clock.time + later) % 2 ^ 32
        ≡ clock_at w.settings.start (w.clock.time + later) = omega arith in
        ap (λ (now : ℕ). is_some (due_for only now (owns_in w))) (sym same)
        ∙ ap is_some (law only (now_in w) later (owns_in w)
        (elim (cases_option (left_for only (now_in w) (owns_in w))) [
          | inl none ↦ rw none tt
          | inr left ↦
              let up_to = nearer_right (first_arrival_time w.devices.arrivals)
              (nearer alarms (sending_time only w.devices)) (w.clock.time + left.0)
              (nearer_left alarms (sending_time only w.devices) (w.clock.time + left.0)
              (later_up_to w.clock.time left.0 (left_for only (now_in w) (owns_in w)) (rw left.1 (omega arith)))) in
              let past = before (w.clock.time + left.0) up_to in
              rw left.1 (omega (arith, past))
        ]))

    of_sending : (b : Bool) → one_waits only w.devices.waiting.writes ≡ b
        → (b && nat_le (line_by only w.devices).free (w.clock.time + later)) ≡ false
    of_sending false is = refl
    of_sending true is =
        let free = (line_by only w.devices).free in
        let up_to = nearer_right (first_arrival_time w.devices.arrivals)
        (nearer alarms (sending_time only w.devices)) free
        (nearer_right alarms (sending_time only w.devices) free
        (rw is (omega arith))) in
        let past : w.clock.time + later < free = before free up_to in
        grind (arith, nat_tests)

    none_later : (device : Dev)
        → can_act_at only (w.clock.time + later) (clock_at w.settings.start (w.clock.time + later)) (owns_in w)
        w.devices device ≡ false
    none_later dev.Event =
        of_arrivals w.devices.arrivals (λ x up_to. before x (nearer_left (first_arrival_time w.devices.arrivals)
        (nearer alarms (sending_time only w.devices)) x up_to))
    none_later dev.Alarm = of_alarms
    none_later dev.Uart = of_sending (one_waits only w.devices.waiting.writes) refl
    none_later device = none_now device

pub passes_stop_at_the_nearest : QuietUntilNext → PassesStopAtTheNearest
passes_stop_at_the_nearest law w ticks e later device below = none_later law w ticks later e below device
