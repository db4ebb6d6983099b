-- No device step is ready before the nearest time at which one becomes so, nor before the window's end, where nobody is
-- served at once. Device by device: its test at a later time is false by that time alone, since what it has does not
-- change. Time, a change of one own that leaves its alarm, and drivers of which nothing is asked keep the calm.
use Rattle.std.proofs.Common.{zero, suc}
use Rattle.std.proofs.Common.{◌≡◌, ℕ, ◌+◌, ◌-◌, ◌%◌, ◌^◌, ◌<◌, ◌≤◌, ◌==◌, Bool, true, false, cond, not, ◌&&◌, nat_le}
use Rattle.std.proofs.Common.{if◌then◌else◌, List, [], ◌∷◌, length, map, find, slice_get, slice_set, is_some}
use Rattle.std.proofs.Common.{option_and_then, Option, None, Some, IfSome, min, refl, sym, ap, ap₂, ◌∙◌, arith}
use Rattle.std.specs.List.{range_with_len}
use Rattle.std.specs.Option.{option_map}
use Rattle.std.proofs.Math.Seq.{map-set_same}
use Rattle.std.proofs.lemmas.Bool.Decides.{nat_tests}
use Rattle.std.proofs.lemmas.Option.{slice_get-map, get_or_from_slice_get}
use Rattle.tk_base.specs.declared.limits.TheConstants.{SLOT_COUNT}
use Rattle.script_text.specs.Settings.{ScriptEvent}
use Rattle.tk_base.specs.declared.process.Dev.TheVariants.{Event, Alarm, Uart, Receive, Random, Store}
use Rattle.tk_base.specs.declared.process.ProcessId.{ProcessId}
use Rattle.board_devices.specs.Arriving.{is_time, first_arrival_time}
use Rattle.board_devices.specs.SerialLine.{SerialLine, line_at}
use Rattle.board_devices.specs.Clock.{clock_at}
use Rattle.grant_model.specs.Grants.{Grant, grant_of}
use Rattle.process_model.specs.Own.{Own}
use Rattle.driver_model.specs.Alarm.{armed_in, due_for, due_slot, has_due, if_due, left_for, nearer}
use Rattle.driver_model.specs.Commands.{Writes, Reads, Randoms, Stores}
use Rattle.driver_model.specs.Laws.{QuietUntilNext}
use Rattle.grant_enter.specs.Homes.{nobody}
use Rattle.kernel_model.specs.World.{may_serve, only_at, sending_time}
use Rattle.kernel_model.specs.Parts.{line_in}
use Rattle.kernel_model.specs.Named.{waits_in}
use Rattle.kernel_model.specs.Named.{lane_by}
use Rattle.kernel_model.specs.Parts.{is_waited_for}
use Rattle.kernel_model.specs.World.{work_at}
use Rattle.partition_turns.specs.Laws.{WindowsAreInTurn}
use Rattle.partition_turns.specs.Windows.{window_end}
use Rattle.tk_base.specs.declared.process.Dev.{Dev}
use Rattle.board_drivers.specs.declared.drivers.Drivers.{Drivers}
use Rattle.board_drivers.specs.declared.moment.Moment.{Moment}
use Rattle.board_drivers.specs.declared.served.Served.{Served}
use Rattle.board_drivers.specs.Calm.{HasCome, IsCalm, IsCalmAt, ServesNobody, can_act_at_once, end_at, only_of}
use Rattle.board_drivers.specs.Calm.{work_of_served, work_then}
use Rattle.board_drivers.specs.Driven.{Drives, devices_of, slots_of}

-- what there is to do for those who are served now
pub served_now : (m : Moment) (served : Served) (owns : List Own) (d : Drivers) → served.only ≡ only_of m
    → work_of_served m served owns d ≡ work_then m owns d
served_now m served owns d is =
    ap (λ (only : Option ℕ). work_at only m.time (clock_at m.settings.start m.time) owns (devices_of d)) is

-- where none of the devices that act at once is ready for them, nobody is served at once
pub serves_nobody : (m : Moment) (served : Served) (owns : List Own) (d : Drivers) → served.only ≡ only_of m
    → (work_of_served m served owns d).ready Receive ≡ false → (work_of_served m served owns d).ready Random ≡ false
    → (work_of_served m served owns d).ready Store ≡ false → ServesNobody (only_of m) d
serves_nobody m served owns d is receive random store = record {
  receive = ap (λ (only : Option ℕ). can_act_at_once only d Receive) (sym is) ∙ receive;
  random = ap (λ (only : Option ℕ). can_act_at_once only d Random) (sym is) ∙ random;
  store = ap (λ (only : Option ℕ). can_act_at_once only d Store) (sym is) ∙ store;
}

the_same : (x y : ℕ) → ◌≡◌ {A = Option ℕ} (Some x) (Some y) → x ≡ y
the_same x y e = cc

-- where the nearer of two times has come, and the second lies ahead, the first has come
pub first_has_come : (time at : ℕ) (next end : Option ℕ) → Some at ≡ nearer next end → IfSome end (λ at. time < at)
    → at ≤ time → HasCome time next
first_has_come time at None None e ahead low = cc
first_has_come time at None (Some y) e ahead low = absurd (omega (arith, ahead, low, the_same at y e))
first_has_come time at (Some x) None e ahead low = omega (arith, low, the_same at x e)
first_has_come time at (Some x) (Some y) e ahead low = omega (arith, ahead, low, the_same at (min x y) e)

-- a time that follows another by some ticks, on the clock
on_the_clock : (start from time : ℕ) → from ≤ time
    → (clock_at start from + (time - from)) % 2 ^ 32 ≡ clock_at start time
on_the_clock start from time h = omega (arith, h)

-- no alarm is due before as many ticks have passed as are left
alarm_calm : (only : Option ℕ) (start from time : ℕ) (owns : List Own) → QuietUntilNext → from ≤ time
    → IfSome (left_for only (clock_at start from) owns) (λ ticks. time - from < ticks)
    → due_for only (clock_at start time) owns ≡ None
alarm_calm only start from time owns law low more =
    ap (λ (now : ℕ). due_for only now owns) (sym (on_the_clock start from time low))
    ∙ law only (clock_at start from) (time - from) owns more

-- a time before the nearer of two is before both
before_both : (time : ℕ) (a b : Option ℕ) → IfSome (nearer a b) (λ at. time < at)
    → IfSome a (λ at. time < at) × IfSome b (λ at. time < at)
before_both time None b h = (tt, h)
before_both time (Some x) None h = (h, tt)
before_both time (Some x) (Some y) h = (omega (arith, h), omega (arith, h))

ticks_before : (from time : ℕ) (left : Option ℕ) → from ≤ time
    → IfSome (option_map (λ n. from + n) left) (λ at. time < at) → IfSome left (λ ticks. time - from < ticks)
ticks_before from time None low h = tt
ticks_before from time (Some ticks) low h = omega (arith, low, h)

no_arrival : (time : ℕ) (events : List ScriptEvent) → IfSome (first_arrival_time events) (λ at. time < at)
    → is_time time events ≡ false
no_arrival time [] h = refl
no_arrival time (event ∷ rest) h = grind (arith, nat_tests)

no_sending : (waits : Bool) (free time : ℕ) → IfSome (if waits then Some free else None) (λ at. time < at)
    → (waits && nat_le free time) ≡ false
no_sending false free time h = refl
no_sending true free time h = grind (arith, nat_tests)

-- no device step is ready for whom it serves before the nearest time at which one becomes so, where nobody is served at
-- once
calm_for : (only : Option ℕ) (start from time : ℕ) (owns : List Own) (d : Drivers) (next : Option ℕ) → QuietUntilNext
    → ServesNobody only d → next ≡ (work_at only from (clock_at start from) owns (devices_of d)).next
    → from ≤ time → IfSome next (λ at. time < at)
    → (device : Dev) → (work_at only time (clock_at start time) owns (devices_of d)).ready device ≡ false
calm_for only start from time owns d next law serves is low more =
    let alarm = option_map (λ n. from + n) (left_for only (clock_at start from) owns) in
    let sends = sending_time only (devices_of d) in
    let all = before_both time (first_arrival_time d.arrivals) (nearer alarm sends) (rw is at more) in
    let others = before_both time alarm sends all.1 in
    elim [
      | Event ↦ no_arrival time d.arrivals all.0
      | Alarm ↦ ap is_some (alarm_calm only start from time owns law low
          (ticks_before from time (left_for only (clock_at start from) owns) low others.0))
      | Uart ↦ no_sending (waits_in only Writes (devices_of d)) (line_in (lane_by only) (devices_of d)).free time
          others.1
      | Receive ↦ serves.receive
      | Random ↦ serves.random
      | Store ↦ serves.store
    ]

-- up to its end a window is the same slot's
same_window : WindowsAreInTurn → (time from n : ℕ) → from ≤ time → time < window_end from (suc n)
    → only_at time (suc n) ≡ only_at from (suc n)
same_window windows time from n low high = ap Some ((windows from (suc n) (omega arith)).slot_lasts time low high)

only_lasts : WindowsAreInTurn → (time from window : ℕ) → from ≤ time → IfSome (end_at from window) (λ at. time < at)
    → only_at time window ≡ only_at from window
only_lasts windows time from zero low high = refl
only_lasts windows time from (suc n) low high = same_window windows time from n low high

-- no device step is ready before the nearest time at which one becomes so, and before the window's end, where nobody is
-- served at once
pub calm_since : (start window from time : ℕ) (owns : List Own) (d : Drivers) (next until : Option ℕ)
    → WindowsAreInTurn → QuietUntilNext → ServesNobody (only_at from window) d
    → next ≡ (work_at (only_at from window) from (clock_at start from) owns (devices_of d)).next
    → until ≡ nearer next (end_at from window)
    → from ≤ time → IfSome until (λ at. time < at) → IsCalmAt start window time owns d
calm_since start window from time owns d next until windows law serves is first low more =
    let both = before_both time next (end_at from window) (rw first at more) in
    rw (only_lasts windows time from window low both.1)
    (calm_for (only_at from window) start from time owns d next law serves is low both.0)

-- nor does the window change before
pub same_since : (window from time : ℕ) (next until : Option ℕ) → WindowsAreInTurn
    → until ≡ nearer next (end_at from window) → from ≤ time → IfSome until (λ at. time < at)
    → only_at time window ≡ only_at from window
same_since window from time next until windows first low more =
    only_lasts windows time from window low
    (before_both time next (end_at from window) (rw first at more)).1

-- it is calm as long as no time passes
pub calm_now : (start window time : ℕ) (owns : List Own) (d : Drivers) → IsCalm start window time time owns d
calm_now start window time owns d = record {
  none = λ at low high. absurd (omega (arith, low, high));
  same = λ at low high. absurd (omega (arith, low, high));
}

-- what an alarm has of a process
abbrev AlarmsOf : Type 0
AlarmsOf = Bool × List Grant

alarms_of : Own → AlarmsOf
alarms_of own = (own.lives, own.grants)

has_due_of : ℕ → Option AlarmsOf → Bool
has_due_of now o =
    is_some (option_and_then (λ (a : AlarmsOf). cond a.0
    (if_due now (armed_in (option_map (λ g. g.value) (grant_of 0 a.1)))) None) o)

due_by : (now : ℕ) (o : Option Own) → has_due now o ≡ has_due_of now (option_map alarms_of o)
unfolding has_due_of alarms_of
due_by now None = refl
due_by now (Some own) = refl

find_same : (p q : ℕ → Bool) (xs : List ℕ) → ((x : ℕ) → p x ≡ q x) → find p xs ≡ find q xs
find_same p q [] same = refl
find_same p q (x ∷ xs) same = ap₂ (λ (b : Bool) (o : Option ℕ). cond b (Some x) o) (same x) (find_same p q xs same)

-- where all processes keep the same for the alarm, the same is due
same_there : (now : ℕ) (owns others : List Own) → map alarms_of owns ≡ map alarms_of others → (slot : ℕ)
    → has_due now (slice_get owns slot) ≡ has_due now (slice_get others slot)
same_there now owns others same slot =
    due_by now (slice_get owns slot)
    ∙ ap (has_due_of now) (sym (slice_get-map alarms_of owns slot) ∙ ap (λ (xs : List AlarmsOf). slice_get xs slot) same
    ∙ slice_get-map alarms_of others slot)
    ∙ sym (due_by now (slice_get others slot))

same_due : (only : Option ℕ) (now : ℕ) (owns others : List Own) → map alarms_of owns ≡ map alarms_of others
    → due_for only now owns ≡ due_for only now others
unfolding due_slot
same_due None now owns others same =
    find_same (λ slot. has_due now (slice_get owns slot)) (λ slot. has_due now (slice_get others slot))
    (range_with_len 0 SLOT_COUNT) (same_there now owns others same)
same_due (Some only) now owns others same =
    ap (λ (b : Bool). cond {A = Option ℕ} b (Some only) None) (same_there now owns others same only)

-- time that passes leaves it calm
pub later_calm : (start window from later until : ℕ) (owns : List Own) (d : Drivers) → from ≤ later
    → IsCalm start window from until owns d → IsCalm start window later until owns d
later_calm start window from later until owns d h calm = record {
  none = λ time low high. calm.none time (omega (arith, low, h)) high;
  same = λ time low high. calm.same time (omega (arith, low, h)) high
      ∙ sym (calm.same later h (omega (arith, low, high)));
}

-- and so does what becomes of a slot's process, where it keeps the same for the alarm
pub kept_calm : (start window from until slot : ℕ) (owns : List Own) (d : Drivers) (own o : Own)
    → slice_get owns slot ≡ Some own → o.grants ≡ own.grants → o.lives ≡ own.lives
    → IsCalm start window from until owns d → IsCalm start window from until (slice_set owns slot o) d
unfolding alarms_of
kept_calm start window from until slot owns d own o was grants lives calm = record {
  none = λ time low high. let at = calm.none time low high in elim [
    | Event ↦ at Event
    | Alarm ↦ ap is_some (same_due (only_at time window) (clock_at start time) (slice_set owns slot o) owns
        (map-set_same alarms_of owns slot o nobody
        (ap₂ (λ (b : Bool) (gs : List Grant). (b, gs)) lives grants
        ∙ ap alarms_of (sym (get_or_from_slice_get owns slot own nobody was)))))
        ∙ at Alarm
    | Uart ↦ at Uart
    | Receive ↦ at Receive
    | Random ↦ at Random
    | Store ↦ at Store
  ];
  same = calm.same;
}

-- and so do drivers of which nothing is asked
pub idle_calm : (start window from until : ℕ) (owns : List Own) (id : ProcessId) (old new : Drivers)
    → Drives id [] old new → IsCalm start window from until owns old → IsCalm start window from until owns new
idle_calm start window from until owns id old new drives calm = record {
  none = λ time low high. let at = calm.none time low high in
      let only = only_at time window in
      let waits = λ (ids : List ProcessId). is_waited_for (may_serve only (slots_of ids)) in
      let line = λ (uarts : List SerialLine). line_at (lane_by only) uarts in
      elim [
        | Event ↦ ap (is_time time) drives.arrivals ∙ at Event
        | Alarm ↦ at Alarm
        | Uart ↦ ap₂ (λ (ids : List ProcessId) (uarts : List SerialLine). waits ids && nat_le (line uarts).free time)
            (drives.queues Writes) drives.lines ∙ at Uart
        | Receive ↦ ap₂ (λ (ids : List ProcessId) (uarts : List SerialLine). waits ids
            && not (length (line uarts).ring == 0)) (drives.queues Reads) drives.lines ∙ at Receive
        | Random ↦ ap waits (drives.queues Randoms) ∙ at Random
        | Store ↦ ap waits (drives.queues Stores) ∙ at Store
      ];
  same = calm.same;
}
