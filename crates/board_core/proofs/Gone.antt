-- What stays, where the alarm of a process in a slot is due only if it was before, or the process leaves all queues:
-- less is ready than before. Whether one waits or is due is a search of a list of slots, and taking one slot from it,
-- or its alarm, finds nobody where nobody was found, by induction on the list. So what was calm is calm.
use Rattle.grant_enter.specs.Homes.{Homes}
use Rattle.process_record.specs.declared.process.Process.{Process}
use Rattle.board_turns.specs.Turning.{ChangesSlot}
use Rattle.std.proofs.Common.{◌≡◌, ℕ, ◌==◌, ◌&&◌, Bool, true, false, cond, not, List, [], ◌∷◌, find, length, nat_le}
use Rattle.std.proofs.Common.{option_map, slice_get, slice_set, is_some, Option, None, Some, refl}
use Rattle.std.proofs.Common.{sym, ap, ap₂, ◌∙◌}
use Rattle.std.proofs.Common.{eqb-true, eq-eqb}
use Rattle.std.proofs.lemmas.Bool.{false≢true}
use Rattle.std.specs.List.{range_with_len}
use Rattle.tk_base.specs.declared.limits.TheConstants.{SLOT_COUNT}
use Rattle.tk_base.specs.declared.process.Dev.TheVariants.{Event, Alarm, Uart, Receive, Random, Store}
use Rattle.tk_base.specs.declared.process.ProcessId.{ProcessId}
use Rattle.board_devices.specs.Arriving.{is_time}
use Rattle.board_devices.specs.Clock.{clock_at}
use Rattle.board_devices.specs.SerialLine.{SerialLine, line_at}
use Rattle.process_model.specs.Own.{Own}
use Rattle.driver_model.specs.Alarm.{alarm_in, due_for, due_slot, has_due, if_due, ticks_left, ticks_left_in}
use Rattle.driver_model.specs.Alarm.{ticks_left_of}
use Rattle.driver_model.specs.Commands.{Writes, Reads, Randoms, Stores, leaving_all}
use Rattle.driver_requests.specs.Waiting.{first_of, without}
use Rattle.kernel_model.specs.Named.{lane_by}
use Rattle.kernel_model.specs.Parts.{is_waited_for}
use Rattle.kernel_model.specs.World.{may_serve, only_at}
use Rattle.board_drivers.specs.declared.drivers.Drivers.{Drivers}
use Rattle.board_drivers.specs.Calm.{IsCalm}
use Rattle.board_drivers.specs.Driven.{Drives, slots_of}
use Rattle.board_drivers.proofs.Waiting.{waits_if_first}
use Rattle.board_turns.proofs.Denied.{HasNoneArmed}
use Rattle.board_turns.proofs.TurnsKept.{set_other, set_same}

-- whether one waits that may be served
abbrev one_of : Option ℕ → List ProcessId → Bool
one_of only ids = is_waited_for (may_serve only (slots_of ids))

both_fall : (a b c : Bool) → (a ≡ false → c ≡ false) → (a && b) ≡ false → (c && b) ≡ false
both_fall true b true falls e = e
both_fall true b false falls e = refl
both_fall false b c falls e = ap (λ (x : Bool). x && b) (falls refl)

-- where none waits, none does without a slot
none_first : (only : Option ℕ) (slot : ℕ) (ids : List ProcessId) → is_some (first_of only ids) ≡ false
    → is_some (first_of only (without slot ids)) ≡ false
none_first None slot [] e = refl
none_first None slot (id ∷ ids) e = absurd (false≢true (sym e))
none_first (Some only) slot [] e = refl
none_first (Some only) slot (id ∷ ids) e =
    by_test (id.slot == only) refl e (none_first (Some only) slot ids) (not (id.slot == slot))
  where
    by_test : (b : Bool) → (id.slot == only) ≡ b → is_some (cond b (Some id) (first_of (Some only) ids)) ≡ false
        → (is_some (first_of (Some only) ids) ≡ false → is_some (first_of (Some only) (without slot ids)) ≡ false)
        → (stays : Bool) → is_some
        (first_of (Some only) (cond stays (id ∷ without slot ids) (without slot ids))) ≡ false
    by_test true is e later stays = absurd (false≢true (sym e))
    by_test false is e later false = later e
    by_test false is e later true =
        ap (λ (b : Bool). is_some (cond b (Some id) (first_of (Some only) (without slot ids)))) is ∙ later e

fewer : (only : Option ℕ) (slot : ℕ) (ids : List ProcessId) → one_of only ids ≡ false
    → one_of only (without slot ids) ≡ false
fewer only slot ids e = waits_if_first only (without slot ids)
    ∙ none_first only slot ids (sym (waits_if_first only ids) ∙ e)

-- drivers that let a process go
pub gone_calm : (start window from until : ℕ) (owns : List Own) (id : ProcessId) (old new : Drivers)
    → Drives id leaving_all old new → IsCalm start window from until owns old → IsCalm start window from until owns new
gone_calm start window from until owns id old new drives calm = record {
  none = λ time low high. let at = calm.none time low high in
      let only = only_at time window in
      let line = λ (uarts : List SerialLine). line_at (lane_by only) uarts in
      elim [
        | Event ↦ ap (is_time time) drives.arrivals ∙ at Event
        | Alarm ↦ at Alarm
        | Uart ↦ ap₂
            (λ (ids : List ProcessId) (uarts : List SerialLine). one_of only ids && nat_le (line uarts).free time)
            (drives.queues Writes) drives.lines
            ∙ both_fall (one_of only old.console.writes) (nat_le (line old.uarts).free time)
            (one_of only (without id.slot old.console.writes)) (fewer only id.slot old.console.writes) (at Uart)
        | Receive ↦ ap₂ (λ (ids : List ProcessId) (uarts : List SerialLine). one_of only ids
            && not (length (line uarts).ring == 0)) (drives.queues Reads) drives.lines
            ∙ both_fall (one_of only old.console.reads) (not (length (line old.uarts).ring == 0))
            (one_of only (without id.slot old.console.reads)) (fewer only id.slot old.console.reads) (at Receive)
        | Random ↦ ap (one_of only) (drives.queues Randoms) ∙ fewer only id.slot old.random.waiting (at Random)
        | Store ↦ ap (one_of only) (drives.queues Stores) ∙ fewer only id.slot old.storage.waiting (at Store)
      ];
  same = calm.same;
}

-- of a process that has none armed, or lives no more, none is due, and no ticks are left of any
made_of_none : {X Y : Type 0} (f : Option X → Option Y) (b : Bool) (a : Option X) → f None ≡ None
    → cond b a None ≡ None → cond b (f a) None ≡ None
made_of_none f true a e none = ap f none ∙ e
made_of_none f false a e none = refl

pub none_due : (now : ℕ) (own : Own) → HasNoneArmed own → has_due now (Some own) ≡ false
none_due now own none = ap is_some (made_of_none (if_due now) own.lives (alarm_in own) refl none)

none_left : (now : ℕ) (own : Own) → HasNoneArmed own → ticks_left_of now own ≡ None
none_left now own none = made_of_none (option_map (ticks_left now)) own.lives (alarm_in own) refl none

find_less : (p q : ℕ → Bool) (slots : List ℕ) → ((x : ℕ) → p x ≡ false → q x ≡ false)
    → is_some (find p slots) ≡ false → is_some (find q slots) ≡ false
find_less p q [] falls e = refl
find_less p q (x ∷ slots) falls e = by_test (p x) refl e (find_less p q slots falls)
  where
    by_test : (b : Bool) → p x ≡ b → is_some (cond b (Some x) (find p slots)) ≡ false
        → (is_some (find p slots) ≡ false → is_some (find q slots) ≡ false)
        → is_some (cond (q x) (Some x) (find q slots)) ≡ false
    by_test true is e later = absurd (false≢true (sym e))
    by_test false is e later = ap (λ (b : Bool). is_some (cond b (Some x) (find q slots))) (falls x is) ∙ later e

module _ {slot : ℕ} {home home_after : Homes} {old new : List Process} (t : ChangesSlot slot home home_after old new)
    (falls : (now : ℕ) → has_due now (Some t.before.1) ≡ false → has_due now (Some t.after.1) ≡ false) where
  -- no more is due
  due_there : (now other : ℕ) (b : Bool) → (other == slot) ≡ b → has_due now (slice_get home.owns other) ≡ false
      → has_due now (slice_get (slice_set home.owns slot t.after.1) other) ≡ false
  due_there now other true e before =
      rw (eqb-true other slot e, set_same home.owns slot t.before.1 t.after.1 t.own_was)
      (falls now (rw (eqb-true other slot e, t.own_was) at before))
  due_there now other false e before =
      ap (has_due now) (set_other home.owns slot other t.after.1 (λ same. false≢true (sym e ∙ eq-eqb other slot same)))
      ∙ before

  less_due : (only : Option ℕ) (now : ℕ) → is_some (due_for only now home.owns) ≡ false
      → is_some (due_for only now (slice_set home.owns slot t.after.1)) ≡ false
  unfolding due_slot
  less_due None now e =
      find_less (λ other. has_due now (slice_get home.owns other))
      (λ other. has_due now (slice_get (slice_set home.owns slot t.after.1) other))
      (range_with_len 0 SLOT_COUNT) (λ other. due_there now other (other == slot) refl) e
  less_due (Some only) now e = by_test (has_due now (slice_get home.owns only)) refl e
    where
      by_test : (b : Bool) → has_due now (slice_get home.owns only) ≡ b
          → is_some (cond {A = Option ℕ} b (Some only) None) ≡ false
          → is_some
          (cond {A = Option ℕ} (has_due now (slice_get (slice_set home.owns slot t.after.1) only)) (Some only) None)
          ≡ false
      by_test true is e = absurd (false≢true (sym e))
      by_test false is e =
          ap (λ (b : Bool). is_some (cond {A = Option ℕ} b (Some only) None))
          (due_there now only (only == slot) refl is)

  -- so it stays calm
  pub less_calm : (start window from until : ℕ) (d : Drivers) → IsCalm start window from until home.owns d
      → IsCalm start window from until home_after.owns d
  less_calm start window from until d calm = rw t.own_is (record {
    none = λ time low high. let at = calm.none time low high in elim [
      | Event ↦ at Event
      | Alarm ↦ less_due (only_at time window) (clock_at start time) (at Alarm)
      | Uart ↦ at Uart
      | Receive ↦ at Receive
      | Random ↦ at Random
      | Store ↦ at Store
    ];
    same = calm.same;
  })

-- no ticks are left of an alarm in a slot that has none armed
pub none_left_there : {slot : ℕ} {home home_after : Homes} {old new : List Process}
    (t : ChangesSlot slot home home_after old new) → HasNoneArmed t.after.1 → (now : ℕ)
    → ticks_left_in now home_after.owns slot ≡ None
none_left_there {slot} {home} t none now =
    rw (t.own_is, set_same home.owns slot t.before.1 t.after.1 t.own_was) (none_left now t.after.1 none)
