-- A run by round robin is one run, whether its steps are made one by one or its choices first; and when it is done.
-- When it is done is this board's own rule.
use Rattle.std.specs.Prelude.{◌≡◌, ◌⊎◌, ◌<◌, ◌≤◌, ◌↔◌, ℕ, ◌+◌, true, false, List, [], length, slice_get, None, IfSome}
use Rattle.tk_base.specs.declared.limits.TheConstants.{SLOT_COUNT, STEP_LIMIT}
use Rattle.tk_base.specs.declared.process.Choice.{Choice}
use Rattle.tk_base.specs.declared.process.Dev.{Dev}
use Rattle.driver_model.specs.Alarm.{alarm_in}
use Rattle.driver_model.specs.Commands.{Writes, Reads, Randoms, Stores}
use Rattle.kernel_model.specs.Record.{Record}
use Rattle.kernel_model.specs.World.{Work, World, line_by, may_serve, now_in, only_for, owns_in, work_at}
use Rattle.kernel_model.specs.Named.{slots_in}
use Rattle.kernel_model.specs.Named.{can_run}
use Rattle.kernel_model.specs.Run.{next, round}
use Rattle.kernel_model.specs.Choices.{are_ready, labels_of_all}
use Rattle.kernel_model.specs.Replay.{after_all, chosen}

-- the run of n steps by round robin leads where its choices lead, and tells what their steps tell
abbrev pub OneRun : Type 0
OneRun = (n : ℕ) (w : World) →
    round n w ≡ record { world = after_all w (chosen n w); labels = labels_of_all w (chosen n w) }

-- each of its choices is ready in its turn, within the limit of steps
abbrev pub ChosenAreReady : Type 0
ChosenAreReady = (n : ℕ) (w : World) → w.clock.steps + n ≤ STEP_LIMIT → are_ready w (chosen n w) ≡ true

-- a process has no alarm armed, or has ended
abbrev pub HasNoAlarm : Record → Type 0
HasNoAlarm r = r.own.lives ≡ true → alarm_in r.own ≡ None

-- the work for a slot: that of all slots, or with time partitions its own
abbrev pub work_with : World → ℕ → Work
work_with w slot = work_at (only_for w.pace.window slot) w.clock.time (now_in w) (owns_in w) w.devices

-- Nothing is left to do: no process is ready and no device is, in whichever slot's window, nothing is still to come in,
-- no process that lives has an alarm armed, and no write, no request for random bytes and none for storage waits; a
-- read may, where nothing that came in is left.
pub record NothingIsLeft (w : World) : Type 0 where
  pub slots : (slot : ℕ) → can_run (slice_get w.records slot) ≡ false
  pub devices : (slot : ℕ) → slot < SLOT_COUNT → (device : Dev) → (work_with w slot).ready device ≡ false
  pub arrivals : w.devices.arrivals ≡ []
  pub alarms : (slot : ℕ) → IfSome (slice_get w.records slot) HasNoAlarm
  pub writes : (slot : ℕ) → slot < SLOT_COUNT
      → may_serve (only_for w.pace.window slot) (slots_in Writes w.devices.waiting) ≡ []
  pub reads : (slot : ℕ) → slot < SLOT_COUNT → let only = only_for w.pace.window slot in
      (may_serve only (slots_in Reads w.devices.waiting) ≡ []) ⊎ ((line_by only w.devices).ring ≡ [])
  pub randoms : (slot : ℕ) → slot < SLOT_COUNT
      → may_serve (only_for w.pace.window slot) (slots_in Randoms w.devices.waiting) ≡ []
  pub stores : (slot : ℕ) → slot < SLOT_COUNT
      → may_serve (only_for w.pace.window slot) (slots_in Stores w.devices.waiting) ≡ []

-- on a board of no more processes than slots the round robin is done, after any choices, exactly where nothing is left
-- to do
abbrev pub IsDoneWhereNothingIsLeft : Type 0
IsDoneWhereNothingIsLeft = (w : World) (choices : List Choice) → length w.records ≤ SLOT_COUNT →
    let v = after_all w choices in (next v ≡ None) ↔ NothingIsLeft v
