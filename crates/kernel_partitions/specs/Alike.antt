-- What a slot has of a world with time partitions: its process, its lane of each device, and what comes in. It is this
-- board's own rule.
use Rattle.std.specs.Prelude.{◌≡◌, ◌≤◌, ℕ, None, Some, All, slice_get}
use Rattle.script_text.specs.Settings.{ScriptEvent as Arrival}
use Rattle.board_devices.specs.Arriving.{act_of}
use Rattle.driver_model.specs.Commands.{QueueName}
use Rattle.kernel_model.specs.World.{Devices, World}
use Rattle.kernel_model.specs.Named.{waits_in}

-- an event is no operator's act
abbrev pub IsNoAct : Arrival → Type 0
IsNoAct arrival = act_of arrival.kind ≡ None

-- A world with time partitions, in which no operator is to act: whom he means goes by the names of all processes.
pub record IsPartitioned (w : World) : Type 0 where
  pub windows : 1 ≤ w.pace.window
  pub no_acts : All IsNoAct w.devices.arrivals

-- Devices are alike in the lane of a slot: the same is still to come in, and the same storage requests fail; the lane
-- has the same serial line, random words and number of served requests; and the slot waits in the same queues.
pub record LanesAreAlike (slot : ℕ) (d e : Devices) : Type 0 where
  pub arrivals : d.arrivals ≡ e.arrivals
  pub faults : d.faults ≡ e.faults
  pub line : slice_get d.lines slot ≡ slice_get e.lines slot
  pub words : slice_get d.words slot ≡ slice_get e.words slot
  pub served : slice_get d.served slot ≡ slice_get e.served slot
  pub waits : (queue : QueueName) → waits_in (Some slot) queue d ≡ waits_in (Some slot) queue e

-- Two worlds are alike in a slot: they have the same windows, settings and time, the slot's processes the same record,
-- and the devices are alike in its lane. Of other slots nothing is said, nor of what no process sees: the LEDs, and how
-- many steps were made.
pub record AreAlikeIn (slot : ℕ) (v w : World) : Type 0 where
  pub window : v.pace.window ≡ w.pace.window
  pub settings : v.settings ≡ w.settings
  pub time : v.clock.time ≡ w.clock.time
  pub record_is : slice_get v.records slot ≡ slice_get w.records slot
  pub lanes : LanesAreAlike slot v.devices w.devices
