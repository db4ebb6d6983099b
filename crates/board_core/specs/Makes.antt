-- A step of a board that shows a world. How one is made is this board's own rule.
use Rattle.std.specs.Prelude.{◌≡◌, ◌↔◌, ℕ, ◌==◌, if◌then◌else◌, Bool, List, [], ◌∷◌, length, map}
use Rattle.std.specs.Prelude.{Option, None, Some, Result, IsOk, IsTrue, OnOk, OnErr, option_and_then, option_map}
use Rattle.tk_base.specs.declared.process.Verb.{Verb}
use Rattle.tk_base.specs.declared.process.Choice.{Choice}
use Rattle.process_record.specs.declared.emit.Emit.{Emit}
use Rattle.process_record.specs.Emit.{nothing}
use Rattle.process_model.specs.Own.{Own}
use Rattle.turn_scheduler.specs.RoundRobin.{device_order}
use Rattle.board_devices.specs.Arriving.{first_act}
use Rattle.kernel_model.specs.World.{World, after, is_ready, labels}
use Rattle.kernel_model.specs.Accounts.{IsAccountedFor}
use Rattle.kernel_model.specs.Parts.{slot_of_name}
use Rattle.kernel_model.specs.Shown.{shown_by}
use Rattle.tk_base.specs.declared.process.NotReady.{NotReady}
use Rattle.board_opening.specs.Alone.{IsReplayed}
use Rattle.board_drivers.specs.declared.drivers.Drivers.{Drivers}
use Rattle.board_drivers.specs.declared.moment.Moment.{Moment}
use Rattle.board_drivers.specs.Calm.{work_then}

-- what a board shows: its world, and what its last step told
pub record Showing : Type 0 where
  pub world : World
  pub emit : Emit

-- a world, and what the step to it told
abbrev pub showing : World → Emit → Showing
showing w e = record { world = w; emit = e }

-- A choice that may be made is made: the world is the next one, and what it tells is shown. Any other is refused, and
-- nothing changes.
pub record MakesStep (choice : Choice) (old new : Showing) (result : Result Unit NotReady) : Type 0 where
  pub ready : IsOk result ↔ IsTrue (is_ready old.world choice)
  pub ok : OnOk result (new.world ≡ after old.world choice)
  pub shown : OnOk result (new.emit ≡ shown_by (labels old.world choice))
  pub refused : OnErr result ((new.world ≡ old.world) × (new.emit ≡ old.emit))

-- So a board steps; made or refused, the step is accounted for, and where it is made each record is the replay of what
-- its process did in it, or was told.
pub record Steps (choice : Choice) (old new : Showing) (result : Result Unit NotReady) : Type 0 where
  pub makes : MakesStep choice old new result
  pub accounted : IsAccountedFor old.world choice
  pub records : OnOk result (IsReplayed old.world new.world (choice ∷ []))

-- what a step shows that printed bytes for a slot's process
abbrev pub shown_printed : ℕ → List ℕ → Emit
shown_printed slot bytes = record nothing {
  slot = if length bytes == 0 then None else Some slot;
  printed = record { items = bytes };
}

-- what a step shows in which an operator acted on a slot's process, and these bytes were printed
abbrev pub shown_act : ℕ → Verb → List ℕ → Emit
shown_act slot verb bytes = record nothing {
  slot = Some slot;
  act = Some (slot, verb);
  printed = record { items = bytes };
}

-- the act of an operator that is next to come in, with the slot of the process that it means, if it means one
abbrev pub act_meant : World → Option (ℕ × Verb)
act_meant w =
    option_and_then (λ act. option_map (λ slot. (slot, act.0)) (slot_of_name act.1 w.records))
    (first_act w.devices.arrivals)

-- which device steps are ready at a moment
abbrev pub ready_in : Moment → List Own → Drivers → List Bool
ready_in m owns d = map (work_then m owns d).ready device_order
