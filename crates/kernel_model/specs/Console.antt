-- What an operator's act leaves of the board: its verbs are those of Tock's process console; when it comes is this
-- board's own rule.
use Rattle.std.specs.Prelude.{◌≡◌, ℕ, ◌+◌, if◌then◌else◌, List, [], ◌∷◌, drop, slice_get, slice_set, Option, None, Some}
use Rattle.std.specs.Prelude.{map, option_and_then, option_map, unwrap_or}
use Rattle.tk_base.specs.declared.process.Choice.{Choice}
use Rattle.tk_base.specs.declared.process.Verb.{Verb}
use Rattle.board_devices.specs.Arriving.{act_of}
use Rattle.process_record.specs.Operator.{ends_by}
use Rattle.process_record.specs.Lines.{slot_named}
use Rattle.kernel_model.specs.Record.{Record, slot_line_of}
use Rattle.kernel_model.specs.Turn.{Act, operated}
use Rattle.kernel_model.specs.World.{Label, WaitingSlots, World, after, answer_label, labels, listed, queue_without}
use Rattle.kernel_model.specs.Edges.{arrival_in}

-- what comes of the process in a slot, if there is one: as one of these where nobody is there, as another by its record
abbrev pub on_process : {X : Type 0} → X → (ℕ → Record → X) → List Record → Option ℕ → X
on_process none some rs None = none
on_process none some rs (Some slot) = unwrap_or (option_map (some slot) (slice_get rs slot)) none

-- those that wait without a slot, in each queue
abbrev pub without_slot : ℕ → WaitingSlots → WaitingSlots
without_slot slot all =
    let rest = queue_without slot in
    record { writes = rest all.writes; reads = rest all.reads; randoms = rest all.randoms; stores = rest all.stores }

-- those that wait after an act on the process in a slot, which waits no more where a life of it ended
abbrev pub waiting_after : Verb → WaitingSlots → ℕ → Record → WaitingSlots
waiting_after verb waiting slot r = if ends_by verb r.process then without_slot slot waiting else waiting

-- An operator's act changes the record of the process that it names, that process's requests in the waiting lists, the
-- list of what is still to come in, and the count of steps; of the rest of the board it changes nothing. It is told to
-- that process alone, and prints its line where it is listed.
pub record ActsOnOne (w v : World) (told : List Label) (verb : Verb) (name : List ℕ) : Type 0 where
  pub world :
      let slot = slot_named name (map slot_line_of w.records) in
      v ≡ record w {
        records = on_process w.records (λ slot r. slice_set w.records slot (operated verb r)) w.records slot;
        devices = record w.devices {
          waiting = on_process w.devices.waiting (waiting_after verb w.devices.waiting) w.records slot;
          arrivals = drop 1 w.devices.arrivals;
        };
        clock = record w.clock { steps = w.clock.steps + 1 };
      }
  pub tells : told
      ≡ on_process [] (λ slot r. answer_label slot (record { event = Act verb; printed = listed verb slot r }) ∷ [])
      w.records (slot_named name (map slot_line_of w.records))

-- so it is in a step that lets an act in, of a verb and a name
abbrev pub OperatesOne : World → Choice → Type 0
OperatesOne w choice = (verb : Verb) (name : List ℕ) →
    option_and_then (λ a. act_of a.kind) (arrival_in w choice) ≡ Some (verb, name) →
    ActsOnOne w (after w choice) (labels w choice) verb name

-- and so in every step of every world
abbrev pub StepsOperateOne : Type 0
StepsOperateOne = (w : World) (choice : Choice) → OperatesOne w choice
