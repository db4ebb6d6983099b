-- What a step and a world show: the facts of the report, and of one step. What is shown is this board's own rule.
use Rattle.std.specs.Prelude.{◌≡◌, ◌==◌, true, not, ◌||◌, if◌then◌else◌, List, [], ◌∷◌, ◌++◌, length}
use Rattle.std.specs.Prelude.{map, ℕ, Option, None, Some}
use Rattle.tk_base.specs.declared.process.Verb.{Verb}
use Rattle.process_record.specs.declared.emit.Emit.{Emit}
use Rattle.process_record.specs.declared.summary.Summary.{Summary}
use Rattle.kernel_model.specs.Record.{slot_line_of}
use Rattle.kernel_model.specs.Turn.{Act, Event, is_act, is_turn}
use Rattle.kernel_model.specs.World.{World, Label}

-- what the report says of a world
unfoldable pub summary_of : World → Summary
summary_of w = record {
  slots = record { items = map slot_line_of w.records };
  unplaced = record { items = w.unplaced };
  leds = w.devices.leds;
  led_count = w.settings.leds;
  steps = w.clock.steps;
  time = w.clock.time;
}

-- the act of an operator in an event of the process in a slot, if it is one
abbrev pub act_shown : ℕ → Event → Option (ℕ × Verb)
act_shown slot (Act verb) = Some (slot, verb)
act_shown slot other = None

-- what a step shows once it has told a label: it is shown of a turn, of an operator's act, and of what was printed; of
-- an answer for which nothing was printed, nothing
abbrev pub with_label : Label → Emit → Emit
with_label label e =
    if is_turn label.event || (is_act label.event || not (length label.printed == 0)) then record {
      slot = Some label.slot;
      act = act_shown label.slot label.event;
      made = label.trace.call;
      denial = label.trace.denial;
      printed = record { items = label.printed ++ e.printed.items };
    } else e

-- what a step shows that told these labels
unfoldable pub shown_by : List Label → Emit
shown_by [] = record { printed = record { items = [] }; slot = None; act = None; made = None; denial = None }
shown_by (label ∷ labels) = with_label label (shown_by labels)

-- a turn that is told is shown: its slot, its call, and its denial with address and rule
abbrev pub IsShownIn : Emit → Label → Type 0
IsShownIn emit label =
    is_turn label.event ≡ true →
    (emit.slot ≡ Some label.slot) × (emit.made ≡ label.trace.call) × (emit.denial ≡ label.trace.denial)
