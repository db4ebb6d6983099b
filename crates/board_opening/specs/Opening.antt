-- The opening world of a flash image under a script: its applications in their places, before the first step. Where
-- they start is the Tock Binary Format, "Main"; what the devices begin with is this board's own rule.
use Rattle.std.specs.Prelude.{ℕ, ◌+◌, ◌-◌, Bool, List, [], filter_map, replicate, Option, None, option_and_then}
use Rattle.std.specs.Prelude.{option_map}
use Rattle.std.specs.Result.{result_ok, result_err}
use Rattle.tk_base.specs.declared.access.TheConstants.{FLASH_START, RAM_START}
use Rattle.tbf_headers.specs.declared.program.Main.{Main}
use Rattle.tbf_headers.specs.Meaning.{Meaning, header_reading, of_app}
use Rattle.process_layout.specs.LayoutView.{LayoutView}
use Rattle.process_model.specs.Own as own
use Rattle.flash_walk.specs.Image.{object_bytes}
use Rattle.app_placement.specs.Applications.{applications}
use Rattle.app_placement.specs.Placement.{places_from}
use Rattle.app_placement.specs.declared.placed.Placed.{Placed}
use Rattle.process_record.specs.Process.{started}
use Rattle.process_record.specs.Summary.{Unplaced}
use Rattle.script_text.specs.Settings.{ScriptSettings as Script}
use Rattle.kernel_model.specs.Record.{Record}
use Rattle.kernel_model.specs.World.{World, lane_count}
use Rattle.board_opening.specs.Settings.{is_partitioned, visible_settings}

-- the first record of an application with these bytes, whose object stands at an address: at its start, its block
-- zeroed, so many bytes of storage erased, and no button pressed
abbrev pub first_record : ℕ → List ℕ → ℕ → LayoutView → Meaning → Main → Record
first_record storage object address e h m = record {
  process = started address h m e.start (e.end - e.start) e.brk;
  object = object;
  own = own.opened (record { object = record { address = address; size = h.total_size }; layout = e });
  storage = replicate storage 0xFF;
  pressed = 0;
}

-- of one whose object stands at an offset in flash
unfoldable pub opening_record : ℕ → List ℕ → ℕ → LayoutView → Meaning → Main → Record
opening_record storage flash offset e h m =
    first_record storage (object_bytes flash offset) (FLASH_START + offset) e h m

-- the record of an application by what its placement came to, if it has a place and its header says where it starts
abbrev pub record_placed : ℕ → List ℕ → Placed → Option Record
record_placed storage flash p =
    option_and_then (λ place.
    of_app (opening_record storage flash p.offset place.1) (header_reading (object_bytes flash p.offset)))
    (result_ok p.place)

-- an application that has no place, with the cause
abbrev pub unplaced_at : Placed → Option Unplaced
unplaced_at p = option_map (λ fault. (p.offset, fault)) (result_err p.place)

-- the places of the applications of a flash image, in so many bytes of RAM, with time partitions or without; none is
-- placed at first
abbrev pub placed_applications : Bool → ℕ → List ℕ → List Placed
placed_applications partition ram flash =
    places_from partition ram (record { last_end = RAM_START; count = 0 }) (applications flash)

-- the world before the first step: time and all counts are 0, nobody waits, all LEDs are off, nothing came in on any
-- lane, the words are left in each, and no slot is present. The script says how many turns a slice has and how many
-- ticks a window.
unfoldable pub opening : Script → List ℕ → World
opening script flash = record {
  records = filter_map (record_placed script.storage flash)
      (placed_applications (is_partitioned script) script.ram flash);
  unplaced = filter_map unplaced_at (placed_applications (is_partitioned script) script.ram flash);
  settings = visible_settings script;
  pace = record { slice = script.slice; window = script.partition };
  devices = record {
    waiting = record { writes = []; reads = []; randoms = []; stores = [] };
    leds = 0;
    lines = replicate (lane_count script.partition) (record { ring = []; ticks = script.uart; free = 0 });
    arrivals = script.events;
    words = replicate (lane_count script.partition) script.words;
    served = replicate (lane_count script.partition) 0;
    faults = script.faults;
  };
  clock = record { time = 0; steps = 0 };
  present = record { slot = None; used = 0 };
}
