-- Only proofs use this: parts of the opening world by name, for the contracts of inner functions.
use Rattle.std.specs.Prelude.{ℕ, List, replicate, Option, option_map, option_and_then, Result}
use Rattle.std.specs.Result.{result_ok, result_err}
use Rattle.tk_base.specs.declared.process.PlaceFault.{PlaceFault}
use Rattle.tbf_headers.specs.declared.fault.HeaderFault.{HeaderFault}
use Rattle.tbf_headers.specs.Meaning.{Meaning, header_reading, of_app}
use Rattle.process_layout.specs.LayoutView.{LayoutView}
use Rattle.flash_walk.specs.Image.{object_bytes}
use Rattle.app_placement.specs.Parts.{Place}
use Rattle.process_record.specs.Summary.{Unplaced}
use Rattle.script_text.specs.Settings.{ScriptSettings as Script}
use Rattle.kernel_model.specs.Record.{Record}
use Rattle.kernel_model.specs.World.{Pace}
use Rattle.board_opening.specs.Opening.{first_record, opening_record}
use Rattle.board_opening.specs.Alone.{extents_of}

-- the record of an application by what its header means; none where that has a fault, or says nothing of an entry
abbrev pub opened_by : ℕ → List ℕ → ℕ → LayoutView → Result Meaning HeaderFault → Option Record
opened_by storage flash offset e r = of_app (opening_record storage flash offset e) r

-- the record of one that has a place
abbrev pub record_with_place : ℕ → List ℕ → ℕ → Result Place PlaceFault → Option Record
record_with_place storage flash offset r =
    option_and_then (λ place. opened_by storage flash offset place.1 (header_reading (object_bytes flash offset)))
    (result_ok r)

-- and one that has none
abbrev pub unplaced_in : ℕ → Result Place PlaceFault → Option Unplaced
unplaced_in offset r = option_map (λ fault. (offset, fault)) (result_err r)

-- slices of so many turns, and windows of so many ticks
abbrev pub pace : Script → Pace
pace script = record { slice = script.slice; window = script.partition }

-- so many bytes of storage that nobody wrote yet
abbrev pub erased : ℕ → List ℕ
erased size = replicate size 0xFF

-- the first record of an application by what its bytes mean, with so many bytes of storage
abbrev pub first_by : ℕ → List ℕ → ℕ → ℕ → Result Meaning HeaderFault → Option Record
first_by storage object address start r =
    of_app (λ h m. first_record storage object address (extents_of address start h m) h m) r
