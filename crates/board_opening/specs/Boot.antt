-- The processes and layouts of a board before its first step. Only proofs use this.
use Rattle.std.specs.Prelude.{◌≡◌, ◌≤◌, ℕ, List, length, map, filter_map, All, IfOk, Option, None, Some, Result, Ok}
use Rattle.std.specs.Prelude.{Err}
use Rattle.std.specs.List.{zip}
use Rattle.tk_base.specs.declared.access.TheConstants.{RAM_START}
use Rattle.tk_base.specs.declared.process.PlaceFault.{PlaceFault}
use Rattle.process_layout.specs.LayoutView.{LayoutView}
use Rattle.process_layout.specs.Bounds.{bounds_of}
use Rattle.process_layout.specs.Ordered.{IsOrdered}
use Rattle.process_model.specs.declared.place.Footprint.{Footprint}
use Rattle.process_model.specs.Own.{opened}
use Rattle.process_record.specs.declared.process.Process.{Process}
use Rattle.process_model.specs.Flash.{HasObject}
use Rattle.app_placement.specs.Parts.{Place}
use Rattle.app_placement.specs.declared.placed.Placed.{Placed}
use Rattle.board_opening.specs.declared.boot.LoadedProcesses.{LoadedProcesses}
use Rattle.kernel_model.specs.Record.{Record}
use Rattle.board_opening.specs.Opening.{record_placed}
use Rattle.kernel_calls.specs.Residents.{IsResident, Resident, record_of}
use Rattle.board_opening.specs.Parts.{erased}

-- the application at an offset has this place
abbrev pub at_offset : ℕ → Place → Placed
at_offset offset place = record { offset = offset; place = Ok place }

-- a block that is placed starts in RAM
abbrev pub StartsInRam : Placed → Type 0
StartsInRam p = IfOk p.place (λ place. RAM_START ≤ place.1.start)

abbrev pub layout_in : Result Place PlaceFault → Option LayoutView
layout_in (Ok place) = Some place.1
layout_in (Err fault) = None

abbrev pub layout_at : Placed → Option LayoutView
layout_at p = layout_in p.place

-- what a process takes up in its place
abbrev pub footprint_of : Process → Place → Footprint
footprint_of process place = record { object = process.object; layout = place.1 }

-- the record that a process shows with what is its own, and so many bytes of storage that nobody wrote yet, where no
-- button is pressed
abbrev pub fresh_record : ℕ → List ℕ → Resident → Record
fresh_record storage flash r = record_of flash 0 (r, erased storage)

-- a footprint lies where a process may begin its first life, in so many bytes of flash, but for its block in RAM
pub record IsFirst (flash : ℕ) (f : Footprint) : Type 0 where
  pub ordered : IsOrdered f.layout
  pub object : HasObject flash f.object (bounds_of f.layout)
  pub no_grants : f.layout.kernel_break ≡ f.layout.end

-- a process for each application that is placed, at its start, with what it takes up, whatever the size of its storage
pub record IsCrew (flash : List ℕ) (placed : List Placed) (crew : LoadedProcesses) : Type 0 where
  pub layouts : map (λ f. f.layout) crew.footprints.items ≡ filter_map layout_at placed
  pub first : All (IsFirst (length flash)) crew.footprints.items
  pub count : length crew.processes.items ≡ length crew.footprints.items
  pub shown : (storage : ℕ) →
      map (fresh_record storage flash) (zip crew.processes.items (map opened crew.footprints.items))
      ≡ filter_map (record_placed storage flash) placed
  pub seated : All (IsResident flash 0) (zip crew.processes.items (map opened crew.footprints.items))
