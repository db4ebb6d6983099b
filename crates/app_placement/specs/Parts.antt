-- Only proofs use this: parts of the placement by name, for the contracts of inner functions.
use Rattle.std.specs.Prelude.{ℕ, ◌*◌, ◌/◌, ◌==◌, Bool, if◌then◌else◌, List, Option, Some, None, option_and_then}
use Rattle.std.specs.Prelude.{unwrap_or, Result}
use Rattle.tk_base.specs.declared.access.TheConstants.{RAM_START}
use Rattle.tk_base.specs.declared.limits.TheConstants.{RAM_UNIT, SLOT_COUNT}
use Rattle.process_layout.specs.LayoutView.{LayoutView}
use Rattle.tbf_headers.specs.declared.fault.HeaderFault.{HeaderFault}
use Rattle.tbf_headers.specs.Meaning.{Meaning, of_app}
use Rattle.app_placement.specs.declared.application.Application.{Application}
use Rattle.app_placement.specs.declared.placed.Placed.{Placed}
use Rattle.app_placement.specs.Applications.{application}
use Rattle.app_placement.specs.Placement.{places_from}

-- a slot's share of RAM where there are time partitions
abbrev pub share : ℕ → ℕ
share ram = ram / SLOT_COUNT / RAM_UNIT * RAM_UNIT

-- a block starts at the fixed RAM start, if there is one, or else where it may lie first
abbrev pub block_start : ℕ → Option ℕ → ℕ
block_start from fixed_start = unwrap_or fixed_start from

-- where an application is placed: its slot, and the memory that it has there
abbrev pub Place : Type 0
Place = ℕ × LayoutView

-- the places of all applications, of which none is placed at first
abbrev pub placements : Bool → ℕ → List Application → List Placed
placements partition ram apps = places_from partition ram (record { last_end = RAM_START; count = 0 }) apps

-- the RAM start that an application is linked for; 0xFFFFFFFF for none
abbrev pub fixed_start : Option (ℕ × ℕ) → Option ℕ
fixed_start addresses = option_and_then (λ fixed. if fixed.0 == 4294967295 then None else Some fixed.0) addresses

-- what the application asks for whose object stands at an offset, by what the object's bytes mean
abbrev pub application_in : ℕ → Result Meaning HeaderFault → Option Application
application_in offset r = of_app (application offset) r
