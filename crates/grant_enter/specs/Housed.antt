-- How the one RAM holds the blocks of all processes (Levy et al., SOSP 2017, section 4). A home shows `homes_of`; the
-- rest is for proofs alone.
use Rattle.std.specs.Prelude.{ℕ, ◌≤◌, List, length, map, All, AllPairs}
use Rattle.tk_base.specs.declared.limits.TheConstants.{FLASH_LIMIT}
use Rattle.process_layout.specs.LayoutView.{LayoutView}
use Rattle.process_model.specs.Own.{Own}
use Rattle.grant_enter.specs.Homes.{Homes, EndsBefore}
use Rattle.process_seat.specs.Places.{FitsMemory}
use Rattle.process_seat.specs.declared.seat.Seat.{Seat}
use Rattle.grant_enter.specs.declared.home.Home.TheInside.{Inside}
use Rattle.process_seat.specs.Seats.{IsSeated, TellsPermissions, own_in}

-- what contracts see of the memory that a home keeps: flash, and what is the own of the process in each slot
abbrev pub homes_of : Inside → Homes
homes_of h = record { flash = h.memory.flash; owns = map (own_in h.memory.ram) h.seats.items }

-- what is the own of the process in each slot
abbrev pub owns_seated : List ℕ → List Seat → List Own
owns_seated ram seats = map (own_in ram) seats

-- layouts by slot: each lies in memory of so many bytes, and they lie one after another
pub record AreSettled (flash ram : ℕ) (layouts : List LayoutView) : Type 0 where
  pub each : All (FitsMemory flash ram) layouts
  pub apart : AllPairs EndsBefore layouts

abbrev pub layouts_of : List Seat → List LayoutView
layouts_of seats = map (λ s. s.layout) seats

-- flash is within its limit, and each process sits in its block, apart from the others, and tells of its permissions
pub record IsHome (h : Inside) : Type 0 where
  pub short : length h.memory.flash ≤ FLASH_LIMIT
  pub settled : AreSettled (length h.memory.flash) (length h.memory.ram) (layouts_of h.seats.items)
  pub seated : All (IsSeated (length h.memory.flash) h.memory.ram) h.seats.items
  pub permissions : All (TellsPermissions h.memory.flash) h.seats.items
