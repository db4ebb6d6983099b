-- A process whose seat is lent (Levy et al., SOSP 2017, section 4).
use Rattle.std.specs.Prelude.{◌≤◌, length}
use Rattle.tk_base.specs.declared.limits.TheConstants.{FLASH_LIMIT}
use Rattle.board_memory.specs.Memory.{MemoryBytes}
use Rattle.process_seat.specs.declared.seat.Seat.{Seat}
use Rattle.process_seat.specs.Seats.{SitsIn, TellsPermissions}

-- a process that sits in memory, whose flash is within its limit, and which tells of its permissions
pub record IsLentSeat (m : MemoryBytes) (seat : Seat) : Type 0 where
  pub short : length m.flash ≤ FLASH_LIMIT
  pub sits : SitsIn m seat
  pub permissions : TellsPermissions m.flash seat
