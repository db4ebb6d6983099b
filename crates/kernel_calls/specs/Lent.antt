-- How memory, a seat and a process make the one that calls. Only proofs use this.
use Rattle.std.specs.Prelude.{◌-◌, length, slice_range}
use Rattle.tk_base.specs.declared.access.TheConstants.{RAM_START}
use Rattle.board_memory.specs.Memory.{MemoryBytes}
use Rattle.process_seat.specs.declared.seat.Seat.{Seat}
use Rattle.process_seat.specs.Seats.{own_in}
use Rattle.grant_enter.specs.Lent.{IsLentSeat}
use Rattle.process_restart.specs.Own.{IsOwn}
use Rattle.kernel_calls.specs.Called.{Called, Place}
use Rattle.kernel_calls.specs.declared.caller.Caller.TheInside.{Inside}

abbrev pub place_in : MemoryBytes → Seat → Place
place_in m seat = record {
  object = seat.object;
  permissions = seat.has_permissions;
  start = seat.layout.start;
  end = seat.layout.end;
  ram = length m.ram;
  before = slice_range m.ram 0 (seat.layout.start - RAM_START);
  behind = slice_range m.ram (seat.layout.end - RAM_START) (length m.ram);
}

abbrev pub called : Inside → Called
called k = record {
  flash = k.memory.now.flash;
  process = k.process.now;
  own = own_in k.memory.now.ram k.seat.now;
  loan = record {
    memory = k.memory.ghost_name;
    seat = k.seat.ghost_name;
    process = k.process.ghost_name;
    place = place_in k.memory.now k.seat.now;
  };
}

-- the process sits in memory, and is that of its object
pub record IsCaller (k : Inside) : Type 0 where
  pub seat : IsLentSeat k.memory.now k.seat.now
  pub own : IsOwn k.memory.now.flash k.process.now (own_in k.memory.now.ram k.seat.now)
