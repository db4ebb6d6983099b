-- The parts of a board that a device works on. Only proofs use this.
use Rattle.board_drivers.specs.Parts.{BoardParts}
use Rattle.board_core.specs.declared.state.BoardState.{BoardState}
use Rattle.board_core.specs.Shows.{world_of}

-- those of a board
abbrev pub board_parts : BoardState → BoardParts
board_parts b = record {
  processes = b.processes.items;
  home = b.machine.home;
  drivers = b.machine.drivers;
  moment = b.machine.moment;
  rest = world_of b;
}
