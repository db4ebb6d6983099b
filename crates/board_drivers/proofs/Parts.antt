-- What is the own of each process of a board, in the world that its parts make.
use Rattle.std.proofs.Common.{◌≡◌, ◌≤◌, length, arith}
use Rattle.std.specs.List.{zip}
use Rattle.kernel_model.specs.World.{owns_in}
use Rattle.board_drivers.specs.Parts.{AreBoardParts, BoardParts, world_shown}
use Rattle.kernel_calls.proofs.Pairs.{length-firsts}
use Rattle.board_drivers.proofs.Records.{owns_shown}

pub owns_in_parts : (b : BoardParts) → AreBoardParts b → owns_in (world_shown b) ≡ b.home.owns
owns_in_parts b board =
    owns_shown b.home.flash b.drivers.buttons.pressed b.processes b.home.owns b.drivers.stores.slots board.owns
    has_storage
  where
    has_storage : length (zip b.processes b.home.owns) ≤ length b.drivers.stores.slots
    has_storage = omega (arith, board.few, board.driven.slots, length-firsts b.processes b.home.owns board.owns)
