use Rattle.driver_model.specs.Commands.{Writes, Reads, Randoms, Stores}
use Rattle.board_core.proofs.Looks.{queue_lives}
use Rattle.board_core.proofs.board.Board.waiting.Goals as goal

pub returns-in-Uart-clause-lives : goal.returns-in-Uart-clause-lives
returns-in-Uart-clause-lives c = rw c.as_slice.ensures (rw c.self.view_is at (queue_lives c.self.invariant Writes))

pub returns-in-Receive-clause-lives : goal.returns-in-Receive-clause-lives
returns-in-Receive-clause-lives c =
    rw c.as_slice-in-Receive.ensures (rw c.self.view_is at (queue_lives c.self.invariant Reads))

pub returns-in-Random-clause-lives : goal.returns-in-Random-clause-lives
returns-in-Random-clause-lives c =
    rw c.as_slice-in-Random.ensures (rw c.self.view_is at (queue_lives c.self.invariant Randoms))

pub returns-in-Store-clause-lives : goal.returns-in-Store-clause-lives
returns-in-Store-clause-lives c =
    rw c.as_slice-in-Store.ensures (rw c.self.view_is at (queue_lives c.self.invariant Stores))
