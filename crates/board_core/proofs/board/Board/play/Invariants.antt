use Rattle.board_core.proofs.Plays.{PlaysOn}
use Rattle.board_core.proofs.board.Board.play.Given as goal

abbrev pub invariant-loop-place : goal.invariant-loop-place
invariant-loop-place g l = PlaysOn g.K.Sink.tells l.fn.self l.self l.choices l.place l.fn.out l.out
