use Rattle.tock_look.specs.Answers.{worlds_of}
use Rattle.tock_look.proofs.Conversing.{Converses}
use Rattle.tock_look.proofs.look.answer_lines.Given as goal

abbrev pub invariant-loop : goal.invariant-loop
invariant-loop g l = Converses g.K.Sink.tells l.fn.out l.out l.fn.board (worlds_of l.boards)
    (g.L.LineSource.lines l.fn.lines) (g.L.LineSource.lines l.lines)
