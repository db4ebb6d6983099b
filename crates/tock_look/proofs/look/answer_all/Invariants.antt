use Rattle.std.proofs.Common.{drop}
use Rattle.tock_look.specs.Answers.{worlds_of}
use Rattle.tock_look.proofs.Answering.{AnswersSoFar}
use Rattle.tock_look.proofs.look.answer_all.Given as goal

abbrev pub invariant-loop-ask : goal.invariant-loop-ask
invariant-loop-ask g l = AnswersSoFar g.K.Sink.tells l.fn.out l.out l.fn.board (worlds_of l.boards) l.asks
    (drop l.ask-index l.asks)
