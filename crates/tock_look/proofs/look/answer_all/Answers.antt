use Rattle.std.proofs.Common.{inl, refl}
use Rattle.tock_look.specs.Answers.{worlds_of}
use Rattle.tock_look.proofs.Answering.{begins, more, part, refused}
use Rattle.tock_look.proofs.look.answer_all.Goals as goal

pub loop-ask-init : goal.loop-ask-init
loop-ask-init g c =
    begins c.writes_compose.ensures c.args.out.now c.args.board c.new-kept.result.items c.args.asks.now
    c.new-kept.ensures.items

pub returns-in-SinkFailed : goal.returns-in-SinkFailed
returns-in-SinkFailed g c =
    inl (part c.loop-ask.invariant c.writes_compose.ensures c.ask-item.result c.loop-ask-test.true c.ask-item.is
    c.answer.new.out c.in-SinkFailed.ensures.0)

pub returns-in-NoMemory : goal.returns-in-NoMemory
returns-in-NoMemory g c =
    refused c.loop-ask.invariant c.writes_compose.ensures c.answer.new.out c.refuse.new.out c.refuse.result
    c.in-NoMemory.ensures.0 c.refuse.ensures

pub loop-ask-preserved : goal.loop-ask-preserved
loop-ask-preserved g c =
    let whole = c.in-Whole.ensures in
    more c.loop-ask.invariant c.writes_compose.ensures c.ask-item.result c.loop-ask-test.true c.ask-item.is
    c.args.files.now c.answer.new.out (worlds_of c.answer.new.boards) c.requires.opened whole.0 (whole.1 refl)
