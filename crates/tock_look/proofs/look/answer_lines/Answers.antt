use Rattle.std.proofs.Common.{refl, ap, option_map, string_bytes}
use Rattle.tock_look.specs.Answers.{worlds_of}
use Rattle.tock_look.proofs.Conversing.{begins, ended, more, part, refused, too_many}
use Rattle.tock_look.proofs.look.answer_lines.Goals as goal

pub loop-init : goal.loop-init
loop-init g c =
    begins c.writes_compose.ensures c.args.out.now c.args.board c.new-kept.result.items
    (g.L.LineSource.lines c.args.lines.now) c.new-kept.ensures.items

pub returns-in_default : goal.returns-in_default
returns-in_default g c =
    ended c.loop.invariant c.writes_compose.ensures (g.L.LineSource.lines c.next_line.new.self) _
    (ap (option_map string_bytes) c.in_default.is) c.next_line.ensures

pub returns-in-SinkFailed : goal.returns-in-SinkFailed
returns-in-SinkFailed g c =
    part c.loop.invariant c.writes_compose.ensures (g.L.LineSource.lines c.next_line.new.self)
    (string_bytes c.in-Some.line) (rw c.in-Some.is at c.next_line.ensures) c.answer_line.new.out
    (rw c.as_str.ensures.value at c.in-SinkFailed.ensures.0)

pub returns-in-NoMemory : goal.returns-in-NoMemory
returns-in-NoMemory g c =
    refused c.loop.invariant c.writes_compose.ensures (g.L.LineSource.lines c.next_line.new.self)
    (string_bytes c.in-Some.line) (rw c.in-Some.is at c.next_line.ensures) c.answer_line.new.out c.refuse.new.out
    c.refuse.result c.in-NoMemory.ensures.0 c.refuse.ensures

pub loop-preserved : goal.loop-preserved
loop-preserved g c =
    let whole = c.in-Whole.ensures in
    more c.loop.invariant c.writes_compose.ensures (g.L.LineSource.lines c.next_line.new.self)
    (string_bytes c.in-Some.line) (rw c.in-Some.is at c.next_line.ensures) c.args.files.now c.answer_line.new.out
    (worlds_of c.answer_line.new.boards) c.requires.opened (rw c.as_str.ensures.value at whole.0)
    (rw c.as_str.ensures.value at (whole.1 refl))

pub returns : goal.returns
returns g c =
    too_many c.loop.invariant c.writes_compose.ensures c.end_long_session.new.out c.end_long_session.result
    c.end_long_session.ensures
