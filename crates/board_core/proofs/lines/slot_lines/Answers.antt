use Rattle.kernel_calls.specs.Residents.{resident_line}
use Rattle.board_core.proofs.Boards.{line_is, lines_more, lines_all}
use Rattle.board_core.proofs.lines.slot_lines.Goals as goal

pub loop-place-preserved : goal.loop-place-preserved
loop-place-preserved c =
    let home = c.args.home.now in
    let process = c.index-processes-place in
    let is = line_is home c.args.processes.now process.result c.loop-place.place c.new-slot.result c.flash.result.now
    c.name_in.result.items c.wait.result c.dropped.result process.is c.name_in.ensures c.flash.ensures
    c.new-slot.ensures c.wait.ensures c.dropped.ensures in
    lines_more (resident_line home.flash) c.args.processes.now home.owns c.loop-place.place _ _ c.loop-place.lines.items
    c.push.new.self.items c.requires.owns c.loop-place-test.true is c.loop-place.invariant c.push.ensures.items

pub returns : goal.returns
returns c = lines_all (resident_line c.args.home.now.flash) c.args.processes.now c.args.home.now.owns c.loop-place.place
    c.loop-place.lines.items c.requires.owns c.loop-place-test.false c.loop-place.invariant
