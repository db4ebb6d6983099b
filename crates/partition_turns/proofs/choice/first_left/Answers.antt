use Rattle.std.proofs.Common.{sym, ap, ◌∙◌}
use Rattle.partition_turns.specs.Lanes.{lanes_shown}
use Rattle.partition_turns.specs.Windows.{is_left_in}
use Rattle.partition_turns.proofs.Found.{find-pass}
use Rattle.partition_turns.proofs.choice.first_left.Goals as goal

pub loop-slot-preserved : goal.loop-slot-preserved
loop-slot-preserved c =
    find-pass (is_left_in (lanes_shown c.args.lanes.now)) c.loop-slot.slot c.args.to c.loop-slot-test.true
    (ap (is_left_in (lanes_shown c.args.lanes.now)) (sym c.new.ensures)
    ∙ sym c.is_left_in.ensures ∙ c.if-is_left_in.false) ∙ c.loop-slot.invariant
