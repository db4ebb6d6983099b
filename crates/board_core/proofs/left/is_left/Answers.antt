use Rattle.std.proofs.Common.{is_some, sym, ap, ◌∙◌}
use Rattle.tk_base.specs.declared.limits.TheConstants.{SLOT_COUNT}
use Rattle.kernel_model.specs.Run.{is_left, is_left_for}
use Rattle.partition_turns.proofs.Found.{find-pass}
use Rattle.board_core.proofs.Tables.{found_here, none_past}
use Rattle.board_core.specs.Shows.{world_of}
use Rattle.board_core.proofs.left.is_left.Goals as goal

pub loop-slot-preserved : goal.loop-slot-preserved
loop-slot-preserved c =
    find-pass (is_left_for (world_of c.args.state.now)) c.loop-slot.slot SLOT_COUNT c.loop-slot-test.true
    (ap (is_left_for (world_of c.args.state.now)) (sym c.new.ensures)
    ∙ sym c.is_left_for.ensures ∙ c.if-is_left_for.false) ∙ c.loop-slot.invariant

pub returns-then-is_left_for : goal.returns-then-is_left_for
unfolding is_left
returns-then-is_left_for c =
    sym (ap is_some (sym c.loop-slot.invariant)
    ∙ found_here (is_left_for (world_of c.args.state.now)) c.loop-slot.slot SLOT_COUNT c.loop-slot-test.true
    (ap (is_left_for (world_of c.args.state.now)) (sym c.new.ensures) ∙ sym c.is_left_for.ensures ∙
    c.if-is_left_for.true))

pub returns : goal.returns
unfolding is_left
returns c =
    sym (ap is_some (sym c.loop-slot.invariant)
    ∙ none_past (is_left_for (world_of c.args.state.now)) c.loop-slot.slot SLOT_COUNT c.loop-slot-test.false)
