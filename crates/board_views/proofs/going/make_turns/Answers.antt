use Rattle.std.proofs.Common.{◌-◌, min, ap, ◌∙◌, arith}
use Rattle.board_views.proofs.Turning.{begins, had, more_steps, none_left, over}
use Rattle.board_views.proofs.going.make_turns.Goals as goal

pub loop-left-init : goal.loop-left-init
loop-left-init c = begins c.args.most c.args.slot c.args.turns c.args.board.now

pub returns-then-part-eq0 : goal.returns-then-part-eq0
returns-then-part-eq0 c =
    had c.loop-left.invariant _
    (c.part_of-part.ensures.part ∙ ap (λ n. min c.loop-left.left (c.args.turns - n)) c.turns_of-had.ensures)
    c.if-part-eq0.true

pub returns-then-is_over : goal.returns-then-is_over
returns-then-is_over c = over c.loop-left.invariant (c.is_over.ensures c.if-is_over.true)

pub loop-left-preserved : goal.loop-left-preserved
loop-left-preserved c =
    more_steps c.loop-left.invariant _ _
    (c.part_of-part.ensures.part ∙ ap (λ n. min c.loop-left.left (c.args.turns - n)) c.turns_of-had.ensures)
    (omega (arith, c.if-part-eq0.false)) c.make_steps.ensures

pub returns : goal.returns
returns c = none_left c.loop-left.invariant (omega (arith, c.loop-left-test.false))
