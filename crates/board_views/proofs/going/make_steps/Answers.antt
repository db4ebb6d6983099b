use Rattle.std.proofs.Common.{refl, sym, ◌∙◌, arith}
use Rattle.board_views.proofs.Stretches.{begins, made, one_more, over, stretched, stuck, unready_if_refused}
use Rattle.board_views.proofs.going.make_steps.Goals as goal

pub loop-made-init : goal.loop-made-init
loop-made-init c = begins c.args.most c.args.board.now

pub returns-in_default : goal.returns-in_default
returns-in_default c =
    let quiet = c.run_quietly-quiet.ensures in
    let there = stretched c.loop-made.invariant c.rounds_join.ensures
    (omega (arith, quiet.most, c.loop-made-test.true)) quiet.stretch _ refl in
    over there (sym quiet.next ∙ c.in_default.is)

pub returns-in_default-step_with_end : goal.returns-in_default-step_with_end
returns-in_default-step_with_end c =
    let quiet = c.run_quietly-quiet.ensures in
    let there = stretched c.loop-made.invariant c.rounds_join.ensures
    (omega (arith, quiet.most, c.loop-made-test.true)) quiet.stretch _ refl in
    let failed = c.in_default-step_with_end.ensures in
    failed.makes.refused.0 ∙ stuck there c.in-Some.choice (sym quiet.next ∙ c.in-Some.is)
    (unready_if_refused _ failed.makes.ready.1)

pub loop-made-preserved : goal.loop-made-preserved
loop-made-preserved c =
    let quiet = c.run_quietly-quiet.ensures in
    let there = stretched c.loop-made.invariant c.rounds_join.ensures
    (omega (arith, quiet.most, c.loop-made-test.true)) quiet.stretch _ refl in
    one_more there c.in-Some.choice c.step_with_end.new.self (omega (arith, quiet.most, c.loop-made-test.true))
    (sym quiet.next ∙ c.in-Some.is) c.in-Ok.ensures.makes.ok _ (omega arith)

pub returns : goal.returns
returns c = made c.loop-made.invariant c.loop-made-test.false
