use Rattle.std.proofs.Common.{sym, ◌∙◌, arith}
use Rattle.board_views.proofs.Seeking.{before, begins, halted, more, none_left, stopped}
use Rattle.board_views.proofs.searches.until.Goals as goal

pub loop-left-init : goal.loop-left-init
loop-left-init c = begins c.args.most c.args.goal.now c.args.kept.now c.args.board.now

pub returns-in_default : goal.returns-in_default
returns-in_default c =
    halted c.loop-left.invariant (sym c.choice_in-next_choice.ensures.next ∙ c.in_default.is) c.stop_of.result
    c.stop_of.ensures

pub returns-in-Some-stop_before : goal.returns-in-Some-stop_before
returns-in-Some-stop_before c =
    before c.loop-left.invariant c.in-Some.choice c.loop-left-test.true
    (sym c.choice_in-next_choice.ensures.next ∙ c.in-Some.is) c.in-Some-stop_before.stop
    (sym c.stop_before.ensures ∙ c.in-Some-stop_before.is)

pub returns-in-Some-stop_after : goal.returns-in-Some-stop_after
returns-in-Some-stop_after c =
    stopped c.loop-left.invariant c.in-Some.choice c.loop-left-test.true
    (sym c.choice_in-next_choice.ensures.next ∙ c.in-Some.is)
    (sym c.stop_before.ensures ∙ c.in_default-stop_before.is) c.make_step.new.board c.make_step.ensures.world
    c.make_step.new.emit c.make_step.ensures.shown c.stop_after.result c.stop_after.ensures c.in-Some-stop_after.stop
    c.in-Some-stop_after.is

pub loop-left-preserved : goal.loop-left-preserved
loop-left-preserved c =
    more c.loop-left.invariant c.in-Some.choice c.loop-left-test.true
    (sym c.choice_in-next_choice.ensures.next ∙ c.in-Some.is)
    (sym c.stop_before.ensures ∙ c.in_default-stop_before.is) c.make_step.new.board c.make_step.ensures.world
    c.make_step.new.emit c.make_step.ensures.shown c.stop_after.result c.stop_after.ensures
    c.in_default-stop_after.is

pub returns : goal.returns
returns c =
    none_left c.loop-left.invariant (omega (arith, c.loop-left-test.false)) c.stop_of-2.result c.stop_of-2.ensures
