use Rattle.std.proofs.Common.{sym, ◌∙◌, arith}
use Rattle.board_views.proofs.Finding.{last_found, last_led}
use Rattle.board_views.proofs.Seeking.{all_made, ended, found_more, starts}
use Rattle.board_views.proofs.searches.find_last.Goals as goal

pub loop-left-init : goal.loop-left-init
loop-left-init c = starts c.args.most c.args.goal.now c.in_ok-kept.kept.items c.args.board.now c.in_ok-kept.ensures

pub returns-in_default : goal.returns-in_default
returns-in_default c =
    let here = ended c.loop-left.invariant (sym c.choice_in-next_choice.ensures.next ∙ c.in_default.is) in
    record { found = here; led = last_led _ _ _ _ _ here; last = last_found _ _ _ _ _ here }

pub loop-left-preserved : goal.loop-left-preserved
loop-left-preserved c =
    found_more c.loop-left.invariant c.in-Some.choice c.make_step.new.board c.seen_before-found.result
    c.seen_after-found.result c.change_of-changed.result c.in_ok-kept-2.kept.items c.loop-left-test.true
    (sym c.choice_in-next_choice.ensures.next ∙ c.in-Some.is) c.make_step.ensures.world
    (rw c.steps-steps.ensures at (rw c.before_stop.ensures at c.seen_before-found.ensures))
    (rw c.deref.ensures.value at c.change_of-changed.ensures)
    (rw c.steps-steps.ensures at c.seen_after-found.ensures) c.in_ok-kept-2.ensures

pub returns : goal.returns
returns c =
    let here = all_made c.loop-left.invariant (omega (arith, c.loop-left-test.false)) in
    record { found = here; led = last_led _ _ _ _ _ here; last = last_found _ _ _ _ _ here }
