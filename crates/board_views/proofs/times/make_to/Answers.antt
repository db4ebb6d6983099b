-- The loop that makes the steps within a time: it keeps `GoesTo`, and each exit is one of its lemmas of `Timing`: no
-- turn can be made, no choice is left or within the time, no step is left, or the sink failed. The quiet turns before a
-- step are put to it first (`stretched`).
use Rattle.std.proofs.Common.{sym, ◌∙◌, arith}
use Rattle.board_views.proofs.Timing.{begins, more, no_turn, none-late, none-over, none_left, part, stopped, stretched}
use Rattle.board_views.proofs.times.make_to.Goals as goal

pub loop-left-init : goal.loop-left-init
loop-left-init g c = begins c.writes_compose.ensures c.args.reach c.args.board.now c.args.out.now

pub returns-then-part-eq0 : goal.returns-then-part-eq0
returns-then-part-eq0 g c =
    let law = c.writes_compose.ensures in
    let here = no_turn law c.loop-left.invariant _ c.turns_within-part.ensures c.if-part-eq0.true in
    record { text = here.1; led = here.0 }

pub returns-in_default : goal.returns-in_default
returns-in_default g c =
    let quiet = c.run_quietly-quiet.ensures in
    let some = c.turns_within-part.ensures in
    let there = stretched c.writes_compose.ensures c.loop-left.invariant _ _
    (omega (arith, quiet.most, some, c.if-part-eq0.false)) quiet.stretch in
    let here = stopped c.writes_compose.ensures there (none-over _ _ (sym quiet.next ∙ c.in_default.is)) in
    record { text = here.1; led = here.0 }

pub returns-then-not-is_within : goal.returns-then-not-is_within
returns-then-not-is_within g c =
    let quiet = c.run_quietly-quiet.ensures in
    let some = c.turns_within-part.ensures in
    let there = stretched c.writes_compose.ensures c.loop-left.invariant _ _
    (omega (arith, quiet.most, some, c.if-part-eq0.false)) quiet.stretch in
    let here = stopped c.writes_compose.ensures there (none-late _ _ c.in-Some.choice (sym quiet.next ∙ c.in-Some.is)
    (sym c.is_within.ensures ∙ c.if-not-is_within.true)) in
    record { text = here.1; led = here.0 }

pub returns-in_err-tell_step-clause-text : goal.returns-in_err-tell_step-clause-text
returns-in_err-tell_step-clause-text g c =
    let quiet = c.run_quietly-quiet.ensures in
    let some = c.turns_within-part.ensures in
    let there = stretched c.writes_compose.ensures c.loop-left.invariant _ _
    (omega (arith, quiet.most, some, c.if-part-eq0.false)) quiet.stretch in
    c.writes_compose.ensures.writes_part _ c.from_residual.ensures.0
    (part c.writes_compose.ensures there c.in-Some.choice
    (omega (arith, quiet.most, some, c.if-part-eq0.false)) (sym quiet.next ∙ c.in-Some.is)
    (omega (arith, quiet.most, some, c.if-part-eq0.false, quiet.stretch.steps))
    (sym c.is_within.ensures ∙ c.if-not-is_within.false) _
    (rw (c.time-began.ensures, c.in-Ok.ensures.makes.shown) at c.in_err-tell_step.ensures))

pub loop-left-preserved : goal.loop-left-preserved
loop-left-preserved g c =
    let quiet = c.run_quietly-quiet.ensures in
    let some = c.turns_within-part.ensures in
    let there = stretched c.writes_compose.ensures c.loop-left.invariant _ _
    (omega (arith, quiet.most, some, c.if-part-eq0.false)) quiet.stretch in
    more c.writes_compose.ensures there c.in-Some.choice
    (omega (arith, quiet.most, some, c.if-part-eq0.false)) (sym quiet.next ∙ c.in-Some.is)
    (omega (arith, quiet.most, some, c.if-part-eq0.false, quiet.stretch.steps))
    (sym c.is_within.ensures ∙ c.if-not-is_within.false) _ _ _ c.in-Ok.ensures.makes.ok (omega arith)
    (rw (c.time-began.ensures, c.in-Ok.ensures.makes.shown) at c.in_ok-tell_step.ensures)

pub returns : goal.returns
returns g c =
    let here = none_left c.writes_compose.ensures c.loop-left.invariant (omega (arith, c.loop-left-test.false)) in
    record { text = here.1; led = here.0 }
