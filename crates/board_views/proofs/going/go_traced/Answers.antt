use Rattle.std.proofs.Common.{ap, ◌∙◌}
use Rattle.board_views.specs.Stops.{stop_at}
use Rattle.board_views.proofs.Stretches.{lead-none, traced-none, zero_if}
use Rattle.board_views.proofs.going.go_traced.Goals as goal

pub returns-then-turns-eq0-clause-text : goal.returns-then-turns-eq0-clause-text
returns-then-turns-eq0-clause-text g c =
    let none = zero_if _ _ c.steps_left-turns.ensures.left c.if-turns-eq0.true in
    rw (← traced-none _ c.args.board.now none) (c.writes_compose.ensures.wrote_nothing c.args.out.now)

pub returns-then-turns-eq0-clause-led : goal.returns-then-turns-eq0-clause-led
returns-then-turns-eq0-clause-led g c =
    lead-none _ c.args.board.now (zero_if _ _ c.steps_left-turns.ensures.left c.if-turns-eq0.true)

pub returns-then-turns-eq0-clause-stop : goal.returns-then-turns-eq0-clause-stop
returns-then-turns-eq0-clause-stop g c =
    c.stop_of.ensures ∙ ap stop_at
    (lead-none _ c.args.board.now (zero_if _ _ c.steps_left-turns.ensures.left c.if-turns-eq0.true))
