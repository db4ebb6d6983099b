use Rattle.std.proofs.Common.{List, ℕ, sym, subst, refl}
use Rattle.tk_outside.specs.Writes.{WroteAll, WrotePart}
use Rattle.board_core.proofs.Plays.{failed, plays_on, stopped, unready_if_refused, whole}
use Rattle.board_core.proofs.board.Board.play.Goals as goal

pub returns-in_default-clause-plays : goal.returns-in_default-clause-plays
returns-in_default-clause-plays g c =
    let refused = c.in_default.ensures.makes in
    rw refused.refused.0 (stopped c.loop-place.invariant c.index-choices-place.result c.loop-place-test.true
    (sym c.index-choices-place.is) (unready_if_refused _ refused.ready.1))

pub returns-in_default-put_all-clause-plays : goal.returns-in_default-put_all-clause-plays
returns-in_default-put_all-clause-plays g c =
    let step = c.in-Ok.ensures in
    failed c.loop-place.invariant c.index-choices-place.result c.loop-place-test.true (sym c.index-choices-place.is)
    c.writes_compose.ensures c.step.new.self c.put_all.new.out c.step.new.emit (step.makes.ready.0 refl) step.makes.ok
    step.makes.shown step.accounted
    (subst (λ (bytes : List ℕ). WrotePart g.K.Sink.tells c.loop-place.out c.put_all.new.out bytes) c.deref.ensures.0
    c.in_default-put_all.ensures)

pub loop-place-preserved : goal.loop-place-preserved
loop-place-preserved g c =
    let step = c.in-Ok.ensures in
    plays_on c.loop-place.invariant c.index-choices-place.result c.loop-place-test.true (sym c.index-choices-place.is)
    c.writes_compose.ensures c.step.new.self c.put_all.new.out c.step.new.emit (step.makes.ready.0 refl) step.makes.ok
    step.makes.shown step.accounted
    (subst (λ (bytes : List ℕ). WroteAll g.K.Sink.tells c.loop-place.out c.put_all.new.out bytes) c.deref.ensures.0
    c.in-Ok-put_all.ensures)

pub returns-clause-plays : goal.returns-clause-plays
returns-clause-plays g c = whole c.loop-place.invariant c.loop-place-test.false
