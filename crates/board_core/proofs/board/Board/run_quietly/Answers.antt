use Rattle.std.proofs.Common.{◌+◌, refl, arith}
use Rattle.board_core.proofs.KnownEnds.{nothing_known_next}
use Rattle.board_core.proofs.board.Board.run_quietly.Goals as goal

pub loop-made-init : goal.loop-made-init
loop-made-init c = (omega arith, c.round_is_stretch.ensures.none c.args.self.now c.args.self.now refl)

pub returns-then-part-clause-stretch : goal.returns-then-part-clause-stretch
returns-then-part-clause-stretch c =
    c.round_is_stretch.ensures.join c.loop-made.made c.run_part-part.result.made
    (c.loop-made.made + c.run_part-part.result.made) c.args.self.now c.loop-made.self c.run_part-part.new.self refl
    c.loop-made.invariant.1 c.run_part-part.ensures.stretch

pub loop-made-preserved : goal.loop-made-preserved
loop-made-preserved c = (
  omega (arith, c.run_part-part.ensures.most, c.loop-made-test.true),
  c.round_is_stretch.ensures.join c.loop-made.made c.run_part-part.result.made
      (c.loop-made.made + c.run_part-part.result.made) c.args.self.now c.loop-made.self c.run_part-part.new.self refl
      c.loop-made.invariant.1 c.run_part-part.ensures.stretch,
)

pub returns-clause-most : goal.returns-clause-most
returns-clause-most c = c.loop-made.invariant.0

pub returns-clause-stretch : goal.returns-clause-stretch
returns-clause-stretch c = c.loop-made.invariant.1

pub returns-then-part-clause-accounted : goal.returns-then-part-clause-accounted
returns-then-part-clause-accounted c =
    c.steps_are_accounted_for.ensures.stretch (c.loop-made.made + c.run_part-part.result.made) c.args.self.now
    c.run_part-part.new.self
    (c.round_is_stretch.ensures.join c.loop-made.made c.run_part-part.result.made
    (c.loop-made.made + c.run_part-part.result.made) c.args.self.now c.loop-made.self c.run_part-part.new.self refl
    c.loop-made.invariant.1 c.run_part-part.ensures.stretch)

pub returns-clause-accounted : goal.returns-clause-accounted
returns-clause-accounted c =
    c.steps_are_accounted_for.ensures.stretch c.loop-made.made c.args.self.now c.loop-made.self c.loop-made.invariant.1

pub returns-clause-known : goal.returns-clause-known
returns-clause-known c = nothing_known_next c.loop-made.self c.next_choice.result
