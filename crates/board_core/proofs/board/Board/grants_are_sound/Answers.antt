use Rattle.std.proofs.Common.{ℕ, IfSome, slice_get, subst}
use Rattle.std.specs.List.{AllByRecursion}
use Rattle.grant_model.specs.Encoding.{IsSound}
use Rattle.process_model.specs.Own.{Own}
use Rattle.kernel_model.specs.Record.{Record}
use Rattle.kernel_model.specs.World.{World}
use Rattle.board_core.proofs.Boards.{shown_of_each}
use Rattle.board_core.proofs.board.Board.grants_are_sound.Goals as goal

pub returns : goal.returns
returns c = subst (λ (w : World). (slot : ℕ) → IfSome (slice_get w.records slot)
    (λ (r : Record). AllByRecursion IsSound r.own.grants)) c.self.view_is
    (shown_of_each c.self.invariant (λ (o : Own). AllByRecursion IsSound o.grants)
    (λ slot within. (c.owns_lie_in_place.ensures slot within).sound))
