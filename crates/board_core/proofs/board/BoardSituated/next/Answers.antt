use Rattle.std.proofs.Common.{◌<◌, ◌-◌, ◌^◌, IfSome, ap, subst, ◌∙◌}
use Rattle.kernel_model.specs.Run.{next_time}
use Rattle.kernel_model.specs.World.{World}
use Rattle.board_core.proofs.Boards.{next_ahead}
use Rattle.board_core.proofs.board.BoardSituated.next.Goals as goal

pub returns-clause-ahead : goal.returns-clause-ahead
returns-clause-ahead c =
    next_ahead c.args.self.now c.time_ahead.result (c.time_ahead.ensures.at ∙ ap next_time c.self.view_is)
    (subst (λ (w : World). IfSome c.time_ahead.result (λ n. n - w.clock.time < 2 ^ 32)) c.self.view_is
    c.time_ahead.ensures.near)
    c.next_is_ready.ensures.ahead c.requires.none
