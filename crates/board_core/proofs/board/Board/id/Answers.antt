use Rattle.std.proofs.Common.{ap, slice_get, ◌∙◌}
use Rattle.std.specs.Option.{option_map}
use Rattle.grant_enter.specs.Homes.{living}
use Rattle.kernel_model.specs.Record.{Record}
use Rattle.kernel_model.specs.World.{World}
use Rattle.board_core.proofs.Boards.{own_read}
use Rattle.board_core.proofs.board.Board.id.Goals as goal

pub returns : goal.returns
returns c =
    c.id.ensures ∙ ap (living c.args.slot) (own_read c.self.invariant c.args.slot)
    ∙ ap (λ (w : World). living c.args.slot (option_map (λ (r : Record). r.own) (slice_get w.records c.args.slot)))
    c.self.view_is
