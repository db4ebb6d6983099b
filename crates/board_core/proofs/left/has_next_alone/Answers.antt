use Rattle.std.proofs.Common.{Some, ap, is_some, ◌∙◌}
use Rattle.kernel_model.specs.World.{Work}
use Rattle.board_core.proofs.Ready.{work_shown}
use Rattle.board_core.proofs.left.has_next_alone.Goals as goal

pub returns : goal.returns
returns c =
    c.is_some.ensures
    ∙ ap is_some (c.next_time.ensures.at
    ∙ ap (λ (x : Work). x.next) (work_shown c.requires (record { only = Some c.args.slot })))
