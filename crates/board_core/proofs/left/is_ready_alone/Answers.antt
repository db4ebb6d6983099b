use Rattle.std.proofs.Common.{Some, ap, ◌∙◌}
use Rattle.kernel_model.specs.World.{Work}
use Rattle.board_core.proofs.Ready.{work_shown}
use Rattle.board_core.proofs.left.is_ready_alone.Goals as goal

pub returns : goal.returns
returns c =
    c.is_ready.ensures
    ∙ ap (λ (x : Work). x.ready c.args.device)
    (work_shown c.requires (record { only = Some c.args.slot }))
