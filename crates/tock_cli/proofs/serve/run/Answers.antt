use Rattle.std.proofs.Common.{inl, inr, subst}
use Rattle.kernel_model.specs.World.{World}
use Rattle.tool_tasks.specs.Comes.{Running}
use Rattle.tool_answers.specs.Parts.{TaskIs}
use Rattle.tool_answers.specs.Served.{sink_account}
use Rattle.tock_cli.proofs.serve.run.Goals as goal

pub returns-in-Ok : goal.returns-in-Ok
returns-in-Ok g c =
    let sent = sink_account g.K.Sink.tells c.args.out.now c.finish_run.new.out in
    inl (subst (λ (world : World). TaskIs sent (Running c.args.mode c.args.turns world) c.finish_run.new.last
    c.finish_run.result) c.in-Ok.ensures.world c.finish_run.ensures)

pub returns-in-Err : goal.returns-in-Err
returns-in-Err g c = inr (c.refuse.ensures, c.requires.none)
