use Rattle.tool_answers.proofs.Serving.{answers}
use Rattle.tock_cli.proofs.serve.serve.Goals as goal

pub returns : goal.returns
returns g c =
    record { serves = answers _ _ _ _ c.act.new.last c.act.result c.answer.result c.answer.ensures c.act.ensures }
