use Rattle.gathered_output.proofs.Composing.{compose}
use Rattle.gathered_output.proofs.laws.puts_compose.Goals as goal

pub returns : goal.returns
returns g c = compose c.writes_compose.ensures
