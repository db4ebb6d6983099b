use Rattle.tk_outside.proofs.WritesLemmas.{compose}
use Rattle.tk_outside.proofs.laws.writes_compose.Goals as goal

pub returns : goal.returns
returns g c = compose g.K.Sink.tells
