use Rattle.grant_enter.proofs.Instructions.{in_place}
use Rattle.grant_enter.proofs.Moves.{reads_seat}
use Rattle.grant_enter.proofs.home.Home.owns_lie_in_place.Goals as goal

pub returns : goal.returns
returns c slot low = in_place (reads_seat c.self.inside c.args.self.now slot c.self.invariant c.self.view_is low)
