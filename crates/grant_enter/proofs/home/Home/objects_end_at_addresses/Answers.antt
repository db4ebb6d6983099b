use Rattle.grant_enter.proofs.Moves.{object_ends, reads_seat}
use Rattle.grant_enter.proofs.home.Home.objects_end_at_addresses.Goals as goal

pub returns : goal.returns
returns c slot low = object_ends (reads_seat c.self.inside c.args.self.now slot c.self.invariant c.self.view_is low)
