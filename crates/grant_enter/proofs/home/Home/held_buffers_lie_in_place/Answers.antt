use Rattle.std.proofs.Common.{sym, subst}
use Rattle.process_model.specs.Handed.{HoldsInPlace}
use Rattle.process_seat.proofs.Buffers.{in_place}
use Rattle.grant_enter.proofs.Moves.{own_before, reads_seat, seat_of, sits_before}
use Rattle.grant_enter.proofs.home.Home.held_buffers_lie_in_place.Goals as goal

pub returns : goal.returns
returns c slot low =
    let r = reads_seat c.self.inside c.args.self.now slot c.self.invariant c.self.view_is low in
    subst HoldsInPlace (sym (own_before r)) (in_place c.self.inside.memory (seat_of c.self.inside slot) (sits_before r))
