use Rattle.std.proofs.Common.{not, sym, ap, ◌∙◌}
use Rattle.grant_enter.proofs.Living.{stale_is}
use Rattle.grant_enter.proofs.Moves.{Reads, reads_there, seat_there, sits_before}
use Rattle.grant_enter.proofs.grant.Grant.peek.Goals as goal
use Rattle.grant_enter.proofs.grant.Grant.peek.Given.{Over}
use Rattle.grant_enter.proofs.grant.Grant.peek.Goals.{After-index-seat}

-- one that is not there is stale
pub returns-then-not-is_there : goal.returns-then-not-is_there
returns-then-not-is_there g c =
    stale_is c.args.home.now.owns c.args.id.slot c.args.id.life
    ∙ ap not (sym c.is_there.ensures ∙ c.if-not-is_there.true)

-- the seat of the slot
reads : (g : Over) (c : After-index-seat g)
    → Reads c.home.inside c.args.home.now c.args.id.slot c.index.result c.index-seat.result.now
reads g c =
    reads_there c.home.inside c.args.home.now c.args.id.slot c.index.result c.args.id.life c.index-seat.result.now
    c.home.invariant c.home.view_is (sym c.is_there.ensures ∙ c.if-not-is_there.false) c.index.ensures.value
    c.index-seat.ensures

pub peek_seat-requires-clause-sits : goal.peek_seat-requires-clause-sits
peek_seat-requires-clause-sits g c =
    sits_before (reads g (goal.at.peek_seat-requires-clause-sits g c).After-index-seat)

pub peek_seat-requires-clause-lives : goal.peek_seat-requires-clause-lives
peek_seat-requires-clause-lives g c =
    (seat_there (reads g (goal.at.peek_seat-requires-clause-lives g c).After-index-seat) c.args.id.life
    (sym c.is_there.ensures ∙ c.if-not-is_there.false)).0
