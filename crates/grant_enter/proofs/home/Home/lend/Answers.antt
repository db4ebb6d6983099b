use Rattle.std.proofs.Common.{rules}
use Rattle.grant_enter.proofs.Moves.{Reads, reseated, reseated_only, reseated_shows, sits_before, told}
use Rattle.grant_enter.proofs.home.Home.lend.Goals as goal
use Rattle.grant_enter.proofs.home.Home.lend.Given.{Over}
use Rattle.grant_enter.proofs.home.Home.lend.Goals.{After-index_mut-seat}

-- the seat of the slot
reads : (g : Over) (c : After-index_mut-seat g)
    → Reads c.self.inside c.args.self.now c.args.slot c.index.result c.index_mut-seat.result.now
reads g c = search rules

pub run-requires-clause-seat : goal.run-requires-clause-seat
run-requires-clause-seat g c =
    let r = reads g (goal.at.run-requires-clause-seat g c).After-index_mut-seat in
    record { short = c.self.invariant.short; sits = sits_before r; permissions = told r }

pub invariant_of-self : goal.invariant_of-self
invariant_of-self g c =
    reseated (reads g (goal.at.invariant_of-self g c).After-index_mut-seat) c.run.new.memory c.run.new.seat
    c.run.ensures.reseats

pub returns-clause-leaves : goal.returns-clause-leaves
returns-clause-leaves g c =
    reseated_shows (reads g (goal.at.returns-clause-leaves g c).After-index_mut-seat) c.run.new.memory
    c.run.new.seat c.run.ensures.reseats
    (λ flash own own_after. g.V.VisitSeat.leaves c.args.visitor flash own c.args.beside.now c.run.result own_after
    c.run.new.beside) c.run.ensures.leaves

pub returns-clause-rest : goal.returns-clause-rest
returns-clause-rest g c =
    reseated_only (reads g (goal.at.returns-clause-rest g c).After-index_mut-seat) c.run.new.memory c.run.new.seat
    c.run.ensures.reseats
