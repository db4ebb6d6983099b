use Rattle.std.proofs.Common.{rules}
use Rattle.std.proofs.Common.{◌≡◌, ◌+◌, ◌^◌, ◌<◌, ◌≤◌, subst}
use Rattle.process_layout.specs.Bounds.{Bounds}
use Rattle.process_model.specs.Own.{Own, own_restarted}
use Rattle.grant_enter.proofs.Moves.{Reads, layout_before, own_before, reseated, reseated_only, reseated_shows}
use Rattle.grant_enter.proofs.Moves.{sits_before}
use Rattle.grant_enter.proofs.home.Home.restart.Goals as goal
use Rattle.grant_enter.proofs.home.Home.restart.Goals.{After-index_mut-seat}

-- the seat of the slot
reads : (c : After-index_mut-seat)
    → Reads c.self.inside c.args.self.now c.args.slot c.index.result c.index_mut-seat.result.now
reads c = search rules

pub restart_seat-requires-clause-sits : goal.restart_seat-requires-clause-sits
restart_seat-requires-clause-sits c =
    sits_before (reads (goal.at.restart_seat-requires-clause-sits c).After-index_mut-seat)

pub restart_seat-requires-clause-from : goal.restart_seat-requires-clause-from
restart_seat-requires-clause-from c =
    let a = (goal.at.restart_seat-requires-clause-from c).After-index_mut-seat in
    subst (λ (e : Bounds). e.start ≤ c.args.brk) (layout_before (reads a)) c.requires.from

pub restart_seat-requires-clause-to : goal.restart_seat-requires-clause-to
restart_seat-requires-clause-to c =
    let a = (goal.at.restart_seat-requires-clause-to c).After-index_mut-seat in
    subst (λ (e : Bounds). c.args.brk ≤ e.end) (layout_before (reads a)) c.requires.to

pub restart_seat-requires-clause-life : goal.restart_seat-requires-clause-life
restart_seat-requires-clause-life c =
    let a = (goal.at.restart_seat-requires-clause-life c).After-index_mut-seat in
    subst (λ (own : Own). own.life + 1 < 2 ^ 32) (own_before (reads a)) c.requires.life

pub invariant_of-self : goal.invariant_of-self
invariant_of-self c =
    reseated (reads (goal.at.invariant_of-self c).After-index_mut-seat) c.restart_seat.new.memory
    c.restart_seat.new.seat
    c.restart_seat.ensures.reseats

pub returns-clause-own : goal.returns-clause-own
returns-clause-own c =
    let a = (goal.at.returns-clause-own c).After-index_mut-seat in
    reseated_shows (reads a) c.restart_seat.new.memory c.restart_seat.new.seat c.restart_seat.ensures.reseats
    (λ flash own own_after. own_after ≡ own_restarted c.args.brk own) c.restart_seat.ensures.own

pub returns-clause-rest : goal.returns-clause-rest
returns-clause-rest c =
    reseated_only (reads (goal.at.returns-clause-rest c).After-index_mut-seat) c.restart_seat.new.memory
    c.restart_seat.new.seat c.restart_seat.ensures.reseats
