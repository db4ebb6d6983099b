-- A grant is entered: an id whose process is not there is stale, and nothing has changed. Else the seat of its slot is
-- read (`Reads`), its process lives in that life, and what `enter_seat` promised of the seat is carried to what
-- contracts see by `Moves`.
use Rattle.std.proofs.Common.{◌≡◌, true, not, refl, sym, ap, subst, ◌∙◌}
use Rattle.process_model.specs.Own.{Own}
use Rattle.grant_enter.specs.Homes.{own_of}
use Rattle.grant_enter.specs.Housed.{homes_of}
use Rattle.process_seat.specs.Visits.{Enters, FoundProcess, GrantsOf, grants_of}
use Rattle.process_seat.proofs.Outcomes.{visit_by}
use Rattle.grant_enter.proofs.Living.{stale_is}
use Rattle.grant_enter.proofs.Moves.{Reads, reads_there, reseated, reseated_found, reseated_only}
use Rattle.grant_enter.proofs.Moves.{seat_there, sits_before, with_seat}
use Rattle.grant_enter.proofs.grant.Grant.enter.Goals as goal
use Rattle.grant_enter.proofs.grant.Grant.enter.Given.{Over}
use Rattle.grant_enter.proofs.grant.Grant.enter.Goals.{After-index_mut-seat}

-- one that is not there is stale
pub returns-then-not-is_there-clause-enters : goal.returns-then-not-is_there-clause-enters
returns-then-not-is_there-clause-enters g c = (
  stale_is c.args.home.now.owns c.args.id.slot c.args.id.life
      ∙ ap not (sym c.is_there.ensures ∙ c.if-not-is_there.true),
  refl,
)

-- the seat of the slot
reads : (g : Over) (c : After-index_mut-seat g)
    → Reads c.home.inside c.args.home.now c.args.id.slot c.index.result c.index_mut-seat.result.now
reads g c =
    reads_there c.home.inside c.args.home.now c.args.id.slot c.index.result c.args.id.life c.index_mut-seat.result.now
    c.home.invariant c.home.view_is (sym c.is_there.ensures ∙ c.if-not-is_there.false) c.index.ensures.value
    c.index_mut-seat.ensures.value

-- its process lives there, in the life of the id
there : (g : Over) (c : After-index_mut-seat g)
    → (c.index_mut-seat.result.now.lives ≡ true) × (c.index_mut-seat.result.now.life ≡ c.args.id.life)
there g c = seat_there (reads g c) c.args.id.life (sym c.is_there.ensures ∙ c.if-not-is_there.false)

pub enter_seat-requires-clause-sits : goal.enter_seat-requires-clause-sits
enter_seat-requires-clause-sits g c =
    sits_before (reads g (goal.at.enter_seat-requires-clause-sits g c).After-index_mut-seat)

pub enter_seat-requires-clause-lives : goal.enter_seat-requires-clause-lives
enter_seat-requires-clause-lives g c =
    (there g (goal.at.enter_seat-requires-clause-lives g c).After-index_mut-seat).0

pub invariant_of-home : goal.invariant_of-home
invariant_of-home g c =
    reseated (reads g (goal.at.invariant_of-home g c).After-index_mut-seat) c.enter_seat.new.memory
    c.enter_seat.new.seat c.enter_seat.ensures.reseats

pub returns-clause-enters : goal.returns-clause-enters
returns-clause-enters g c =
    let at = (goal.at.returns-clause-enters g c).After-index_mut-seat in
    let Comes : GrantsOf → FoundProcess → Own → Type 0 =
    λ grants process. Enters (visit_by grants g.T.GrantValue.kept c.args.visitor g.V.Visit.leaves) process
    c.enter_seat.result in
    let process : FoundProcess = record {
      life = c.args.id.life;
      flash = c.args.home.now.flash;
      own = own_of c.args.home.now c.args.id.slot;
    } in
    let now = homes_of (with_seat c.home.inside c.enter_seat.new.memory c.index.result c.enter_seat.new.seat) in
    subst (λ (grants : GrantsOf). Comes grants process (own_of now c.args.id.slot)) c.self.view_is
    (reseated_found (reads g at) c.enter_seat.new.memory c.enter_seat.new.seat c.enter_seat.ensures.reseats
    (Comes (grants_of c.self.inside.driver c.self.inside.counts)) c.args.id.life (there g at).1
    c.enter_seat.ensures.enters)

pub returns-clause-rest : goal.returns-clause-rest
returns-clause-rest g c =
    reseated_only (reads g (goal.at.returns-clause-rest g c).After-index_mut-seat) c.enter_seat.new.memory
    c.enter_seat.new.seat c.enter_seat.ensures.reseats
