-- A grant is visited: an id whose process is not there is stale, and nothing has changed. Else the seat of its slot is
-- read (`Reads`), its process lives in that life, and what `visit_seat` promised of the seat is carried to what
-- contracts see by `Moves`.
use Rattle.std.proofs.Common.{◌≡◌, true, not, refl, sym, ap, subst, ◌∙◌}
use Rattle.process_model.specs.Own.{Own}
use Rattle.grant_enter.specs.Homes.{own_of}
use Rattle.grant_enter.specs.Housed.{homes_of}
use Rattle.process_seat.specs.Visits.{Visits, FoundProcess, GrantsOf, grants_of}
use Rattle.process_seat.proofs.Outcomes.{visit_by}
use Rattle.grant_enter.proofs.Living.{stale_is}
use Rattle.grant_enter.proofs.Moves.{Reads, reads_there, reseated, reseated_found, reseated_only}
use Rattle.grant_enter.proofs.Moves.{seat_there, sits_before, with_seat}
use Rattle.grant_enter.proofs.grant.Grant.visit.Goals as goal
use Rattle.grant_enter.proofs.grant.Grant.visit.Given.{Over}
use Rattle.grant_enter.proofs.grant.Grant.visit.Goals.{After-index_mut-visited}

-- one that is not there is stale
pub returns-then-not-is_there-clause-visits : goal.returns-then-not-is_there-clause-visits
returns-then-not-is_there-clause-visits g c = (
  stale_is c.args.home.now.owns c.args.id.slot c.args.id.life
      ∙ ap not (sym c.is_there.ensures ∙ c.if-not-is_there.true),
  refl,
  refl,
)

-- the seat of the slot
reads : (g : Over) (c : After-index_mut-visited g)
    → Reads c.home.inside c.args.home.now c.args.id.slot c.index.result c.index_mut-visited.result.now
reads g c =
    reads_there c.home.inside c.args.home.now c.args.id.slot c.index.result c.args.id.life
    c.index_mut-visited.result.now c.home.invariant c.home.view_is
    (sym c.is_there.ensures ∙ c.if-not-is_there.false) c.index.ensures.value c.index_mut-visited.ensures.value

-- its process lives there, in the life of the id
there : (g : Over) (c : After-index_mut-visited g)
    → (c.index_mut-visited.result.now.lives ≡ true) × (c.index_mut-visited.result.now.life ≡ c.args.id.life)
there g c = seat_there (reads g c) c.args.id.life (sym c.is_there.ensures ∙ c.if-not-is_there.false)

pub visit_seat-requires-clause-sits : goal.visit_seat-requires-clause-sits
visit_seat-requires-clause-sits g c =
    sits_before (reads g (goal.at.visit_seat-requires-clause-sits g c).After-index_mut-visited)

pub visit_seat-requires-clause-lives : goal.visit_seat-requires-clause-lives
visit_seat-requires-clause-lives g c =
    (there g (goal.at.visit_seat-requires-clause-lives g c).After-index_mut-visited).0

pub invariant_of-home : goal.invariant_of-home
invariant_of-home g c =
    reseated (reads g (goal.at.invariant_of-home g c).After-index_mut-visited) c.visit_seat.new.memory
    c.visit_seat.new.seat c.visit_seat.ensures.reseats

pub returns-clause-visits : goal.returns-clause-visits
returns-clause-visits g c =
    let at = (goal.at.returns-clause-visits g c).After-index_mut-visited in
    let Comes : GrantsOf → FoundProcess → Own → Type 0 =
    λ grants process. Visits (visit_by grants g.T.GrantValue.kept c.args.visitor g.V.Visit.leaves) process
    c.visit_seat.result in
    let process : FoundProcess = record {
      life = c.args.id.life;
      flash = c.args.home.now.flash;
      own = own_of c.args.home.now c.args.id.slot;
    } in
    let now = homes_of (with_seat c.home.inside c.visit_seat.new.memory c.index.result c.visit_seat.new.seat) in
    subst (λ (grants : GrantsOf). Comes grants process (own_of now c.args.id.slot)) c.self.view_is
    (reseated_found (reads g at) c.visit_seat.new.memory c.visit_seat.new.seat c.visit_seat.ensures.reseats
    (Comes (grants_of c.self.inside.driver c.self.inside.counts)) c.args.id.life (there g at).1
    c.visit_seat.ensures.visits)

pub returns-clause-rest : goal.returns-clause-rest
returns-clause-rest g c =
    reseated_only (reads g (goal.at.returns-clause-rest g c).After-index_mut-visited) c.visit_seat.new.memory
    c.visit_seat.new.seat c.visit_seat.ensures.reseats
