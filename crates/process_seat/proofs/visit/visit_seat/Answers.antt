use Rattle.std.proofs.Common.{ℕ, List, option_map, refl, sym, ap, ap₂, subst, ◌∙◌}
use Rattle.grant_model.specs.Grants.{Grant, grant_of}
use Rattle.grant_model.specs.Encoding.{decode_grants}
use Rattle.process_seat.specs.Seats.{own_in}
use Rattle.process_seat.specs.Visits.{GrantsOf, Visited, found_in, grants_of}
use Rattle.process_seat.proofs.Alive.{lives_on}
use Rattle.process_seat.proofs.Outcomes.{visit_by}
use Rattle.process_seat.proofs.visit.visit_seat.Goals as goal

pub returns-in-Some-clause-visits : goal.returns-in-Some-clause-visits
returns-in-Some-clause-visits g c = (
  lives_on (own_in c.args.memory.now.ram c.args.seat.now) c.requires.lives,
  subst (λ (grants : GrantsOf). Visited (visit_by grants g.T.GrantValue.kept c.args.visitor g.V.Visit.leaves)
      (found_in c.args.memory.now c.args.seat.now) c.visit_at.result
      (own_in c.visit_at.new.memory.ram c.visit_at.new.seat))
      (ap₂ grants_of c.in-Some.ensures.place.0 c.in-Some.ensures.place.1) c.visit_at.ensures.visited,
)

pub returns-in-None-clause-visits : goal.returns-in-None-clause-visits
returns-in-None-clause-visits g c = (
  lives_on (own_in c.args.memory.now.ram c.args.seat.now) c.requires.lives,
  ap (λ (xs : List ℕ). option_map (λ (g : Grant). g.value) (grant_of c.args.driver (decode_grants xs)))
      (sym c.kernel_of.ensures.bytes)
      ∙ ap (option_map (λ (g : Grant). g.value)) c.in-None.ensures.absent,
  refl,
  refl,
)
