use Rattle.std.proofs.Common.{ℕ, subst, sym}
use Rattle.grant_model.specs.Laws.{IsValue, value_bytes}
use Rattle.process_seat.proofs.kept.value_place.Goals as goal

pub returns-clause-found : goal.returns-clause-found
returns-clause-found c =
    subst (λ (n : ℕ). IsValue c.args.kernel.now n (value_bytes c.args.driver) c.args.driver)
    (sym c.value_offset_in-at.ensures)
    (c.values_are_found.ensures.at c.args.driver c.args.kernel.now c.in_ok-found.found c.requires.laid
    c.in_ok-found.ensures.area)
