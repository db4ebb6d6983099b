-- What a driver's cost is.
use Rattle.std.proofs.Common.{arith, refl, ap, sym, ◌∙◌, ◌≡◌, ◌*◌, ◌/◌, ◌%◌, ℕ, Option, None, Some}
use Rattle.std.specs.Prelude.{option_map}
use Rattle.tk_base.specs.declared.upcall.Counts.{Counts}
use Rattle.grant_values.specs.Drivers.{counts_of, cost_of}
use Rattle.grant_model.specs.Grants.{shape_of}
use Rattle.grant_values.specs.ByNumber.{counts_or_none}
use Rattle.grant_region.specs.Region.{Costs}

pub record Known (driver cost : ℕ) : Type 0 where
  pub known : counts_of driver ≡ Some (shape_of driver)
  pub cost_is : cost ≡ cost_of (shape_of driver)

known_by : (driver cost : ℕ) (o : Option Counts) → counts_of driver ≡ o → option_map cost_of o ≡ Some cost
    → Known driver cost
unfolding shape_of
known_by driver cost (Some k) e is =
    let k_cost : cost_of k ≡ cost = some_is (cost_of k) cost is in
    record {
      known = e ∙ sym (ap (λ o. Some (counts_or_none o)) e);
      cost_is =
          sym k_cost ∙ sym (ap (λ o. cost_of (counts_or_none o)) e);
    }
  where
    some_is : (a b : ℕ) → Some a ≡ Some b → a ≡ b
    some_is a b e = cc
known_by driver cost None e is = absurd (cc)

pub known : (driver cost : ℕ) → Costs driver cost → Known driver cost
known driver cost is = known_by driver cost (counts_of driver) refl is

eights : (n cost : ℕ) → cost ≡ n / 8 * 8 → cost % 4 ≡ 0
eights n cost e = omega arith

-- a cost is whole words
pub cost-whole : (driver cost : ℕ) → Costs driver cost → cost % 4 ≡ 0
cost-whole driver cost is = let k = known driver cost is in eights _ cost k.cost_is
