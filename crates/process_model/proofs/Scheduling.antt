-- A value that is kept before an upcall is scheduled, and after.
use Rattle.std.proofs.Common.{◌≡◌, ℕ, ◌==◌, None, Some, option_map, refl}
use Rattle.tk_base.specs.declared.kinds.PairKind.TheVariants.{Upcall}
use Rattle.grant_values.specs.Values.{KeptValue}
use Rattle.grant_model.specs.Grants.{grant_of, pair_of, with_value}
use Rattle.process_model.specs.Own.{Own}
use Rattle.process_model.specs.Handed.{held}
use Rattle.process_model.specs.Served.{with_kept}
use Rattle.process_model.specs.Laws.{KeepingCommutes}
use Rattle.process_model.proofs.Pairs.{at}
use Rattle.std.proofs.lemmas.Bool.{cond_both}

-- to keep a value leaves the pairs
held_still : (driver : ℕ) (value : KeptValue) (d n : ℕ) (own : Own)
    → held Upcall d n (with_kept driver value own) ≡ held Upcall d n own
held_still driver value d n own =
    rw (at driver d (with_value value) own.grants (λ g. refl))
    (cond_both (driver == d) _ (grant_of d own.grants)
    (λ o. pair_of Upcall n o ≡ pair_of Upcall n (grant_of d own.grants))
    (λ e. elim (grant_of d own.grants)
    as (λ o. pair_of Upcall n (option_map (with_value value) o) ≡ pair_of Upcall n o) [ None ↦ refl | Some g ↦ refl ])
    (λ e. refl))

pub keeping_commutes : KeepingCommutes
keeping_commutes driver value None own = refl
keeping_commutes driver value (Some upcall) own = rw (held_still driver value upcall.driver upcall.number own)
