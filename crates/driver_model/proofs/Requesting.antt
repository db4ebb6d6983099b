-- A request that is kept before an upcall is scheduled, and after.
use Rattle.std.proofs.Common.{◌≡◌, List, Option, None, Some, option_map, unwrap_or, refl, ap, ◌∙◌}
use Rattle.grant_model.specs.Grants.{Grant, grant_of}
use Rattle.grant_values.specs.Values.{KeptValue, NoValue}
use Rattle.process_model.specs.Own.{Own}
use Rattle.process_model.specs.Served.{ScheduledUpcall, own_scheduling, with_kept}
use Rattle.process_model.proofs.Scheduling.{keeping_commutes}
use Rattle.driver_model.specs.Requests.{RequestKind, with_request}
use Rattle.driver_model.proofs.Scheduled.{schedules}

-- it is the same whether a request is kept before an upcall is scheduled, or after
pub requesting_commutes : {R : Type 0} (request_kind : RequestKind R) (request : Option R)
    (upcall : Option ScheduledUpcall) (own : Own)
    → with_request request_kind request (own_scheduling upcall own)
    ≡ own_scheduling upcall (with_request request_kind request own)
requesting_commutes request_kind request upcall own =
    ap (λ (gs : List Grant). with_kept request_kind.driver (value_in gs) (own_scheduling upcall own)) (same upcall)
    ∙ keeping_commutes request_kind.driver (value_in own.grants) upcall own
  where
    value_in : List Grant → KeptValue
    value_in gs =
        request_kind.with_request request
        (unwrap_or (option_map (λ g. g.value) (grant_of request_kind.driver gs)) NoValue)

    same : (upcall : Option ScheduledUpcall) → (own_scheduling upcall own).grants ≡ own.grants
    same None = refl
    same (Some u) = ap (λ (o : Own). o.grants) (schedules u.driver u.number u.args own).rest
