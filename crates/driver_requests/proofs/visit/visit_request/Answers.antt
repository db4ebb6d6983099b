use Rattle.std.proofs.Common.{arith}
use Rattle.grant_enter.specs.Homes.{own_of}
use Rattle.driver_requests.proofs.Visiting.{asked, visited}
use Rattle.driver_requests.proofs.visit.visit_request.Goals as goal

pub visit-requires : goal.visit-requires
visit-requires g c = (
  omega arith,
  λ value is. asked _ g.R.Request.request_kind c.args.grants.now.driver (own_of c.args.home.now c.args.id.slot) _
      c.requires.driver is c.requires.asks,
)

pub returns-in-Ok-clause-visits : goal.returns-in-Ok-clause-visits
returns-in-Ok-clause-visits g c =
    visited _ c.in-Ok.ensures.visits.1 c.in-Ok.ensures.visits.0 c.requires.driver (λ value value' seen own left. left)
