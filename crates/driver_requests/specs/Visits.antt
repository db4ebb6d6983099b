-- What it comes to that a driver visits the request of a process (Levy et al., SOSP 2017, section 4).
use Rattle.std.specs.Prelude.{◌≡◌, Option, None, Some, is_none, Result, Err, IfOk, IsOk}
use Rattle.grant_values.specs.Values.{KeptValue}
use Rattle.process_model.specs.Own.{Own}
use Rattle.driver_model.specs.Requests.{RequestKind, keeping_request}
use Rattle.driver_model.specs.Steps.{DriverStep, own_after}
use Rattle.process_seat.specs.Seen.{Seen}
use Rattle.driver_requests.specs.declared.visit.Attended.{Attended}

-- A visit to a request of a kind. The visitor says itself, by the request and by what it sees, what its step is, what
-- waits of the request then, and what it may answer.
pub record RequestVisit (R A V : Type 0) : Type 1 where
  pub kind : RequestKind R
  pub visitor : V
  pub step : R → Seen → DriverStep
  pub rest : R → Seen → Option R
  pub answers : R → Seen → A → Type 0

-- what a visit to a request that waits came to: what the visitor may answer; completed exactly where none of it waits
-- still
pub record Attends {R A V : Type 0} (visit : RequestVisit R A V) (request : R) (seen : Seen)
    (attended : Attended A) : Type 0 where
  pub answers : visit.answers request seen attended.answer
  pub completes : attended.completed ≡ is_none (visit.rest request seen)

-- What a visit to the value that is kept leaves, by the request that waits in it: it is served, and what waits of it
-- still is kept; where none waits, nothing changes, and the visitor is handed back.
abbrev pub ServesWaiting : {R A V : Type 0} → RequestVisit R A V → Seen → Option R → KeptValue
    → Result (Attended A) V → KeptValue → Own → Type 0
ServesWaiting visit seen None value answer value' own =
    (answer ≡ Err visit.visitor) × (value' ≡ value) × (own ≡ seen.own)
ServesWaiting visit seen (Some request) value answer value' own =
    IsOk answer × IfOk answer (Attends visit request seen)
    × (value' ≡ visit.kind.with_request (visit.rest request seen) value)
    × (own ≡ own_after (visit.step request seen))

-- the same of a process, by the request of it that waits
abbrev pub VisitsRequest : {R A V : Type 0} → RequestVisit R A V → Seen → Option R → Result (Attended A) V → Own
    → Type 0
VisitsRequest visit seen None answer new = (answer ≡ Err visit.visitor) × (new ≡ seen.own)
VisitsRequest visit seen (Some request) answer new =
    IsOk answer × IfOk answer (Attends visit request seen)
    × (new ≡ own_after (keeping_request visit.kind (visit.rest request seen) (visit.step request seen)))
