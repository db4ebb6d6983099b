-- Requests of processes that a driver serves one after another. A process's request waits in the grant that it keeps
-- for the driver (Levy et al., SOSP 2017, section 4), and the process waits in a list of the board's.
use Rattle.std.specs.Prelude.{ℕ, Bool, false, if◌then◌else◌, [], ◌∷◌, Option, None, Some, is_some, option_and_then}
use Rattle.std.specs.Prelude.{option_map, unwrap_or, Ok}
use Rattle.tk_base.specs.declared.call.CallRule.TheVariants.{Busy}
use Rattle.grant_values.specs.Values.{KeptValue, NoValue}
use Rattle.syscall_abi.specs.declared.reply.Reply.TheVariants.{Success}
use Rattle.process_model.specs.Own.{Own}
use Rattle.process_model.specs.Served.{kept, with_kept}
use Rattle.driver_model.specs.Steps.{DriverStep, silently}
use Rattle.driver_model.specs.Commands.{Commanded, QueueName, Waits, once_entered, refusing}

-- Where a process asks a driver for something: the driver's number; the request in the value that it keeps for the
-- driver, if one waits; that value with another request, or with none; the list in which it waits. In a value of
-- another driver nothing waits, and a request replaces it.
pub record RequestKind (R : Type 0) : Type 0 where
  pub driver : ℕ
  pub told : KeptValue → Option R
  pub with_request : Option R → KeptValue → KeptValue
  pub line : QueueName

-- the request that a process keeps, if it keeps one
abbrev pub request_in : {R : Type 0} → RequestKind R → Own → Option R
request_in request_kind own = option_and_then request_kind.told (kept request_kind.driver own)

-- a process that keeps another request, or none; all else that it keeps stays
abbrev pub with_request : {R : Type 0} → RequestKind R → Option R → Own → Own
with_request request_kind request own =
    with_kept request_kind.driver
    (request_kind.with_request request (unwrap_or (kept request_kind.driver own) NoValue)) own

-- what a driver leaves of a process, which keeps another request then, or none
abbrev pub keeping_request : {R : Type 0} → RequestKind R → Option R → DriverStep → DriverStep
keeping_request request_kind request step = record step { own = with_request request_kind request step.own }

-- the request of a process that waits, if one does; none of one that has ended
abbrev pub waiting_in : {R : Type 0} → RequestKind R → Own → Option R
waiting_in request_kind own = if own.lives then request_in request_kind own else None

-- What a device's answer to a process comes to: what it leaves of the process; what was moved for it, bytes or a word,
-- if anything was; whether a request completed, so that the process waits no more.
pub record RequestAnswered (M : Type 0) : Type 0 where
  pub step : DriverStep
  pub moved : M
  pub completed : Bool

-- an answer that moves nothing, and changes nothing
abbrev pub unanswered : {M : Type 0} → M → Own → RequestAnswered M
unanswered nothing own = record { step = silently own; moved = nothing; completed = false }

-- what is made of a process's request of a kind that waits; something else where none waits
abbrev pub on_request : {R A : Type 0} → RequestKind R → Own → A → (R → A) → A
on_request request_kind own otherwise serve = unwrap_or (option_map serve (waiting_in request_kind own)) otherwise

-- a request begins to wait; it is refused where one of this kind waits already
abbrev pub asking : {R : Type 0} → RequestKind R → R → Own → Commanded
asking request_kind request own =
    let step = λ (o : Own). silently (with_request request_kind (Some request) o) in
    if is_some (request_in request_kind own) then refusing Busy own
    else once_entered request_kind.driver own
    (λ o. record { answer = Ok Success; step = step o; acts = Waits request_kind.line ∷ [] })
