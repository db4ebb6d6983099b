-- All that a process asks for, as its grants tell it. A request that is put is then asked for, where its driver has a
-- grant (`asked_put`), and what is asked for in another queue stays (`asked_beside`, by pairs of queues): another
-- driver's grant keeps it, or the console, whose two requests stand side by side.
use Rattle.std.proofs.Common.{◌≡◌, ℕ, ◌==◌, false, List, Option, None, Some, option_and_then}
use Rattle.std.proofs.Common.{unwrap_or, refl, sym, ap, ◌∙◌}
use Rattle.std.proofs.lemmas.Bool.{false≢true}
use Rattle.std.specs.Option.{option_map}
use Rattle.tk_base.specs.declared.kinds.PairKind.{PairKind}
use Rattle.grant_model.specs.Grants.{with_pair, Grant, entered, fresh, grant_of, with_grant, with_value, shape_of}
use Rattle.grant_values.specs.Drivers.{counts_of, drivers}
use Rattle.grant_values.specs.Values.{KeptValue, NoValue}
use Rattle.process_model.specs.Own.{Own}
use Rattle.process_model.specs.Handed.{own_entering}
use Rattle.driver_model.specs.Commands.{QueueName, Writes, Reads, Randoms, Stores, is_same}
use Rattle.driver_model.specs.Requests.{RequestKind, with_request}
use Rattle.driver_model.specs.Console.{console_reads, console_writes}
use Rattle.driver_model.specs.Lines.{RequestOf, kind_in}
use Rattle.driver_model.proofs.Grants.{StaysWith, changed, is_there, told_still, unchanged}
use Rattle.std.proofs.lemmas.Bool.{cases_eq, ne_eqb}
use Rattle.std.proofs.Common.{inl, inr}
use Rattle.driver_model.proofs.Tables.{cases_Option}

-- what a grant tells of a kind of request
abbrev pub told_by : {R : Type 0} → RequestKind R → Option Grant → Option R
told_by request_kind found = option_and_then request_kind.told (option_map (λ g. g.value) found)

-- what is asked for in a queue
abbrev pub asked : (queue : QueueName) → List Grant → Option (RequestOf queue)
asked queue gs = told_by (kind_in queue) (grant_of (kind_in queue).driver gs)

-- another driver's grant may be changed
pub asked_apart : (queue : QueueName) (driver : ℕ) (change : Grant → Grant) (gs : List Grant)
    → (driver == (kind_in queue).driver) ≡ false → StaysWith change
    → asked queue (with_grant driver change gs) ≡ asked queue gs
asked_apart queue driver change gs apart stays =
    ap (told_by (kind_in queue)) (unchanged (kind_in queue).driver driver change gs apart stays)

-- any may be entered
pub asked_still : (queue : QueueName) (driver : ℕ) (gs : List Grant) → asked queue (entered driver gs) ≡ asked queue gs
unfolding shape_of counts_of drivers
asked_still queue driver gs =
    told_still (told_by (kind_in queue)) (kind_in queue).driver driver gs (blank queue)
  where
    blank : (q : QueueName)
        → told_by (kind_in q) (Some (fresh (kind_in q).driver)) ≡ told_by (kind_in q) None
    blank Writes = refl
    blank q = refl

-- a pair may be handed, to any driver
pub asked_handed : (queue : QueueName) (kind : PairKind) (driver number : ℕ) (pair : ℕ × ℕ) (gs : List Grant)
    → asked queue (with_grant driver (with_pair kind number pair) gs) ≡ asked queue gs
asked_handed queue kind driver number pair gs =
    elim (cases_eq driver (kind_in queue).driver) [
      | inl same ↦
          rw (same, changed (kind_in queue).driver (with_pair kind number pair) gs (λ g. refl))
          (elim (grant_of (kind_in queue).driver gs) as (λ found.
          told_by (kind_in queue) (option_map (with_pair kind number pair) found) ≡ told_by (kind_in queue) found)
          [ None ↦ refl | Some g ↦ refl ])
      | inr apart ↦ asked_apart queue driver _ gs (ne_eqb driver _ apart) (λ g. refl)
    ]

-- a list of grants where the value of one of them has another request
abbrev putting : {R : Type 0} → RequestKind R → Option R → List Grant → List Grant
putting request_kind request gs =
    with_grant request_kind.driver (with_value
    (request_kind.with_request request
    (unwrap_or (option_map (λ g. g.value) (grant_of request_kind.driver gs)) NoValue))) gs

-- a request where there is a grant for it
abbrev pub if_there : {R : Type 0} → Option R → Option Grant → Option R
if_there request found = option_and_then (λ value. request) (option_map (λ g. g.value) found)

-- what the value that is put tells, at that kind of request and at another of the same driver
put_here : {R S : Type 0} (request_kind : RequestKind R) (other : RequestKind S) (request : Option R)
    (tells : KeptValue → Option S) (gs : List Grant)
    → ((value : KeptValue) → other.told (request_kind.with_request request value) ≡ tells value)
    → told_by other (grant_of request_kind.driver (putting request_kind request gs))
    ≡ option_and_then tells (option_map (λ g. g.value) (grant_of request_kind.driver gs))
put_here request_kind other request tells gs reads =
    ap (told_by other) (changed request_kind.driver _ gs (λ g. refl))
    ∙ elim (grant_of request_kind.driver gs) as (λ found. told_by other (option_map (with_value
    (request_kind.with_request request (unwrap_or (option_map (λ g. g.value) found) NoValue))) found)
    ≡ option_and_then tells (option_map (λ g. g.value) found)) [ None ↦ refl | Some g ↦ reads g.value ]

-- a request that is put is then asked for
pub asked_put : (queue : QueueName) (request : Option (RequestOf queue)) (own : Own)
    → asked queue (with_request (kind_in queue) request own).grants
    ≡ if_there request (grant_of (kind_in queue).driver own.grants)
asked_put queue request own =
    put_here (kind_in queue) (kind_in queue) request (λ value. request) own.grants (reads queue request)
  where
    reads : (q : QueueName) (request : Option (RequestOf q)) (value : KeptValue)
        → (kind_in q).told ((kind_in q).with_request request value) ≡ request
    reads Writes request value = refl
    reads q request value = refl

put_elsewhere : {R S : Type 0} (request_kind : RequestKind R) (other : RequestKind S) (request : Option R)
    (gs : List Grant) → (request_kind.driver == other.driver) ≡ false
    → told_by other (grant_of other.driver (putting request_kind request gs)) ≡ told_by other (grant_of other.driver gs)
put_elsewhere request_kind other request gs apart =
    ap (told_by other) (unchanged other.driver request_kind.driver _ gs apart (λ g. refl))

-- and what is asked for in another queue stays: another driver keeps it, or the console, whose requests stand side by
-- side
pub asked_beside : (here queue : QueueName) → is_same here queue ≡ false → (request : Option (RequestOf here))
    (own : Own) → asked queue (with_request (kind_in here) request own).grants ≡ asked queue own.grants
asked_beside Writes Reads apart request own =
    put_here console_writes console_reads request console_reads.told own.grants (λ value. refl)
asked_beside Reads Writes apart request own =
    put_here console_reads console_writes request console_writes.told own.grants (λ value. refl)
asked_beside Writes Writes apart request own = absurd (false≢true (sym apart))
asked_beside Reads Reads apart request own = absurd (false≢true (sym apart))
asked_beside Randoms Randoms apart request own = absurd (false≢true (sym apart))
asked_beside Stores Stores apart request own = absurd (false≢true (sym apart))
asked_beside here queue apart request own = put_elsewhere (kind_in here) (kind_in queue) request own.grants refl

-- where the driver is entered, the request is the one that was put; where none is put, there is none
if_entered : {R : Type 0} (request : Option R) (driver : ℕ) (gs : List Grant)
    → if_there request (grant_of driver (entered driver gs)) ≡ request
if_entered request driver gs =
    elim (cases_Option (grant_of driver (entered driver gs))) [
      | inl none ↦ absurd (false≢true (rw none at (is_there driver gs)))
      | inr is ↦ rw is.1
    ]

-- so it is where one was told before
pub if_told : {R : Type 0} (request_kind : RequestKind R) (waiting : R) (request : Option R) (found : Option Grant)
    → told_by request_kind found ≡ Some waiting → if_there request found ≡ request
if_told request_kind waiting request None e = cc
if_told request_kind waiting request (Some g) e = refl

pub if_none : {R : Type 0} (found : Option Grant) → if_there {R = R} None found ≡ None
if_none None = refl
if_none (Some g) = refl

-- so it is with a driver that is entered for it
pub entered_put : (queue : QueueName) (request : Option (RequestOf queue)) (own : Own)
    → asked queue (with_request (kind_in queue) request (own_entering (kind_in queue).driver own)).grants ≡ request
entered_put queue request own =
    asked_put queue request (own_entering (kind_in queue).driver own)
    ∙ if_entered request (kind_in queue).driver own.grants

pub entered_beside : (here queue : QueueName) → is_same here queue ≡ false → (request : Option (RequestOf here))
    (own : Own)
    → asked queue (with_request (kind_in here) request (own_entering (kind_in here).driver own)).grants
    ≡ asked queue own.grants
entered_beside here queue apart request own =
    asked_beside here queue apart request (own_entering (kind_in here).driver own)
    ∙ asked_still queue (kind_in here).driver own.grants
