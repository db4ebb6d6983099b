-- A visit to the request of a process.
use Rattle.std.proofs.Common.{◌≡◌, ℕ, ◌==◌, Bool, true, false, cond, not, ◌&&◌, Option, None, Some, IfSome}
use Rattle.std.proofs.Common.{option_and_then, unwrap_or, Result, refl, ap, sym, ◌∙◌}
use Rattle.grant_values.specs.Values.{KeptValue, NoValue}
use Rattle.process_model.specs.Own.{Own}
use Rattle.process_model.specs.Served.{kept, with_kept}
use Rattle.driver_model.specs.Requests.{RequestKind, request_in, with_request}
use Rattle.driver_model.proofs.Requesting.{requesting_commutes}
use Rattle.process_seat.specs.Seen.{Seen}
use Rattle.process_seat.specs.Visits.{FoundProcess, GrantVisit, Visited, is_stale, seen_by}
use Rattle.driver_requests.specs.Asking.{waiting_of}
use Rattle.driver_requests.specs.Visits.{RequestVisit, ServesWaiting, VisitsRequest}
use Rattle.driver_requests.specs.declared.visit.Attended.{Attended}
use Rattle.driver_requests.proofs.Keeping.{kept_still}

-- what holds of the request that a process keeps holds of the one in the value
pub asked : {R : Type 0} (P : R → Type 0) (request_kind : RequestKind R) (driver : ℕ) (own : Own) (value : KeptValue)
    → driver ≡ request_kind.driver → kept driver own ≡ Some value
    → ((request : R) → request_in request_kind own ≡ Some request → P request) → IfSome (request_kind.told value) P
asked P request_kind driver own value is kept_is holds = by_request (request_kind.told value) refl
  where
    by_request : (told : Option _) → request_kind.told value ≡ told → IfSome told P
    by_request None e = tt
    by_request (Some request) e =
        holds request
        (ap (λ d. option_and_then request_kind.told (kept d own)) (sym is)
        ∙ ap (option_and_then request_kind.told) kept_is ∙ e)

-- of a process that is there its request waits
present : {R : Type 0} (lives same : Bool) (request : Option R) → not (lives && same) ≡ false
    → cond same (cond lives request None) None ≡ request
present true true request e = refl
present true false request e = cc
present false same request e = cc

module _ {R T A V W : Type 0} {visit : GrantVisit T W (Result (Attended A) V)} {process : FoundProcess}
    {answer : Result (Attended A) V} {new : Own} (to : RequestVisit R A V) (v : Visited visit process answer new)
    (present_is : is_stale process.life process.own ≡ false) (is : visit.grants.driver ≡ to.kind.driver)
    (says : (value value' : T) (seen : Seen) (own : Own) → visit.leaves visit.visitor value seen answer value' own
    → ServesWaiting to seen (to.kind.told (visit.keeps value)) (visit.keeps value) answer (visit.keeps value')
    own) where
  abbrev driver : ℕ
  driver = visit.grants.driver

  abbrev keeps : T → KeptValue
  keeps = visit.keeps

  abbrev old : Own
  old = process.own

  abbrev seen : Seen
  seen = seen_by visit.grants process.flash old

  -- the value that was kept
  was : kept to.kind.driver old ≡ Some (keeps v.was)
  was = ap (λ d. kept d old) (sym is) ∙ v.kept

  serves : (waiting : Option R) → ServesWaiting to seen waiting (keeps v.was) answer (keeps v.value) v.own
      → VisitsRequest to seen waiting answer new
  serves None s = (
    s.0,
    rw (v.after, s.1, s.2) (ap (λ gs. record old { grants = gs }) (kept_still driver (keeps v.was) old.grants v.kept)),
  )
  serves (Some request) s =
      let rest = to.rest request seen in
      let step = to.step request seen in
      let still = ap (kept to.kind.driver) v.serves.rest ∙ was in (
        s.0,
        s.1,
        v.after ∙ ap (λ k. with_kept driver k v.own) s.2
            ∙ ap (λ d. with_kept d (to.kind.with_request rest (keeps v.was)) v.own) is
            ∙ ap (λ k. with_kept to.kind.driver (to.kind.with_request rest (unwrap_or k NoValue)) v.own) (sym still)
            ∙ ap (with_request to.kind rest) s.3
            ∙ requesting_commutes to.kind rest step.schedules step.own,
      )

  pub visited : VisitsRequest to seen (waiting_of to.kind process.life old) answer new
  visited =
      rw (present old.lives (old.life == process.life) (request_in to.kind old) present_is, was)
      (serves (to.kind.told (keeps v.was)) (says _ _ _ _ v.left))
