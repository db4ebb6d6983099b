-- A request that is refused since one waits already: its process is as it was.
use Rattle.std.proofs.Common.{◌≡◌, ℕ, ◌-◌, Bool, false, cond, List, take, refl, ap, sym, Option}
use Rattle.std.proofs.Common.{None, Some, option_and_then, Err, eq-eqb, subst, arith, ◌∙◌}
use Rattle.std.specs.Option.{option_map}
use Rattle.std.proofs.lemmas.List.{take_all}
use Rattle.tk_base.specs.declared.call.CallRule.TheVariants.{Busy}
use Rattle.tk_base.specs.declared.process.ProcessId.{ProcessId}
use Rattle.grant_values.specs.declared.drivers.Driver.{Driver}
use Rattle.grant_values.specs.Drivers.{driver_of}
use Rattle.grant_values.specs.Values.{KeptValue, fresh_by, fresh_value}
use Rattle.grant_values.specs.ByNumber.{value_or_none}
use Rattle.grant_model.specs.Grants.{Grant, entering, fresh, grant_of}
use Rattle.process_model.specs.Own.{Own, kernel_break_of}
use Rattle.process_model.specs.Handed.{own_entering}
use Rattle.process_model.specs.Served.{kept, with_kept}
use Rattle.driver_model.specs.Requests.{RequestKind, asking, request_in}
use Rattle.grant_enter.specs.Homes.{ChangesOnly, Homes, IsInPlace, own_of}
use Rattle.process_seat.specs.Seen.{Seen}
use Rattle.process_seat.specs.Visits.{GrantVisit, Visited}
use Rattle.driver_requests.specs.Asking.{Obeys}
use Rattle.driver_requests.specs.Begins.{Begins}
use Rattle.driver_requests.proofs.Keeping.{kept_still}

-- a driver that is entered already is entered again without a change
entered_again : (driver : ℕ) (own : Own) (g : Grant) → IsInPlace own → grant_of driver own.grants ≡ Some g
    → own_entering driver own ≡ own
entered_again driver own g place is =
    ap entering_by is ∙ ap (λ xs. record own { ram = xs }) (take_all _ own.ram (omega (arith, place.ram)))
  where
    entering_by : Option Grant → Own
    entering_by found =
        let o = record own { grants = entering driver own.grants found } in
        record o { ram = take (kernel_break_of o - o.layout.start) own.ram }

-- one that is not keeps a fresh value then
kept_first : (driver : ℕ) (own : Own) → grant_of driver own.grants ≡ None
    → kept driver (own_entering driver own) ≡ Some (fresh_value driver)
kept_first driver own none =
    ap (λ found. option_map (λ g. g.value) (grant_of driver (entering driver own.grants found))) none
    ∙ ap (λ (b : Bool). option_map (λ g. g.value) (cond b (Some (fresh driver)) (grant_of driver own.grants)))
    (eq-eqb driver driver refl)

-- what a visitor that begins a request leaves
abbrev BeginsRequest : {R T V : Type 0} → RequestKind R → R → GrantVisit T V Bool → Type 0
BeginsRequest request_kind request visit =
    (value : _) (seen : Seen) (begun : Bool) (value' : _) (own : Own)
    → visit.leaves visit.visitor value seen begun value' own
    → Begins request_kind (request_kind.told (visit.keeps value)) request (visit.keeps value) begun (visit.keeps value')
    × (own ≡ seen.own)

-- nothing has changed, and a request waits
pub record IsBusy {R : Type 0} (request_kind : RequestKind R) (old new : Own) : Type 0 where
  pub waiting : R
  pub waits : request_in request_kind old ≡ Some waiting
  pub same : new ≡ old

module _ {R T V : Type 0} {visit : GrantVisit T V Bool} {life : ℕ} {flash : List ℕ} (request_kind : RequestKind R)
    (request : R) (by : Driver) (old new : Own) (begun : Bool)
    (visited : Visited visit (record { life = life; flash = flash; own = own_entering visit.grants.driver old }) begun
    new) (refused : begun ≡ false) (says : BeginsRequest request_kind request visit)
    (is : visit.grants.driver ≡ request_kind.driver) (by_is : driver_of visit.grants.driver ≡ Some by)
    (first : request_kind.told (fresh_by by) ≡ None) (place : IsInPlace old) where
  abbrev driver : ℕ
  driver = visit.grants.driver

  abbrev keeps : T → KeptValue
  keeps = visit.keeps

  begins : Begins request_kind (request_kind.told (keeps visited.was)) request (keeps visited.was) begun
      (keeps visited.value)
  begins = (says _ _ _ _ _ visited.left).0

  never : request_kind.told (keeps visited.was) ≡ None → IsBusy request_kind old new
  never e =
      let b = subst (λ o. Begins request_kind o request (keeps visited.was) begun (keeps visited.value)) e begins in
      let begins = b.0 in
      absurd cc

  is_there : (g : Grant) → grant_of driver old.grants ≡ Some g → (told : Option R)
      → request_kind.told (keeps visited.was) ≡ told → IsBusy request_kind old new
  is_there g there None e = never e
  is_there g there (Some waiting) e =
      let b = subst (λ o. Begins request_kind o request (keeps visited.was) begun (keeps visited.value)) e begins in
      let again = entered_again driver old g place there in
      let was = ap (kept driver) (sym again) ∙ visited.kept in
      record {
        waiting = waiting;
        waits = ap (λ d. option_and_then request_kind.told (kept d old)) (sym is)
            ∙ ap (option_and_then request_kind.told) was ∙ e;
        same = visited.after ∙ ap (λ v. with_kept driver v visited.own) b.1
            ∙ ap (with_kept driver (keeps visited.was)) ((says _ _ _ _ _ visited.left).1 ∙ again)
            ∙ ap (λ gs. record old { grants = gs }) (kept_still driver (keeps visited.was) old.grants was);
      }

  by_grant : (found : Option Grant) → grant_of driver old.grants ≡ found → IsBusy request_kind old new
  by_grant None none =
      let both = sym visited.kept ∙ kept_first driver old none in
      let fresh_is : keeps visited.was ≡ fresh_value driver = cc in
      never (ap request_kind.told (fresh_is ∙ ap (value_or_none fresh_by) by_is) ∙ first)
  by_grant (Some g) there = is_there g there _ refl

  pub is_busy : IsBusy request_kind old new
  is_busy = by_grant _ refl

pub obeys_busy : {R : Type 0} (request_kind : RequestKind R) (request : R) (id : ProcessId) (ids : List ProcessId)
    (old new : Homes) → IsBusy request_kind (own_of old id.slot) (own_of new id.slot) → ChangesOnly id.slot old new
    → Obeys request_kind.line id (asking request_kind request) ids old (Err Busy) ids new
obeys_busy request_kind request id ids old new busy rest = record {
  answer = rw (busy.waits) refl;
  own = rw (busy.waits) busy.same;
  waiting = rw (busy.waits) refl;
  rest = rest;
}
