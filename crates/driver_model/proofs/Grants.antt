-- What a process keeps for one driver, where its grant for another, or the same, was changed or made.
use Rattle.std.proofs.Common.{◌≡◌, ℕ, ◌==◌, true, false, List, [], ◌∷◌, Option, None, Some, is_some, refl}
use Rattle.std.proofs.Common.{eq-eqb}
use Rattle.std.specs.Option.{option_map}
use Rattle.grant_model.specs.Grants.{Grant, entered, fresh, grant_of, with_grant}
use Rattle.std.proofs.lemmas.Bool.{cases_Bool, cases_eq, ne_eqb}
use Rattle.std.proofs.Common.{inl, inr}
use Rattle.driver_model.proofs.Tables.{cases_Option}

-- a change that leaves the grant its driver's
abbrev pub StaysWith : (Grant → Grant) → Type 0
StaysWith change = (g : Grant) → (change g).driver ≡ g.driver

pub changed : (driver : ℕ) (change : Grant → Grant) (gs : List Grant) → StaysWith change
    → grant_of driver (with_grant driver change gs) ≡ option_map change (grant_of driver gs)
changed driver change [] stays = refl
changed driver change (g ∷ gs) stays =
    elim (cases_Bool (g.driver == driver)) [
      | inl e ↦ rw (e, stays g, e)
      | inr e ↦ rw (e, e) (changed driver change gs stays)
    ]

pub unchanged : (other driver : ℕ) (change : Grant → Grant) (gs : List Grant) → (driver == other) ≡ false
    → StaysWith change → grant_of other (with_grant driver change gs) ≡ grant_of other gs
unchanged other driver change [] apart stays = refl
unchanged other driver change (g ∷ gs) apart stays =
    elim (cases_eq g.driver driver) [
      | inl same ↦ rw (eq-eqb g.driver driver same, stays g, same, apart)
      | inr differs ↦ rw (ne_eqb g.driver driver differs) (rw (unchanged other driver change gs apart stays))
    ]

-- a driver that is entered has a grant
pub is_there : (driver : ℕ) (gs : List Grant) → is_some (grant_of driver (entered driver gs)) ≡ true
is_there driver gs =
    elim (cases_Option (grant_of driver gs))
    [ inl none ↦ rw (none, eq-eqb driver driver refl) | inr is ↦ rw (is.1, is.1) ]

-- where one is entered, a driver's grant stays, or is made fresh
pub told_still : {R : Type 0} (told : Option Grant → Option R) (other driver : ℕ) (gs : List Grant)
    → told (Some (fresh other)) ≡ told None → told (grant_of other (entered driver gs)) ≡ told (grant_of other gs)
told_still told other driver gs blank =
    elim (cases_Option (grant_of driver gs)) [
      | inl none ↦ elim (cases_eq driver other) [
        | inl same ↦ let gone : grant_of other gs ≡ None = rw (← same) none in
            rw (none, same, eq-eqb other other refl, gone) blank
        | inr apart ↦ rw (none, ne_eqb driver other apart)
      ]
      | inr is ↦ rw is.1
    ]
