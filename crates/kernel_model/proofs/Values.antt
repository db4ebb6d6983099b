-- What a process keeps for one driver, where a driver is entered, keeps another value or is handed a pair.
use Rattle.std.proofs.Common.{◌≡◌, ℕ, ◌==◌, false, List, [], ◌∷◌, Option, None, Some, refl, sym, ap}
use Rattle.std.proofs.Common.{◌∙◌, eqb-true, eq-eqb, unwrap_or, option_map}
use Rattle.grant_values.specs.Values.{KeptValue, fresh_value}
use Rattle.tk_base.specs.declared.kinds.PairKind.{PairKind}
use Rattle.grant_values.specs.Drivers.{drivers}
use Rattle.grant_model.specs.Grants.{Grant, entered, entering, grant_of, with_grant, with_pair, with_value}
use Rattle.driver_model.specs.Alarm.{alarm_driver, armed_in}
use Rattle.process_model.specs.Own.{Own}
use Rattle.process_model.specs.Handed.{handing, own_entering}
use Rattle.process_model.specs.Served.{kept, with_kept}
use Rattle.std.proofs.lemmas.Bool.{cases_Bool, eqb-false}
use Rattle.std.proofs.Common.{inl, inr}
use Rattle.kernel_model.proofs.Places.{cases_Option}

-- the value of a grant that was found
abbrev told : Option Grant → Option KeptValue
told found = option_map (λ g. g.value) found

-- the value that is kept is the last one that was
put : (driver : ℕ) (value : KeptValue) (gs : List Grant)
    → told (grant_of driver (with_grant driver (with_value value) gs))
    ≡ option_map (λ (old : KeptValue). value) (told (grant_of driver gs))
put driver value [] = refl
put driver value (g ∷ gs) =
    elim (cases_Bool (g.driver == driver)) [ inl e ↦ rw (e, e) | inr e ↦ rw (e, e) (put driver value gs) ]

-- and that of another driver, or of one that keeps its value, is the same
beside : (driver other : ℕ) (change : Grant → Grant) → ((g : Grant) → (change g).driver ≡ g.driver)
    → ((g : Grant) → g.driver ≡ driver → g.driver ≡ other → (change g).value ≡ g.value) → (gs : List Grant)
    → told (grant_of other (with_grant driver change gs)) ≡ told (grant_of other gs)
beside driver other change named valued [] = refl
beside driver other change named valued (g ∷ gs) =
    let later = beside driver other change named valued gs in
    elim (cases_Bool (g.driver == driver)) [
      | inl here ↦ elim (cases_Bool (g.driver == other)) [
        | inl is ↦ rw (here, named g, is) (ap Some (valued g (eqb-true _ _ here) (eqb-true _ _ is)))
        | inr apart ↦ rw (here, named g, apart)
      ]
      | inr gone ↦
          elim (cases_Bool (g.driver == other)) [ inl is ↦ rw (gone, is) | inr apart ↦ rw (gone, apart) later ]
    ]

-- a driver that is entered keeps what it kept, or what it keeps at first; every other keeps the same
entered_here : (driver : ℕ) (gs : List Grant)
    → told (grant_of driver (entered driver gs)) ≡ Some (unwrap_or (told (grant_of driver gs)) (fresh_value driver))
entered_here driver gs =
    elim (cases_Option (grant_of driver gs)) [
      | inl none ↦ rw (none, eq-eqb driver driver refl)
      | inr is ↦ rw (is.1, is.1)
    ]

entered_beside : (driver other : ℕ) (gs : List Grant) → (driver == other) ≡ false
    → told (grant_of other (entered driver gs)) ≡ told (grant_of other gs)
entered_beside driver other gs apart =
    elim (grant_of driver gs) as (λ o. told (grant_of other (entering driver gs o)) ≡ told (grant_of other gs))
    [ None ↦ rw apart | Some g ↦ refl ]

-- so it is of a process
pub kept_put : (driver : ℕ) (value : KeptValue) (own : Own)
    → kept driver (with_kept driver value own) ≡ option_map (λ (old : KeptValue). value) (kept driver own)
kept_put driver value own = put driver value own.grants

pub kept_entering : (driver : ℕ) (own : Own)
    → kept driver (own_entering driver own) ≡ Some (unwrap_or (kept driver own) (fresh_value driver))
kept_entering driver own = entered_here driver own.grants

pub kept_beside : (driver other : ℕ) (value : KeptValue) (own : Own) → (driver == other) ≡ false
    → kept other (with_kept driver value own) ≡ kept other own
kept_beside driver other value own apart =
    beside driver other (with_value value) (λ g. refl)
    (λ g here is. absurd (eqb-false driver other apart (sym here ∙ is))) own.grants

pub entering_beside : (driver other : ℕ) (own : Own) → (driver == other) ≡ false
    → kept other (own_entering driver own) ≡ kept other own
entering_beside driver other own apart = entered_beside driver other own.grants apart

-- so what is read of it is as it was, where a driver that is entered tells what is told of none
pub entering_read : {X : Type 0} (driver : ℕ) (read : Option KeptValue → X)
    → ((o : Option KeptValue) → read (Some (unwrap_or o (fresh_value driver))) ≡ read o) → (other : ℕ) (own : Own)
    → read (kept driver (own_entering other own)) ≡ read (kept driver own)
entering_read driver read blank other own =
    elim (cases_Bool (other == driver)) [
      | inl e ↦ rw (eqb-true other driver e, kept_entering driver own) (blank (kept driver own))
      | inr e ↦ ap read (entering_beside other driver own e)
    ]

-- a pair that is handed leaves every value
pub kept_handing : (other driver : ℕ) (kind : PairKind) (number : ℕ) (pair : ℕ × ℕ) (own : Own)
    → kept other (handing kind driver number pair own) ≡ kept other (own_entering driver own)
kept_handing other driver kind number pair own =
    beside driver other (with_pair kind number pair) (λ g. refl) (λ g here is. refl) (own_entering driver own).grants

-- an alarm's driver that is entered has none armed
pub alarm_blank : (o : Option KeptValue) → armed_in (Some (unwrap_or o (fresh_value alarm_driver))) ≡ armed_in o
unfolding drivers
alarm_blank None = refl
alarm_blank (Some v) = refl
