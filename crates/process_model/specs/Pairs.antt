-- The pairs that a process has handed to drivers, and what changes them (TRD 104, "Subscribe", "Read-Only Allow",
-- "Read-Write Allow").
use Rattle.std.specs.Prelude.{◌≡◌, ◌≢◌, ◌<◌, ℕ, List, [], length, Option, None, Some}
use Rattle.tk_base.specs.declared.kinds.PairKind.{PairKind}
use Rattle.tk_base.specs.Kinds.{count_of, pair_count}
use Rattle.grant_values.specs.Values.{KeptValue}
use Rattle.grant_model.specs.Grants.{Grant, grant_of, fresh, shape_of}
use Rattle.process_model.specs.Own.{Own}
use Rattle.process_model.specs.Handed.{own_entering, handing, held}
use Rattle.process_model.specs.Served.{own_scheduled, with_kept}
use Rattle.process_model.specs.Flag.{with_flag}

-- the pairs that stand in a driver's grant, kind by kind: all (0, 0) where the driver is not entered
abbrev pub pairs_in : ℕ → Option Grant → List (ℕ × ℕ)
pairs_in driver None = (fresh driver).pairs
pairs_in driver (Some g) = g.pairs

-- those that a process has handed
abbrev pub pairs_handed : ℕ → Own → List (ℕ × ℕ)
pairs_handed driver own = pairs_in driver (grant_of driver own.grants)

-- a process has as many pairs for each driver as the table of drivers has
pub record HasShape (own : Own) : Type 0 where
  pub counts : (driver : ℕ) → length (pairs_handed driver own) ≡ pair_count (shape_of driver)

-- the pairs that it has handed are those of before
pub record HandsTheSame (own o : Own) : Type 0 where
  pub pairs : (driver : ℕ) → pairs_handed driver o ≡ pairs_handed driver own

-- one pair is the new one, and every other is as before
pub record HandsOne (kind : PairKind) (driver number : ℕ) (pair : ℕ × ℕ) (own o : Own) : Type 0 where
  pub shape : HasShape o
  pub this : held kind driver number o ≡ pair
  pub others : (k : PairKind) (d n : ℕ) → (k ≡ kind → d ≡ driver → n ≢ number) → held k d n o ≡ held k d n own

-- no pair was handed
pub record HandsNone (own : Own) : Type 0 where
  pub shape : HasShape own
  pub none : (kind : PairKind) (driver number : ℕ) → held kind driver number own ≡ (0, 0)

-- What changes pairs: handing one changes that one alone. The others stay where the grants stay, where a driver is
-- entered, where another value is kept, where an upcall is scheduled, and where a yield's flag is written. A process
-- without grants, as at its start and after a restart, has handed none.
pub record OnlyHandingChangesPairs : Type 0 where
  pub held : (own o : Own) → HandsTheSame own o → (kind : PairKind) (driver number : ℕ) →
      held kind driver number o ≡ held kind driver number own
  pub shape : (own o : Own) → HandsTheSame own o → HasShape own → HasShape o
  pub handing : (kind : PairKind) (driver number : ℕ) (pair : ℕ × ℕ) (own : Own) → HasShape own →
      number < count_of kind (shape_of driver) →
      HandsOne kind driver number pair own (handing kind driver number pair own)
  pub grants : (own o : Own) → o.grants ≡ own.grants → HandsTheSame own o
  pub entering : (driver : ℕ) (own : Own) → HandsTheSame own (own_entering driver own)
  pub keeping : (driver : ℕ) (value : KeptValue) (own : Own) → HandsTheSame own (with_kept driver value own)
  pub scheduled : (driver number : ℕ) (args : List ℕ) (own : Own)
      → HandsTheSame own (own_scheduled driver number args own)
  pub flag : (at byte : ℕ) (own : Own) → HandsTheSame own (with_flag at byte own)
  pub none : (own : Own) → own.grants ≡ [] → HandsNone own
