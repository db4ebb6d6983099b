-- The value that a process keeps for a driver.
use Rattle.std.proofs.Common.{◌≡◌, ◌≤◌, ◌+◌, ℕ, Option, None, Some, ap, arith, subst}
use Rattle.std.specs.Prelude.{option_map}
use Rattle.tk_base.specs.declared.upcall.Counts.{Counts}
use Rattle.tk_base.specs.Kinds.{pair_count}
use Rattle.grant_values.specs.declared.drivers.Driver.{Driver}
use Rattle.grant_values.specs.declared.drivers.Driver.TheVariants.{Alarm}
use Rattle.grant_values.specs.Drivers.{counts_by, counts_of, driver_of}
use Rattle.grant_model.specs.Grants.{shape_of}
use Rattle.grant_values.specs.ByNumber.{counts_or_none}

-- the counts of a driver that there is
pub shape_is : (driver : ℕ) (counts : Counts) → counts_of driver ≡ Some counts → shape_of driver ≡ counts
unfolding shape_of
shape_is driver counts is = ap counts_or_none is

-- no driver has many pairs, nor a large value
pub few_pairs : (driver : ℕ) (counts : Counts) → counts_of driver ≡ Some counts → pair_count counts + counts.value ≤ 100
unfolding counts_of
few_pairs driver counts is = by_driver (driver_of driver) is
  where
    of_row : (row : Counts) → ◌≡◌ {A = Option Counts} (Some row) (Some counts) → pair_count row + row.value ≤ 100
        → pair_count counts + counts.value ≤ 100
    of_row row e few = subst (λ (c : Counts). pair_count c + c.value ≤ 100) (the_one row counts e) few
      where
        the_one : (x y : Counts) → ◌≡◌ {A = Option Counts} (Some x) (Some y) → x ≡ y
        the_one x y e = cc

    by_driver : (d : Option Driver) → option_map counts_by d ≡ Some counts → pair_count counts + counts.value ≤ 100
    by_driver None e = cc
    by_driver (Some Alarm) e = of_row (counts_by Alarm) e (omega arith)
    by_driver (Some other) e = of_row (counts_by other) e (omega arith)
