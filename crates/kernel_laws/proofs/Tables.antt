-- The tables agree.
use Rattle.std.proofs.Common.{◌≡◌, Option, None, Some, is_some, option_map, refl}
use Rattle.rv32_model.specs.Instructions.{instruction_table}
use Rattle.grant_values.specs.declared.drivers.Driver.{Driver}
use Rattle.grant_values.specs.Drivers.{counts_by, counts_of, driver_of}
use Rattle.driver_model.specs.Drivers.{handler_by}
use Rattle.kernel_laws.specs.Tables.{EachRowFitsAWord, SameDrivers}

pub same_drivers : SameDrivers
unfolding counts_of
same_drivers number = by_driver (driver_of number)
  where
    by_driver : (driver : Option Driver)
        → is_some (option_map counts_by driver) ≡ is_some (option_map handler_by driver)
    by_driver None = refl
    by_driver (Some driver) = refl

pub each_row_fits_a_word : EachRowFitsAWord
unfolding instruction_table
each_row_fits_a_word = refl
