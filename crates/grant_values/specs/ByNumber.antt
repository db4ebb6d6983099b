-- What the number of a driver tells, where there may be no such driver. Only proofs use this.
use Rattle.std.specs.Prelude.{Option, option_map, unwrap_or}
use Rattle.tk_base.specs.declared.upcall.Counts.{Counts}
use Rattle.grant_values.specs.declared.drivers.Driver.{Driver}
use Rattle.grant_values.specs.Drivers.{counting}
use Rattle.grant_values.specs.Values.{KeptValue, NoValue}

-- a value by the driver of a number; none where there is no such driver
abbrev pub value_or_none : (Driver → KeptValue) → Option Driver → KeptValue
value_or_none value driver = unwrap_or (option_map value driver) NoValue

-- the counts of a driver's grant; all 0 where there is no such driver
abbrev pub counts_or_none : Option Counts → Counts
counts_or_none counts = unwrap_or counts (counting 0 0 0 0 0)
