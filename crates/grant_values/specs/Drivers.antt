-- The drivers, and what a process keeps in its block for each that it uses (Levy et al., SOSP 2017, section 4; the
-- numbers are those of Tock's list of drivers).
use Rattle.std.specs.Prelude.{ℕ, ◌+◌, ◌*◌, ◌/◌, ◌==◌, List, [], ◌∷◌, find, Option, option_map}
use Rattle.tk_base.specs.declared.upcall.Counts.{Counts}
use Rattle.tk_base.specs.Kinds.{pair_count}
use Rattle.grant_values.specs.declared.drivers.Driver.{Driver}
use Rattle.grant_values.specs.declared.drivers.Driver.TheVariants.{Alarm, Buttons, Console, Leds, Random, Storage}

-- each driver's number
abbrev pub number_of_driver : Driver → ℕ
number_of_driver Alarm = 0x0
number_of_driver Console = 0x1
number_of_driver Leds = 0x2
number_of_driver Buttons = 0x3
number_of_driver Random = 0x40001
number_of_driver Storage = 0x50001

-- all drivers
unfoldable pub drivers : List Driver
drivers = Alarm ∷ Console ∷ Leds ∷ Buttons ∷ Random ∷ Storage ∷ []

-- the driver of a number; none where there is no such driver
abbrev pub driver_of : ℕ → Option Driver
driver_of number = find (λ driver. number_of_driver driver == number) drivers

-- so many upcalls, read-only, read-write and readable buffers, and bytes of a value
abbrev pub counting : ℕ → ℕ → ℕ → ℕ → ℕ → Counts
counting upcalls ro rw ur value = record { upcalls = upcalls; ro = ro; rw = rw; ur = ur; value = value }

-- each driver's upcalls, read-only, read-write and readable buffers, and the bytes of its value; the LEDs keep nothing
abbrev pub counts_by : Driver → Counts
counts_by Alarm = counting 1 0 0 1 24
counts_by Console = counting 3 2 2 0 32
counts_by Leds = counting 0 0 0 0 0
counts_by Buttons = counting 1 0 0 0 16
counts_by Random = counting 1 0 1 0 24
counts_by Storage = counting 2 1 1 0 24

-- the counts of the driver of a number; none where there is no such driver
unfoldable pub counts_of : ℕ → Option Counts
counts_of number = option_map counts_by (driver_of number)

-- how many bytes a grant takes: the driver's number and the cost, two words for each pair, the value; rounded up to a
-- multiple of 8
abbrev pub cost_of : Counts → ℕ
cost_of counts = (8 + 8 * pair_count counts + counts.value + 7) / 8 * 8
