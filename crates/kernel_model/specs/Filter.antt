-- That the system call filter holds in runs (Tock Binary Format, "Permissions"; the system call filter of Tock's
-- kernel).
use Rattle.std.specs.Prelude.{◌≡◌, ℕ, ◌==◌, Bool, true, not, if◌then◌else◌, List, [], ◌∷◌, All, Option, None, Some}
use Rattle.std.specs.Prelude.{slice_index}
use Rattle.std.specs.List.{list_any}
use Rattle.tk_base.specs.declared.process.Choice.{Choice}
use Rattle.tbf_headers.specs.Meaning.{header_reading, permissions_by}
use Rattle.tbf_headers.specs.Permissions.{allows, lists}
use Rattle.process_record.specs.declared.emit.CallMade.{CallMade}
use Rattle.kernel_model.specs.Record.{Record}
use Rattle.kernel_model.specs.declared.settings.Settings.{Settings}
use Rattle.kernel_model.specs.Turn.{TurnTrace}
use Rattle.kernel_model.specs.World.{World, labels}
use Rattle.kernel_model.specs.Accesses.{OfTurn}

-- whether a class of calls names a driver: subscribe, command, and the three allows
abbrev pub names_driver : ℕ → Bool
names_driver class = list_any (λ n. n == class) (1 ∷ 2 ∷ 3 ∷ 4 ∷ 7 ∷ [])

-- whether a call that names a driver is allowed by a list of permissions: a command where an entry of the driver has
-- its bit, any other where the list has an entry of the driver; without a list where the filter is not strict
abbrev pub is_allowed : Bool → Option (List ℕ) → CallMade → Bool
is_allowed strict None made = not strict
is_allowed strict (Some entries) made =
    let driver = slice_index made.args 0 in
    if made.class == 2 then allows entries driver (slice_index made.args 1) else lists entries driver

-- the entries of the Permissions element of a process's object, if it has one
abbrev pub permissions_of : Record → Option (List ℕ)
permissions_of r = permissions_by (header_reading r.object)

-- a call that a turn tells, which names a driver and was not refused, is allowed by the process's own object
abbrev pub IsFiltered : Settings → Record → TurnTrace → Type 0
IsFiltered settings r told =
    (made : CallMade) → told.call ≡ Some made → names_driver made.class ≡ true → made.rule ≡ None →
    is_allowed settings.strict (permissions_of r) made ≡ true

-- so it is with each turn in every step of every world
abbrev pub StepsAreFiltered : Type 0
StepsAreFiltered = (w : World) (choice : Choice) → All (OfTurn (IsFiltered w.settings) w) (labels w choice)
