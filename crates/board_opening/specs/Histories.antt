-- What holds of each run from a boot. Pairs and upcalls are those of TRD 104, "Subscribe", "Read-Only Allow" and
-- "Read-Write Allow"; fairness is this board's own rule.
use Rattle.std.specs.Prelude.{◌≡◌, ◌≤◌, ℕ, List, slice_get, IfSome}
use Rattle.script_text.specs.Settings.{ScriptSettings as Script}
use Rattle.kernel_histories.specs.Deliveries.{DeliversTheLast}
use Rattle.kernel_histories.specs.Edges.{EdgesComeOnce}
use Rattle.kernel_histories.specs.Waits.{GivesTheFirst}
use Rattle.kernel_laws.specs.Fairness.{IsFair}
use Rattle.kernel_model.specs.Histories.{GivesBackTheLast, HandedNothing}
use Rattle.board_opening.specs.Opening.{opening}

-- no process has handed anything in an opening world
abbrev pub OpensWithNothingHanded : Type 0
OpensWithNothingHanded =
    (script : Script) (flash : List ℕ) (slot : ℕ) → IfSome (slice_get (opening script flash).records slot) HandedNothing

-- so each swap gives back the last, whatever choices are made from there
abbrev pub SwapsFromBootGiveBackTheLast : Type 0
SwapsFromBootGiveBackTheLast =
    (script : Script) (flash : List ℕ) (slot : ℕ) → GivesBackTheLast (opening script flash) slot

-- and what waits for a process is what it subscribed last, and was scheduled since
abbrev pub DeliveriesFromBootAreOfTheLast : Type 0
DeliveriesFromBootAreOfTheLast =
    (script : Script) (flash : List ℕ) (slot : ℕ) → DeliversTheLast (opening script flash) slot

-- and a process that waits for one upcall alone gets the arguments of the first scheduling of it from then on
abbrev pub WaitsFromBootGetTheFirst : Type 0
WaitsFromBootGetTheFirst =
    (script : Script) (flash : List ℕ) (slot : ℕ) → GivesTheFirst (opening script flash) slot

-- and each edge of the script comes once to each process that is told of it, in the order of the script
abbrev pub EdgesFromBootComeOnce : Type 0
EdgesFromBootComeOnce =
    (script : Script) (flash : List ℕ) (slot : ℕ) → EdgesComeOnce (opening script flash) slot

-- the run by round robin from there is fair, where a slice has some turns and there are no time partitions
abbrev pub RunsFromBootAreFair : Type 0
RunsFromBootAreFair =
    (script : Script) (flash : List ℕ) → 1 ≤ script.slice → script.partition ≡ 0 → IsFair (opening script flash)
