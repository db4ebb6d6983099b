-- Time partitions from the boot: what a process does, and when, depends on the script and on its own object. It is this
-- board's own rule; processes are isolated as in Levy et al., SOSP 2017, and here in time too.
use Rattle.std.specs.Prelude.{◌≡◌, ◌≤◌, ℕ, List, Some, Ok, All, IfSome, slice_get}
use Rattle.app_placement.specs.Placement.{share_start}
use Rattle.script_text.specs.Reading.{reading}
use Rattle.script_text.specs.Settings.{ScriptSettings as Script}
use Rattle.kernel_model.specs.Record.{Record}
use Rattle.kernel_model.specs.Run.{round}
use Rattle.kernel_model.specs.World.{World}
use Rattle.kernel_model.specs.Replay.{HaveSameRecord, chosen}
use Rattle.kernel_partitions.specs.Alike.{IsNoAct}
use Rattle.kernel_partitions.specs.Moments.{timed_history}
use Rattle.kernel_partitions.specs.Partitions.{AreAlikeUpTo, ReachesFirst, time_after}
use Rattle.board_opening.specs.Opening.{opening}

-- a script with time partitions, in which no operator is to act
pub record DividesTime (script : Script) : Type 0 where
  pub windows : 1 ≤ script.partition
  pub no_acts : All IsNoAct script.events

-- two processes have the same object, and it stands at the same address
pub record HaveSameObject (r s : Record) : Type 0 where
  pub object : r.object ≡ s.object
  pub address : r.process.object.address ≡ s.process.object.address

-- the block of a process starts where the share of a slot does, in RAM of so many bytes
abbrev pub StartsAtItsShare : ℕ → ℕ → Record → Type 0
StartsAtItsShare ram slot r = r.own.layout.start ≡ share_start ram slot

-- Under such a script the block of each process starts where its slot's share of RAM does, whatever else flash holds.
abbrev pub BlocksStartWithTheirShares : Type 0
BlocksStartWithTheirShares = (script : Script) (flash : List ℕ) (slot : ℕ) → 1 ≤ script.partition →
    IfSome (slice_get (opening script flash).records slot) (StartsAtItsShare script.ram slot)

-- the processes that two flash images open in a slot under a script with time partitions have the same object in the
-- same place
pub record OpenSameObject (script : Script) (flash image : List ℕ) (slot : ℕ) : Type 0 where
  pub divides : DividesTime script
  pub one : Record
  pub one_is : slice_get (opening script flash).records slot ≡ Some one
  pub other : Record
  pub other_is : slice_get (opening script image).records slot ≡ Some other
  pub same : HaveSameObject one other

-- Under one script with time partitions, and two flash images with the same object in the same place of a slot,
-- whatever else they hold: in runs of any lengths, and up to each time that both have reached, the same is told of that
-- slot's process, at the same times.
abbrev pub SameObjectSameTimes : Type 0
SameObjectSameTimes = (script : Script) (flash image : List ℕ) (slot : ℕ) → OpenSameObject script flash image slot →
    (n m time : ℕ) →
    let v = opening script flash in
    let w = opening script image in
    time ≤ time_after n v → time ≤ time_after m w →
    AreAlikeUpTo time (timed_history slot v (chosen n v)) (timed_history slot w (chosen m w))

-- So it has the same record where the two runs first reach any time.
abbrev pub SameObjectSameRecord : Type 0
SameObjectSameRecord = (script : Script) (flash image : List ℕ) (slot : ℕ) → OpenSameObject script flash image slot →
    (n m time : ℕ) →
    let v = opening script flash in
    let w = opening script image in
    ReachesFirst time n v → ReachesFirst time m w →
    HaveSameRecord (slice_get (round n v).world.records slot) (slice_get (round m w).world.records slot)

-- A world is the opening one of a flash image under a script that was read and divides time; and under the same script
-- another image opens the same object in the same place of a slot.
pub record SharesObject (w : World) (script : Script) (image : List ℕ) (slot : ℕ) : Type 0 where
  pub text : List ℕ
  pub is_read : reading text ≡ Ok script
  pub windows : 1 ≤ script.partition
  pub flash : List ℕ
  pub opens : w ≡ opening script flash
  pub one : Record
  pub one_is : slice_get w.records slot ≡ Some one
  pub other : Record
  pub other_is : slice_get (opening script image).records slot ≡ Some other
  pub object : one.object ≡ other.object
  pub address : one.process.object.address ≡ other.process.object.address

-- A run of n steps from a world, beside a run of any length from the opening world of such another image: up to each
-- time that both have reached, the same is told of the slot's process, at the same times; and where they first reach
-- that time it has the same record.
pub record IsPartitionedRun (w : World) (n : ℕ) : Type 0 where
  pub told : (script : Script) (image : List ℕ) (slot : ℕ) → SharesObject w script image slot → (m time : ℕ)
      → time ≤ time_after n w → time ≤ time_after m (opening script image)
      → AreAlikeUpTo time (timed_history slot w (chosen n w))
      (timed_history slot (opening script image) (chosen m (opening script image)))
  pub record_is : (script : Script) (image : List ℕ) (slot : ℕ) → SharesObject w script image slot → (m time : ℕ)
      → ReachesFirst time n w → ReachesFirst time m (opening script image)
      → HaveSameRecord (slice_get (round n w).world.records slot)
      (slice_get (round m (opening script image)).world.records slot)

-- so is every run
abbrev pub RunsArePartitioned : Type 0
RunsArePartitioned = (w : World) (n : ℕ) → IsPartitionedRun w n
