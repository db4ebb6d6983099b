-- Time partitions: what a process does, and when, depends on its own slot alone. It is this board's own rule; processes
-- are isolated as in Levy et al., SOSP 2017, and here in time too.
use Rattle.std.specs.Prelude.{◌≡◌, ◌≤◌, ◌<◌, ℕ, List, slice_get}
use Rattle.kernel_model.specs.World.{World}
use Rattle.kernel_model.specs.Run.{round}
use Rattle.kernel_model.specs.Replay.{HaveSameRecord, IsReplayOf, chosen}
use Rattle.kernel_partitions.specs.Alike.{AreAlikeIn, IsPartitioned}
use Rattle.kernel_partitions.specs.Moments.{Moment, before, events_of, timed_history}

-- the time of the world to which a run of n steps leads
abbrev pub time_after : ℕ → World → ℕ
time_after n w = (round n w).world.clock.time

-- the same is told up to a time, at the same times
abbrev pub AreAlikeUpTo : ℕ → List Moment → List Moment → Type 0
AreAlikeUpTo time one other = before time one ≡ before time other

-- In two worlds with time partitions that are alike in a slot, and in runs of any lengths, up to any time that both
-- runs have reached: the same is told of the slot's process, at the same times. So its turns, its answers and what is
-- printed for it depend neither on what other processes are nor on what they do, nor do the times.
abbrev pub ASlotSeesItselfAlone : Type 0
ASlotSeesItselfAlone = (slot : ℕ) (v w : World) → IsPartitioned v → AreAlikeIn slot v w → (n m time : ℕ) →
    time ≤ time_after n v → time ≤ time_after m w →
    AreAlikeUpTo time (timed_history slot v (chosen n v)) (timed_history slot w (chosen m w))

-- a run of n steps leads to the first of its worlds that has reached a time
pub record ReachesFirst (time n : ℕ) (w : World) : Type 0 where
  pub reached : time ≤ time_after n w
  pub not_sooner : (i : ℕ) → i < n → time_after i w < time

-- There the slot's process has the record that its events from steps begun before that time make of its first one.
abbrev pub RecordIsReplayedUpToATime : Type 0
RecordIsReplayedUpToATime = (slot : ℕ) (w : World) (n time : ℕ) → ReachesFirst time n w →
    IsReplayOf w.settings (events_of (before time (timed_history slot w (chosen n w)))) (slice_get w.records slot)
    (slice_get (round n w).world.records slot)

-- So in two such worlds it has the same record where the runs first reach any time.
abbrev pub SameRecordAtEachTime : Type 0
SameRecordAtEachTime = (slot : ℕ) (v w : World) → IsPartitioned v → AreAlikeIn slot v w → (n m time : ℕ) →
    ReachesFirst time n v → ReachesFirst time m w →
    HaveSameRecord (slice_get (round n v).world.records slot) (slice_get (round m w).world.records slot)
