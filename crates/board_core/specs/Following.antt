-- What choices lead to, of each process by itself, whoever makes them. Processes are isolated as in Levy et al., SOSP
-- 2017; that so they are under any choices is this board's own rule.
use Rattle.std.specs.Prelude.{◌≡◌, ◌≤◌, ℕ, List, slice_get, Some}
use Rattle.tk_base.specs.declared.process.Choice.{Choice}
use Rattle.kernel_model.specs.Record.{Record}
use Rattle.kernel_model.specs.Replay.{HaveSameRecord, LeadTo, after_all, chosen, history}
use Rattle.kernel_model.specs.Run.{round}
use Rattle.kernel_model.specs.World.{World}
use Rattle.kernel_histories.specs.Edges.{EdgesCome}
use Rattle.kernel_partitions.specs.Alike.{AreAlikeIn, IsPartitioned}
use Rattle.kernel_partitions.specs.Moments.{timed_history}
use Rattle.kernel_partitions.specs.Partitions.{AreAlikeUpTo, ReachesFirst, time_after}
use Rattle.board_opening.specs.Alone.{BecomesAlone, IsReplayed, OpensAlone}

-- from one world to another by choices each process follows its own events: its turns and the answers to it
pub record FollowTheirOwnEvents (old new : World) (choices : List Choice) : Type 0 where
  -- its record is the replay of these
  pub records : IsReplayed old new choices
  -- each edge of a button of which a process is told comes once, in the order of the script: where the process holds an
  -- upcall of the buttons, or waits for it alone, that is given, put last or dropped; and in no other step
  pub edges : (slot : ℕ) → EdgesCome old slot choices
  -- in any other world under the same settings, and after any choices there, a process that had the same record, and
  -- the same turns and answers since, has the same record, whichever slots the two are in
  pub same : (other : World) (others : List Choice) (slot place : ℕ) → other.settings ≡ old.settings
      → slice_get other.records place ≡ slice_get old.records slot
      → history place other others ≡ history slot old choices
      → HaveSameRecord (slice_get (after_all other others).records place) (slice_get new.records slot)
  -- from the board's first world on, the record is a function of the process's object, of where that and its block lie,
  -- of the settings, and of its own turns and answers
  pub alone : OpensAlone old → (slot : ℕ) (r : Record) → slice_get old.records slot ≡ Some r
      → BecomesAlone old.settings r (history slot old choices) (slice_get new.records slot)
  -- with time partitions, and where the choices are those of a run of n steps by windows: in any other world that is
  -- alike in a slot, and in a run of any length there, the same is told of the slot's process at the same times, up to
  -- any time that both have reached
  pub partitioned : IsPartitioned old → (n : ℕ) → choices ≡ chosen n old → (slot : ℕ) (other : World)
      → AreAlikeIn slot old other → (m time : ℕ) → time ≤ time_after n old → time ≤ time_after m other
      → AreAlikeUpTo time (timed_history slot old choices) (timed_history slot other (chosen m other))
  -- so it has the same record where the two runs first reach any time
  pub record_is : IsPartitioned old → (n : ℕ) → choices ≡ chosen n old → (slot : ℕ) (other : World)
      → AreAlikeIn slot old other → (m time : ℕ) → ReachesFirst time n old → ReachesFirst time m other
      → HaveSameRecord (slice_get new.records slot) (slice_get (round m other).world.records slot)

-- so it is after any choices, ready or not
abbrev pub ProcessesFollowTheirOwnEvents : Type 0
ProcessesFollowTheirOwnEvents =
    (old new : World) (choices : List Choice) → LeadTo old choices new → FollowTheirOwnEvents old new choices
