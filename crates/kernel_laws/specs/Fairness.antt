-- That no process which is ready waits for good in a run of the round robin. It is that of Tock's round robin, with
-- this board's own slice.
use Rattle.std.specs.Prelude.{◌≡◌, ◌≤◌, ℕ, ◌*◌, Bool, true, false, ◌&&◌, nat_lt, List, [], ◌∷◌, ◌++◌, filter, length}
use Rattle.std.specs.Prelude.{slice_get, Option, Some, All, Any}
use Rattle.tk_base.specs.declared.limits.TheConstants.{SLOT_COUNT, STEP_LIMIT}
use Rattle.tk_base.specs.declared.process.Choice.{Choice}
use Rattle.tk_base.specs.declared.process.Choice.TheVariants.{Run}
use Rattle.kernel_model.specs.World.{World, after}
use Rattle.kernel_model.specs.Named.{can_run}
use Rattle.kernel_model.specs.Run.{next}
use Rattle.kernel_model.specs.Replay.{chosen}

-- the worlds before each of some choices, which are made one after another
abbrev pub worlds : World → List Choice → List World
worlds w [] = []
worlds w (choice ∷ choices) = w ∷ worlds (after w choice) choices

-- whether a choice is a turn of a process
abbrev pub chooses_turn : Option Choice → Bool
chooses_turn (Some (Run slot)) = true
chooses_turn other = false

-- whether the round robin's next step is a turn of a process: at the limit of steps none is made any more
abbrev pub makes_turn : World → Bool
makes_turn v = nat_lt v.clock.steps STEP_LIMIT && chooses_turn (next v)

-- those before the turns of processes in the run of n steps by the round robin: device steps, and passes of time, may
-- come between them
abbrev pub turn_worlds : ℕ → World → List World
turn_worlds n w = filter makes_turn (worlds w (chosen n w))

-- whether the process in a slot may have a turn
abbrev pub IsReadyIn : ℕ → World → Type 0
IsReadyIn slot v = can_run (slice_get v.records slot) ≡ true

-- who chooses gives the process in a slot the next turn in one of some worlds
abbrev pub HasTurnAmong : (World → Option Choice) → ℕ → List World → Type 0
HasTurnAmong choose slot window = Any (λ v. choose v ≡ Some (Run slot)) window

-- Of a world: in the run of any length from it, each window of turns of processes, one after another, as many as all
-- slots have in a slice each, in which the process in a slot is ready before each turn, has a turn of that process.
abbrev pub IsFair : World → Type 0
IsFair w =
    (n slot : ℕ) (earlier window later : List World) →
    turn_worlds n w ≡ earlier ++ (window ++ later) →
    SLOT_COUNT * w.pace.slice ≤ length window →
    All (IsReadyIn slot) window →
    HasTurnAmong next slot window

-- so it is on a board of no more processes than slots, without time partitions
abbrev pub ReadyProcessesHaveTurns : Type 0
ReadyProcessesHaveTurns =
    (w : World) → length w.records ≤ SLOT_COUNT → 1 ≤ w.pace.slice → w.pace.window ≡ 0 → IsFair w
