-- A process's history: what happened to it, one after another. Its record is the replay of that alone. Processes are
-- isolated as in Levy et al., SOSP 2017, as a whole; the form is this board's own.
use Rattle.std.specs.Prelude.{◌≡◌, ℕ, zero, suc, ◌==◌, if◌then◌else◌, List, [], ◌∷◌, ◌++◌, slice_get, Option}
use Rattle.std.specs.List.{flat_map}
use Rattle.std.specs.Prelude.{unwrap_or}
use Rattle.std.specs.Option.{option_map}
use Rattle.tk_base.specs.declared.process.Choice.{Choice}
use Rattle.kernel_model.specs.Record.{Record}
use Rattle.kernel_model.specs.declared.settings.Settings.{Settings}
use Rattle.kernel_model.specs.Turn.{Event, apply}
use Rattle.kernel_model.specs.World.{World, after, labels}
use Rattle.kernel_model.specs.Run.{next, round}

-- what a step does to the process in a slot, as its labels tell it: its turn, an answer to it, or an operator's act on
-- it
abbrev pub events : ℕ → World → Choice → List Event
events slot w choice = flat_map (λ label. if label.slot == slot then label.event ∷ [] else []) (labels w choice)

-- the world after any choices, one after another
abbrev pub after_all : World → List Choice → World
after_all w [] = w
after_all w (choice ∷ choices) = after_all (after w choice) choices

-- what happens to the process in a slot meanwhile
abbrev pub history : ℕ → World → List Choice → List Event
history slot w [] = []
history slot w (choice ∷ choices) = events slot w choice ++ history slot (after w choice) choices

-- a record after its events, each read by itself
abbrev pub replay : Settings → List Event → Record → Record
replay settings [] r = r
replay settings (event ∷ rest) r = replay settings rest (apply settings event r)

-- under settings a record is the replay of some events over the first one; and there is none where there was none
abbrev pub IsReplayOf : Settings → List Event → Option Record → Option Record → Type 0
IsReplayOf settings events first now = now ≡ option_map (replay settings events) first

-- after any choices, ready or not, a process's record is the replay of its own turns, of what devices answered it, and
-- of an operator's acts on it
abbrev pub RecordIsReplay : Type 0
RecordIsReplay = (w : World) (choices : List Choice) (slot : ℕ) →
    IsReplayOf w.settings (history slot w choices) (slice_get w.records slot)
    (slice_get (after_all w choices).records slot)

-- two processes have the same record; or neither is there
abbrev pub HaveSameRecord : Option Record → Option Record → Type 0
HaveSameRecord one other = one ≡ other

-- In any two worlds in which a process has the same record under the same settings, and after any choices in which it
-- has the same turns, answers and acts, it has the same record: of all other processes, devices and slots nothing
-- counts.
abbrev pub SameHistorySameRecord : Type 0
SameHistorySameRecord = (v w : World) (choices others : List Choice) (slot place : ℕ) →
    v.settings ≡ w.settings → slice_get v.records slot ≡ slice_get w.records place →
    history slot v choices ≡ history place w others →
    HaveSameRecord (slice_get (after_all v choices).records slot) (slice_get (after_all w others).records place)

-- the choices of the round robin, as many as a run of n steps makes
unfoldable pub chosen : ℕ → World → List Choice
chosen zero w = []
chosen (suc n) w = unwrap_or (option_map (λ choice. choice ∷ chosen n (after w choice)) (next w)) []

-- choices lead from one world to another
abbrev pub LeadTo : World → List Choice → World → Type 0
LeadTo w choices v = v ≡ after_all w choices

-- a run by round robin leads where its choices lead
abbrev pub RoundFollowsChoices : Type 0
RoundFollowsChoices = (n : ℕ) (w : World) → LeadTo w (chosen n w) (round n w).world
