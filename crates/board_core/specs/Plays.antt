-- Choices that a board makes one after another, and what it prints meanwhile. How they are made is this board's own
-- rule.
use Rattle.std.specs.Prelude.{◌≡◌, ◌<◌, ◌≤◌, ℕ, suc, true, false, List, take, length, slice_get, Some, Result, Ok, Err}
use Rattle.tk_base.specs.declared.process.Choice.{Choice}
use Rattle.tk_outside.specs.Sink.{SinkFacts}
use Rattle.tk_outside.specs.Writes.{WroteAll, WrotePart}
use Rattle.kernel_model.specs.World.{World, is_ready}
use Rattle.kernel_model.specs.Accounts.{IsAccountedFor}
use Rattle.kernel_model.specs.Replay.{LeadTo}
use Rattle.kernel_model.specs.Choices.{Throughout, are_ready, printed_by_all}
use Rattle.board_core.specs.declared.play.PlayEnd.{PlayEnd}
use Rattle.board_core.specs.declared.play.PlayEnd.TheVariants.{NotReady, Failed}

-- Choices were made: each was ready in its turn, and they lead to the world after them. Each of the steps is accounted
-- for: each byte of a process that it changed has its cause, each access was permitted, each denial due.
pub record ChoicesMade (old new : World) (choices : List Choice) : Type 0 where
  pub ready : are_ready old choices ≡ true
  pub world : LeadTo old choices new
  pub accounted : Throughout IsAccountedFor old choices

-- what choices act on: a world, and the sink to which what they print is written
pub record Playing (K : Type 0) : Type 0 where
  pub world : World
  pub sink : K

-- a world, and a sink
abbrev pub playing : {K : Type 0} → World → K → Playing K
playing w out = record { world = w; sink = out }

-- all were made, and what they printed was written
pub record PlayedAll {K : Type 0} (tells : K → SinkFacts) (choices : List Choice) (old new : Playing K) : Type 0 where
  pub made : ChoicesMade old.world new.world choices
  pub wrote : WroteAll tells old.sink new.sink (printed_by_all old.world choices)

-- the choice at a place is the first that was not ready: those before it were made, and what they printed was written
pub record StoppedAt {K : Type 0} (tells : K → SinkFacts) (choices : List Choice) (old new : Playing K)
    (place : ℕ) : Type 0 where
  pub choice : Choice
  pub there : slice_get choices place ≡ Some choice
  pub refused : is_ready new.world choice ≡ false
  pub made : ChoicesMade old.world new.world (take place choices)
  pub wrote : WroteAll tells old.sink new.sink (printed_by_all old.world (take place choices))

-- The sink failed: the first choices were made, as few as print more than what was written, which is a front of what
-- they print.
pub record FailedAfter {K : Type 0} (tells : K → SinkFacts) (choices : List Choice)
    (old new : Playing K) : Type 0 where
  pub before : ℕ
  pub within : before < length choices
  pub made : ChoicesMade old.world new.world (take (suc before) choices)
  pub wrote : WrotePart tells old.sink new.sink (printed_by_all old.world (take (suc before) choices))
  pub fewest : length (printed_by_all old.world (take before choices)) ≤ length wrote.front

-- what a list of choices comes to
abbrev pub Plays : {K : Type 0} → (K → SinkFacts) → List Choice → Playing K → Playing K → Result Unit PlayEnd → Type 0
Plays tells choices old new (Ok made) = PlayedAll tells choices old new
Plays tells choices old new (Err (NotReady place)) = StoppedAt tells choices old new place
Plays tells choices old new (Err Failed) = FailedAfter tells choices old new
