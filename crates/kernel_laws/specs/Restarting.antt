-- That a process ends where it asks for that, and starts again where it asks for that, or an operator does (TRD 104,
-- "Exit"). What it is then is the law of kernel_lives.
use Rattle.std.specs.Prelude.{◌≡◌, ℕ, ◌+◌, false, [], slice_index, None, Some}
use Rattle.tk_base.specs.declared.process.Verb.TheVariants.{Restart}
use Rattle.process_record.specs.declared.emit.CallMade.{CallMade}
use Rattle.process_record.specs.declared.process.State.TheVariants.{Running, Terminated}
use Rattle.kernel_model.specs.Laws.{CanStartAgain}
use Rattle.kernel_model.specs.Record.{Record}
use Rattle.kernel_model.specs.Turn.{Act, Event, TurnTrace}
use Rattle.kernel_laws.specs.Between.{OfEachAnswer, OfEachTurn}

-- a process that has started again: its restarts are one more, and it runs in its next life
pub record HasStartedAgain (r s : Record) : Type 0 where
  pub restarts : s.process.restarts ≡ r.process.restarts + 1
  pub life : s.own.life ≡ r.own.life + 1
  pub state : s.process.state ≡ Running

-- an exit with 1 that was accepted
pub record IsExitToRestart (call : CallMade) : Type 0 where
  pub class : call.class ≡ 6
  pub kind : slice_index call.args 0 ≡ 1
  pub accepted : call.rule ≡ None

-- a turn that tells one, of a process whose object is that of an application, leaves it so
abbrev pub StartsAgainByExit : Record → Record → TurnTrace → Type 0
StartsAgainByExit r s told =
    (call : CallMade) → told.call ≡ Some call → IsExitToRestart call → CanStartAgain r → HasStartedAgain r s

-- and so does an operator's act that has it start again
abbrev pub StartsAgainByAct : Event → Record → Record → Type 0
StartsAgainByAct event r s = event ≡ Act Restart → CanStartAgain r → HasStartedAgain r s

-- so it is in every step of every world
pub record RestartsAreMade : Type 0 where
  pub exits : OfEachTurn StartsAgainByExit
  pub acts : OfEachAnswer StartsAgainByAct

-- an exit with 0 that was accepted
pub record IsExitToEnd (call : CallMade) : Type 0 where
  pub class : call.class ≡ 6
  pub kind : slice_index call.args 0 ≡ 0
  pub accepted : call.rule ≡ None

-- a process that has ended with a completion code: it lives no more, no operator holds it, and nothing waits for it
pub record HasEnded (code : ℕ) (s : Record) : Type 0 where
  pub state : s.process.state ≡ Terminated code
  pub lives : s.own.lives ≡ false
  pub held : s.process.held ≡ false
  pub pending : s.own.inbox.pending ≡ []

-- a turn that tells one leaves it so, with the code that it gave
abbrev pub EndsByExit : Record → Record → TurnTrace → Type 0
EndsByExit r s told =
    (call : CallMade) → told.call ≡ Some call → IsExitToEnd call → HasEnded (slice_index call.args 1) s

-- so it is in every step of every world
abbrev pub ExitsEnd : Type 0
ExitsEnd = OfEachTurn EndsByExit
