-- What a process gets of a call that it makes, as it sees it: in its registers (TRD 104, "System Call API", "Return
-- Values").
use Rattle.std.specs.Prelude.{◌≡◌, ◌≢◌, ◌<◌, ◌≤◌, ◌⊎◌, ℕ, ◌+◌, ◌%◌, ◌^◌, ◌==◌, ◌||◌, Bool, true, false, if◌then◌else◌}
use Rattle.std.specs.Prelude.{[], ◌∷◌, length, None, Some, All, IfSome, is_some, option_and_then, slice_get, slice_set}
use Rattle.tk_base.specs.Call.{code_of, error_of}
use Rattle.tk_base.specs.Regs.{register}
use Rattle.tk_base.specs.declared.call.CallRule.{CallRule}
use Rattle.tk_base.specs.declared.process.Choice.{Choice}
use Rattle.turn_scheduler.specs.RoundRobin.{used_after}
use Rattle.process_record.specs.declared.emit.CallMade.{CallMade}
use Rattle.process_record.specs.declared.process.State.TheVariants.{Running}
use Rattle.process_model.specs.Permission.{denied}
use Rattle.rv32_model.specs.Laws.{IsInstrAt}
use Rattle.rv32_model.specs.declared.instr.Instr.TheVariants.{Ecall}
use Rattle.kernel_model.specs.Record.{Record, byte_at}
use Rattle.kernel_model.specs.Turn.{TurnTrace}
use Rattle.kernel_model.specs.World.{World, Label, after, labels}
use Rattle.kernel_laws.specs.Between.{OfEachTurn}

-- A reply of four words stands where its process finds it: a0 to a3, which are x10 to x13, have the words; pc stands
-- behind the `ecall`; and every other register is as it was.
pub record ReplyStands (r s : Record) (a0 a1 a2 a3 : ℕ) : Type 0 where
  pub first : register s.process.regs 10 ≡ a0
  pub second : register s.process.regs 11 ≡ a1
  pub third : register s.process.regs 12 ≡ a2
  pub fourth : register s.process.regs 13 ≡ a3
  pub pc : s.process.regs.pc ≡ (r.process.regs.pc + 4) % 2 ^ 32
  pub others : (n : ℕ) → (n < 10) ⊎ (13 < n) → register s.process.regs n ≡ register r.process.regs n

-- A call that a turn tells is the one that its process made, and what it gets is what is told: its class stood in a4,
-- its arguments in a0 to a3; and the reply that is told has four words, and stands in the registers then. Only a yield
-- and an exit may have none.
pub record CallIsSeen (r s : Record) (call : CallMade) : Type 0 where
  pub class : call.class ≡ register r.process.regs 14
  pub args :
      call.args
      ≡ register r.process.regs 10 ∷ register r.process.regs 11 ∷ register r.process.regs 12
      ∷ register r.process.regs 13 ∷ []
  pub reply : (a0 a1 a2 a3 : ℕ) → call.reply ≡ Some (a0 ∷ a1 ∷ a2 ∷ a3 ∷ []) → ReplyStands r s a0 a1 a2 a3
  pub whole : IfSome call.reply (λ words. length words ≡ 4)
  pub silent : call.reply ≡ None → (call.class ≡ 0) ⊎ (call.class ≡ 6)

-- so it is in every step of every world
abbrev pub RepliesStand : Type 0
RepliesStand = OfEachTurn (λ r s told. IfSome told.call (CallIsSeen r s))

-- A process that runs, and that no operator holds, has its call told where the instruction at pc is an ECALL that it
-- may fetch, of a class that there is.
abbrev pub TellsItsCall : Record → TurnTrace → Type 0
TellsItsCall r told =
    r.process.held ≡ false → r.process.state ≡ Running →
    IsInstrAt (denied r.own.layout) (byte_at r) r.process.regs.pc (Some Ecall) → register r.process.regs 14 ≤ 7 →
    is_some told.call ≡ true

-- so it is in every step of every world
abbrev pub EcallsAreTold : Type 0
EcallsAreTold = OfEachTurn (λ r s told. TellsItsCall r told)

-- whether a class is one of subscribe and the allows, whose failure hands the passed pair back
abbrev pub is_swap_class : ℕ → Bool
is_swap_class class = (class == 1 || class == 3) || (class == 4 || class == 7)

-- What a refused call changes of its process, whose 32 registers are there. a0 has the number of the failure, and a1
-- the code of the error (TRD 104, "Return Values"): a failure alone, or for subscribe and the allows one with two
-- values, which are the pair that a2 and a3 have still. Every other register is as it was, and pc stands behind the
-- `ecall`. The turn counts, and the refusal is recorded. All else of the process is as it was: what the kernel keeps of
-- it, its memory, its grants and its upcalls too; its object; its storage; what it knows of buttons.
pub record ChangesByRefusal (r s : Record) (rule : CallRule) : Type 0 where
  pub variant : register s.process.regs 10 ≡ (if is_swap_class (register r.process.regs 14) then 2 else 0)
  pub error : register s.process.regs 11 ≡ code_of (error_of rule)
  pub registers : (n : ℕ) → n ≢ 10 → n ≢ 11 → register s.process.regs n ≡ register r.process.regs n
  pub pc : s.process.regs.pc ≡ (r.process.regs.pc + 4) % 2 ^ 32
  pub process : s.process ≡ record r.process {
    regs = s.process.regs;
    turns = r.process.turns + 1;
    refusal = Some (record { address = r.process.regs.pc; rule = rule });
  }
  pub own : s.own ≡ r.own
  pub object : s.object ≡ r.object
  pub storage : s.storage ≡ r.storage
  pub pressed : s.pressed ≡ r.pressed

-- and of the world: that process, the time, the count of steps, the present slot and its used turns
pub record ChangesOneByRefusal (w v : World) (slot : ℕ) (rule : CallRule) : Type 0 where
  pub before : Record
  pub later : Record
  pub is_there : slice_get w.records slot ≡ Some before
  pub process : length before.process.regs.x ≡ 32 → ChangesByRefusal before later rule
  pub world : v ≡ record w {
    records = slice_set w.records slot later;
    clock = record { time = w.clock.time + 1; steps = w.clock.steps + 1 };
    present = record { slot = Some slot; used = used_after w.present.slot w.present.used w.pace.slice slot };
  }

-- this of a label that tells a call which was refused by a rule
abbrev pub IfRefusedSeen : World → World → Label → Type 0
IfRefusedSeen w v label =
    (rule : CallRule) → option_and_then (λ call. call.rule) label.trace.call ≡ Some rule
    → ChangesOneByRefusal w v label.slot rule

-- so it is in every step of every world
abbrev pub RefusalsAreSeen : Type 0
RefusalsAreSeen = (w : World) (choice : Choice) → All (IfRefusedSeen w (after w choice)) (labels w choice)
