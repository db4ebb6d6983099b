-- What executing an instruction leaves. Only proofs use this.
use Rattle.std.specs.Prelude.{◌≡◌, ℕ, Bool, true, false, List, Option, None, Some, Result, Ok, Err}
use Rattle.tk_base.specs.declared.access.Access.{Access}
use Rattle.tk_base.specs.declared.access.Denial.{Denial}
use Rattle.tk_base.specs.declared.access.Rule.{Rule}
use Rattle.tk_base.specs.declared.access.Width.{Width}
use Rattle.tk_base.specs.Regs.{Registers}
use Rattle.rv32_model.specs.declared.instr.Instr.{Instr}
use Rattle.rv32_model.specs.declared.turn_end.TurnEnd.{TurnEnd}
use Rattle.rv32_model.specs.declared.turn_end.TurnEnd.TheVariants.{Went, Call, Trap}
use Rattle.rv32_model.specs.UserTurn.{UserTurn, bytes_left, executed}
use Rattle.rv32_step.specs.declared.processor.Hart.{Hart}

-- how a turn ended: it went, or it was denied, or it is a system call
abbrev pub turn_end_of : Bool → Option Denial → TurnEnd
turn_end_of true denial = Went
turn_end_of false None = Call
turn_end_of false (Some denial) = Trap denial

-- how a load or a store ended, which tells where the next instruction is; and where it is
abbrev pub access_end : Result ℕ Denial → TurnEnd
access_end (Ok next) = Went
access_end (Err denial) = Trap denial

abbrev pub next_pc : ℕ → Result ℕ Denial → ℕ
next_pc pc (Ok next) = next
next_pc pc (Err denial) = pc

-- registers with another pc: a processor keeps it apart while turns follow one another
abbrev pub at_pc : Registers → ℕ → Registers
at_pc regs pc = record regs { pc = pc }

-- registers, bytes and end are those of a turn
pub record LeavesTurn (turn : UserTurn) (bytes_before : ℕ → ℕ) (regs_after : Registers) (bytes_after : ℕ → ℕ)
    (answer : TurnEnd) : Type 0 where
  pub regs : regs_after ≡ turn.regs
  pub end : answer ≡ turn.end
  pub bytes : bytes_after ≡ bytes_left turn bytes_before

-- registers and bytes: what an instruction may change
pub record HartState : Type 0 where
  pub regs : Registers
  pub bytes : ℕ → ℕ

abbrev pub hart_state : {B : Type 0} → (B → ℕ → ℕ) → Hart B → HartState
hart_state bytes hart = record { regs = at_pc hart.regs.now hart.pc; bytes = bytes hart.bus.now }

-- what no instruction changes: what is denied, the frame of the bus, and the ghost names of the registers and the bus,
-- which are lent
pub record HartSurroundings : Type 0 where
  pub denies : Access → ℕ → Width → Option Rule
  pub frame : List ℕ
  pub regs : ℕ
  pub bus : ℕ

abbrev pub hart_surroundings : {B : Type 0} → (B → Access → ℕ → Width → Option Rule) → (B → List ℕ) → Hart B
    → HartSurroundings
hart_surroundings denies frame hart = record {
  denies = denies hart.bus.now;
  frame = frame hart.bus.now;
  regs = hart.regs.ghost_name;
  bus = hart.bus.ghost_name;
}

-- an instruction of a length was executed, and ended so; and the surroundings are as they were
pub record Executes (length : ℕ) (instr : Option Instr) (end : TurnEnd) (around : HartSurroundings) (before : HartState)
    (around_after : HartSurroundings) (after : HartState) : Type 0 where
  pub leaves : LeavesTurn (executed around.denies before.bytes length instr before.regs) before.bytes after.regs
      after.bytes end
  pub stays : around_after ≡ around
