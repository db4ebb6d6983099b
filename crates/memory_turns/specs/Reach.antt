-- One instruction as the processor makes it, under protection registers. Only proofs use this.
use Rattle.std.specs.Prelude.{ℕ, List}
use Rattle.tk_base.specs.Regs.{Registers}
use Rattle.rv32_model.specs.declared.turn_end.TurnEnd.{TurnEnd}
use Rattle.tk_base.specs.Laws.{AStoreIsPut}
use Rattle.rv32_model.specs.Laws.{SeesOnlyPermitted, WritesArePermitted}
use Rattle.rv32_model.specs.Stretch.{Goes, Stops}
use Rattle.rv32_model.specs.UserTurn.{UserTurn, user_turn}
use Rattle.pmp_regions.specs.declared.Entry.{Entry}
use Rattle.pmp_regions.specs.Check.{denied_by_registers}
use Rattle.board_memory.specs.Bytes.{memory_byte_at}
use Rattle.board_memory.specs.Laws.{AStoreInRamIsPut, BytesTellTheRam}

-- a user turn over flash and RAM, where the registers deny
abbrev pub turn_under : List Entry → List ℕ → List ℕ → Registers → UserTurn
turn_under pmp flash ram regs = user_turn (denied_by_registers pmp) (memory_byte_at flash ram) regs

-- turns over them that went, one after another; and how they stopped, of which at most so many were asked for
abbrev pub GoesUnder : List Entry → List ℕ → ℕ → Registers → List ℕ → Registers → List ℕ → Type 0
GoesUnder pmp flash k regs ram later left =
    Goes (denied_by_registers pmp) k regs (memory_byte_at flash ram) later (memory_byte_at flash left)

abbrev pub StopsUnder : List Entry → List ℕ → ℕ → ℕ → TurnEnd → Registers → List ℕ → Type 0
StopsUnder pmp flash most went end regs ram =
    Stops (denied_by_registers pmp) most went end regs (memory_byte_at flash ram)

-- the laws that instructions over RAM rest on
pub record InstructionLaws : Type 0 where
  pub puts : AStoreIsPut
  pub puts_in_ram : AStoreInRamIsPut
  pub tells : BytesTellTheRam
  pub writes : WritesArePermitted
  pub sees : SeesOnlyPermitted
