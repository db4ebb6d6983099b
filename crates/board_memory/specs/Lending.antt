-- How what was lent comes back.
use Rattle.std.specs.Prelude.{ℕ, List, ◌++◌}
use Rattle.std.specs.Borrow.{follows, follows_both, MutBor, Fml, Array, u8}
use Rattle.process_layout.specs.LayoutView.{LayoutView}
use Rattle.board_memory.specs.declared.parts.Block.{Block}
use Rattle.board_memory.specs.declared.parts.SplitBlock.{SplitBlock}
use Rattle.board_memory.specs.declared.view.View.{View}
use Rattle.board_memory.specs.contracts.memory.Memory.{the_row}
use Rattle.board_memory.specs.Memory.{MemoryBytes, with_ram, with_run}

-- memory ends with the bytes that are left in the view's RAM
abbrev pub LendsView : MutBor MemoryBytes → View → Fml
LendsView memory view =
    follows the_row (Array u8 0) memory.ghost_name view.ram.ghost_name (with_ram memory.now)

-- memory ends with the bytes that are left in the block, at the block's place
abbrev pub LendsBlock : MutBor MemoryBytes → LayoutView → Block → Fml
LendsBlock memory e block =
    follows the_row (Array u8 0) memory.ghost_name block.bytes.ghost_name (with_run memory.now e.start)

-- a block ends as its two parts joined
abbrev pub LendsHalves : MutBor (List ℕ) → SplitBlock → Fml
LendsHalves block halves =
    follows_both (Array u8 0) (Array u8 0) (Array u8 0)
    block.ghost_name halves.app.ghost_name halves.kernel.ghost_name ◌++◌

-- memory ends with the bytes that are left in a part of RAM, from the part's first address on
abbrev pub LendsPart : MutBor MemoryBytes → ℕ → MutBor (List ℕ) → Fml
LendsPart memory from part =
    follows the_row (Array u8 0) memory.ghost_name part.ghost_name (with_run memory.now from)
