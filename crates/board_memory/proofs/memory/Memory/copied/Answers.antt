use Rattle.std.proofs.Common.{length, rules}
use Rattle.std.proofs.lemmas.List.Elements.{All-replicate}
use Rattle.tk_base.specs.declared.limits.TheConstants.{SLOT_COUNT}
use Rattle.board_memory.specs.Windows.{AreWindows}
use Rattle.board_memory.proofs.memory.Memory.copied.Goals as goal

pub invariant_of-result : goal.invariant_of-result
invariant_of-result c = (
  search rules,
  All-replicate
      (AreWindows c.in_ok-flash.flash.items c.in_ok-entries.entries.items (length c.in_ok-ram.ram.items)) SLOT_COUNT
      c.none.result (c.none.ensures _ _ _),
)
