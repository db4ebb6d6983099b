use Rattle.std.proofs.Common.{length, rules}
use Rattle.std.proofs.lemmas.List.Elements.{All-replicate}
use Rattle.tk_base.specs.declared.limits.TheConstants.{SLOT_COUNT}
use Rattle.board_memory.specs.Windows.{AreWindows}
use Rattle.board_memory.proofs.memory.Memory.decode.Goals as goal

pub invariant_of-self : goal.invariant_of-self
invariant_of-self g c = (
  search rules,
  All-replicate
      (AreWindows c.self.inside.flash.items c.decode_between.new.entries.items (length c.self.inside.ram.items))
      SLOT_COUNT
      c.none-self-inside.result (c.none-self-inside.ensures _ _ _),
)
