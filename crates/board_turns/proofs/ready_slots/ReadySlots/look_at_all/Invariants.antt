use Rattle.std.specs.Prelude.{length}
use Rattle.std.specs.List.{zip}
use Rattle.board_turns.specs.ReadySlots.{TellsUpTo}
use Rattle.board_turns.proofs.ready_slots.ReadySlots.look_at_all.Given as goal

-- of the slots so far it is looked for
abbrev pub invariant-loop-slot : goal.invariant-loop-slot
invariant-loop-slot l = TellsUpTo l.slot (length l.processes) l.self (zip l.processes l.home.owns)
