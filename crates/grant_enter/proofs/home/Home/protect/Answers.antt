use Rattle.std.proofs.Common.{rules}
use Rattle.std.proofs.Common.{length, arith}
use Rattle.process_seat.specs.Places.{FitsMemory}
use Rattle.grant_enter.proofs.Moves.{Reads, sits_before}
use Rattle.grant_enter.proofs.home.Home.protect.Goals as goal
use Rattle.grant_enter.proofs.home.Home.protect.Goals.{After-index-2}

-- the seat of the slot
reads : (c : After-index-2) → Reads c.self.inside c.args.self.now c.args.slot c.index.result c.index-2.result.now
reads c = search rules

-- its layout is settled
settled : (c : After-index-2)
    → FitsMemory (length c.self.inside.memory.flash) (length c.self.inside.memory.ram) c.index-2.result.now.layout
settled c = (sits_before (reads c)).settled

pub set_process-requires-clause-flash_start : goal.set_process-requires-clause-flash_start
set_process-requires-clause-flash_start c = (settled c).flash_start_aligned

pub set_process-requires-clause-flash_end : goal.set_process-requires-clause-flash_end
set_process-requires-clause-flash_end c = (settled c).flash_end_aligned

pub set_process-requires-clause-apart : goal.set_process-requires-clause-apart
set_process-requires-clause-apart c = omega (arith, (settled c).below, (settled c).from)
