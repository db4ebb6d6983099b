use Rattle.std.proofs.Common.{List, ℕ, ap, ◌∙◌}
use Rattle.pmp_regions.specs.Check.{denied_by_registers}
use Rattle.board_memory.specs.Bytes.{memory_byte_at}
use Rattle.memory_turns.specs.Reach.{turn_under}
use Rattle.memory_turns.proofs.Left.{follows}
use Rattle.memory_turns.proofs.instruction.turn_in.Goals as goal

pub returns-clause-memory : goal.returns-clause-memory
returns-clause-memory c =
    let m = c.args.memory.now in
    let pmp = c.args.pmp.now in
    let regs = c.args.regs.now in
    let left = c.turns_in.new.memory.ram in
    let e = c.turns_in.ensures in
    let one = c.one_is_the_turn.ensures (denied_by_registers pmp) c.turns_in.result.went c.turns_in.result.end regs
    c.turns_in.new.regs (memory_byte_at m.flash m.ram) (memory_byte_at m.flash left) e.most e.goes e.stops in
    e.rest
    ∙ ap (λ (ram : List ℕ). record m { ram = ram })
    (follows m.flash m.flash m.ram left pmp (turn_under pmp m.flash m.ram regs).write c.a_store_in_ram_is_put.ensures
    c.bytes_tell_the_ram.ensures c.requires e.long
    (c.writes_are_permitted.ensures (denied_by_registers pmp) (memory_byte_at m.flash m.ram) regs) one.1)
