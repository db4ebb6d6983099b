use Rattle.std.proofs.Common.{◌≡◌, ◌-◌, ◌<◌, ◌≤◌}
use Rattle.rv32_model.specs.Stretch.{Goes}
use Rattle.rv32_step.specs.Executed.{at_pc}
use Rattle.rv32_step.specs.Near.{address_of}
use Rattle.rv32_step.proofs.near_turns.Given as goal

-- the turns so far went, and lead to a place that has an entry
abbrev pub invariant-loop-left : goal.invariant-loop-left
invariant-loop-left g l =
    (l.left ≤ l.fn.most)
    × ((l.near.place < g.B.Predecoded.count l.near.bus.now)
    × (Goes (g.B.Bus.denies l.fn.bus) (l.fn.most - l.left) (at_pc l.fn.regs l.fn.pc) (g.B.Bus.bytes l.fn.bus)
    (at_pc l.near.regs.now (address_of (g.B.Predecoded.start l.near.bus.now) l.near.place))
    (g.B.Bus.bytes l.near.bus.now)
    × ((g.B.Bus.denies l.near.bus.now ≡ g.B.Bus.denies l.fn.bus)
    × ((g.B.Bus.frame l.near.bus.now ≡ g.B.Bus.frame l.fn.bus)
    × ((g.B.Predecoded.start l.near.bus.now ≡ g.B.Predecoded.start l.fn.bus)
    × ((g.B.Predecoded.count l.near.bus.now ≡ g.B.Predecoded.count l.fn.bus)
    × ((l.near.regs.ghost_name ≡ l.initial.near.regs.ghost_name)
    × (l.near.bus.ghost_name ≡ l.initial.near.bus.ghost_name))))))))

abbrev pub decreases-loop-left : goal.decreases-loop-left
decreases-loop-left g l = l.left
