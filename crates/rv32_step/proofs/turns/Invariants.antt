use Rattle.std.proofs.Common.{◌≡◌, ◌-◌, ◌≤◌}
use Rattle.rv32_model.specs.Stretch.{Goes}
use Rattle.rv32_step.specs.Executed.{at_pc}
use Rattle.rv32_step.proofs.turns.Given as goal

abbrev pub invariant-loop-left : goal.invariant-loop-left
invariant-loop-left g l =
    (l.left ≤ l.fn.most)
    × (Goes (g.B.Bus.denies l.fn.bus) (l.fn.most - l.left) l.fn.regs (g.B.Bus.bytes l.fn.bus) (at_pc l.regs l.pc)
    (g.B.Bus.bytes l.bus)
    × ((g.B.Bus.denies l.bus ≡ g.B.Bus.denies l.fn.bus)
    × (g.B.Bus.frame l.bus ≡ g.B.Bus.frame l.fn.bus)))

abbrev pub decreases-loop-left : goal.decreases-loop-left
decreases-loop-left g l = l.left
