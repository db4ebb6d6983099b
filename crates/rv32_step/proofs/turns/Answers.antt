use Rattle.std.proofs.Common.{◌-◌, ◌≤◌, refl, sym, subst, ◌∙◌, arith}
use Rattle.tk_base.specs.Regs.{Registers}
use Rattle.rv32_model.specs.Stretch.{Goes}
use Rattle.rv32_step.specs.Executed.{at_pc}
use Rattle.rv32_step.proofs.Joined.{none_more, none_yet, one_more, went_on}
use Rattle.rv32_step.proofs.turns.Goals as goal

pub loop-left-init : goal.loop-left-init
loop-left-init g c = (
  omega (arith),
  (
    none_yet c.turns_follow.ensures.none (g.B.Bus.denies c.args.bus.now) c.args.regs.now (g.B.Bus.bytes c.args.bus.now)
        c.args.most c.pc-pc.result c.pc-pc.ensures,
    (refl, refl),
  ),
)

pub returns-then-near-clause-goes : goal.returns-then-near-clause-goes
returns-then-near-clause-goes g c =
    let i = c.loop-left.invariant in
    let n = c.near_turns-near in
    let goes = went_on (g.B.Bus.denies c.args.bus.now) (g.B.Bus.denies c.loop-left.bus) c.args.most c.loop-left.left
    c.args.regs.now (at_pc c.loop-left.regs c.loop-left.pc) (g.B.Bus.bytes c.args.bus.now)
    (g.B.Bus.bytes c.loop-left.bus)
    i.1.1.0 i.0 i.1.0 n.result.left (at_pc n.new.regs n.result.pc)
    (g.B.Bus.bytes n.new.bus) n.ensures.left n.ensures.goes in
    subst (λ (r : Registers). Goes (g.B.Bus.denies c.args.bus.now) (c.args.most - n.result.left) c.args.regs.now
    (g.B.Bus.bytes c.args.bus.now) r (g.B.Bus.bytes n.new.bus))
    (sym c.set_pc.ensures) goes

pub returns-then-not-turned-clause-goes : goal.returns-then-not-turned-clause-goes
returns-then-not-turned-clause-goes g c =
    let i = c.loop-left.invariant in
    let n = c.near_turns-near in
    let t = c.turn_by_fetching-turned in
    let goes = went_on (g.B.Bus.denies c.args.bus.now) (g.B.Bus.denies c.loop-left.bus) c.args.most c.loop-left.left
    c.args.regs.now (at_pc c.loop-left.regs c.loop-left.pc) (g.B.Bus.bytes c.args.bus.now)
    (g.B.Bus.bytes c.loop-left.bus)
    i.1.1.0 i.0 i.1.0 n.result.left (at_pc n.new.regs n.result.pc)
    (g.B.Bus.bytes n.new.bus) n.ensures.left n.ensures.goes in
    let same = n.ensures.denies ∙ i.1.1.0 in
    let few : n.result.left ≤ c.args.most = omega (arith, i.0, n.ensures.left) in
    let stopped = none_more (g.B.Bus.denies c.args.bus.now) (g.B.Bus.denies n.new.bus) c.args.most n.result.left
    c.args.regs.now (at_pc n.new.regs n.result.pc) (g.B.Bus.bytes c.args.bus.now)
    (g.B.Bus.bytes n.new.bus) same few goes
    c.stopped_turns_change_nothing.ensures (at_pc t.new.regs t.result.pc)
    (g.B.Bus.bytes t.new.bus) t.result.went t.result.denial
    t.ensures.leaves c.if-not-turned.true in
    subst (λ (r : Registers). Goes (g.B.Bus.denies c.args.bus.now) (c.args.most - n.result.left) c.args.regs.now
    (g.B.Bus.bytes c.args.bus.now) r (g.B.Bus.bytes t.new.bus))
    (sym c.set_pc-then-not-turned.ensures) stopped

pub loop-left-preserved-then-left-gt0 : goal.loop-left-preserved-then-left-gt0
loop-left-preserved-then-left-gt0 g c =
    let i = c.loop-left.invariant in
    let n = c.near_turns-near in
    let t = c.turn_by_fetching-turned in
    let goes = went_on (g.B.Bus.denies c.args.bus.now) (g.B.Bus.denies c.loop-left.bus) c.args.most c.loop-left.left
    c.args.regs.now (at_pc c.loop-left.regs c.loop-left.pc) (g.B.Bus.bytes c.args.bus.now)
    (g.B.Bus.bytes c.loop-left.bus)
    i.1.1.0 i.0 i.1.0 n.result.left (at_pc n.new.regs n.result.pc)
    (g.B.Bus.bytes n.new.bus) n.ensures.left n.ensures.goes in
    let same = n.ensures.denies ∙ i.1.1.0 in
    let few : n.result.left ≤ c.args.most = omega (arith, i.0, n.ensures.left) in (
      omega (arith, i.0, n.ensures.left),
      (
        one_more (g.B.Bus.denies c.args.bus.now) (g.B.Bus.denies n.new.bus) c.args.most n.result.left
            c.args.regs.now (at_pc n.new.regs n.result.pc) (g.B.Bus.bytes c.args.bus.now)
            (g.B.Bus.bytes n.new.bus) same few goes
            c.turns_follow.ensures.more (at_pc t.new.regs t.result.pc)
            (g.B.Bus.bytes t.new.bus) t.result.went t.result.denial
            c.if-left-gt0.true t.ensures.leaves c.if-not-turned.false,
        (t.ensures.denies ∙ same, t.ensures.frame ∙ n.ensures.frame ∙ i.1.1.1),
      ),
    )

pub loop-left-preserved : goal.loop-left-preserved
loop-left-preserved g c =
    let i = c.loop-left.invariant in
    let n = c.near_turns-near in
    let goes = went_on (g.B.Bus.denies c.args.bus.now) (g.B.Bus.denies c.loop-left.bus) c.args.most c.loop-left.left
    c.args.regs.now (at_pc c.loop-left.regs c.loop-left.pc) (g.B.Bus.bytes c.args.bus.now)
    (g.B.Bus.bytes c.loop-left.bus)
    i.1.1.0 i.0 i.1.0 n.result.left (at_pc n.new.regs n.result.pc)
    (g.B.Bus.bytes n.new.bus) n.ensures.left n.ensures.goes in (
      omega (arith, i.0, n.ensures.left),
      (goes, (n.ensures.denies ∙ i.1.1.0, n.ensures.frame ∙ i.1.1.1)),
    )
