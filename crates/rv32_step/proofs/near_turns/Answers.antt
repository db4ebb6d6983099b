use Rattle.std.proofs.Common.{◌<◌, ◌+◌, ◌-◌, ◌/◌, ◌%◌, ◌^◌, ℕ, refl, subst, arith}
use Rattle.rv32_step.proofs.Known.{from_here, place_is}
use Rattle.rv32_step.proofs.near_turns.Goals as goal

pub loop-left-init : goal.loop-left-init
loop-left-init g c =
    let place = (c.args.pc + (2 ^ 32 - c.start.result)) % 2 ^ 32 / 2 in
    let start = c.start.ensures.start in
    let ends = c.start.ensures.ends in
    let here = place_is c.start.result c.args.pc (omega (arith, start, ends)) c.ranges.pc.fits c.if-offset-ne0.false in
    let gone = from_here c.turns_follow.ensures.none (g.B.Bus.denies c.args.bus.now) (g.B.Bus.bytes c.args.bus.now)
    c.args.regs.now c.args.most (g.B.Predecoded.start c.args.bus.now) c.start.result c.args.pc place start here in (
      omega (arith),
      (
        subst (λ (n : ℕ). place < n) c.count.ensures c.if-place-count.false,
        (gone, (refl, (refl, (refl, (refl, (refl, refl)))))),
      ),
    )
