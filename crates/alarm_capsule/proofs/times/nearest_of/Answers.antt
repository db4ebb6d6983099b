use Rattle.std.proofs.Common.{◌+◌, ◌-◌, ℕ, fold, slice_index_or, Option, None, ap, refl, subst, sym, ◌∙◌}
use Rattle.std.specs.List.{range_with_len}
use Rattle.tk_base.specs.declared.limits.TheConstants.{SLOT_COUNT}
use Rattle.alarm_capsule.specs.Times.{nearer_kept}
use Rattle.alarm_capsule.proofs.First.{FindsNearest, comes_after, comes_another, comes_first, found_before, found_there}
use Rattle.alarm_capsule.proofs.Slots.{all_folded, folded}
use Rattle.alarm_capsule.proofs.times.nearest_of.Goals as goal
use Rattle.alarm_capsule.proofs.times.nearest_of.Goals.{then-comes_before, else-comes_before}

pub loop-slot-preserved : goal.loop-slot-preserved
loop-slot-preserved c =
    let times = c.args.times.now in
    let slot : ℕ = c.loop-slot.slot in
    let nearest = c.loop-slot.nearest in
    let kept : Option ℕ = slice_index_or times slot None in
    let rest : Option ℕ → Option ℕ = λ o.
    fold (nearer_kept times) o (range_with_len (slot + 1) (SLOT_COUNT - (slot + 1))) in
    let so_far = folded (nearer_kept
    times) nearest slot SLOT_COUNT c.loop-slot-test.true ∙ c.loop-slot.invariant.folded in
    elim c.if-comes_before.branch [
      | then-comes_before w ↦
          let before = sym c.comes_before.ensures ∙ w.if-comes_before.true in
          let is = comes_first kept nearest before in
          subst (λ (o : Option ℕ). FindsNearest times o c.if-comes_before.first (slot + 1)) (sym w.nearest-is)
          (subst (λ (n : ℕ). FindsNearest times kept n (slot + 1)) (sym w.first-is)
          (found_there times nearest kept c.loop-slot.first slot (ap rest is ∙ so_far) is
          (comes_another kept nearest before) c.loop-slot.invariant))
      | else-comes_before w ↦
          let is = comes_after kept nearest (sym c.comes_before.ensures ∙ w.if-comes_before.false) in
          subst (λ (o : Option ℕ). FindsNearest times o c.if-comes_before.first (slot + 1)) (sym w.nearest-is)
          (subst (λ (n : ℕ). FindsNearest times nearest n (slot + 1)) (sym w.first-is)
          (found_before times nearest nearest c.loop-slot.first slot (ap rest is ∙ so_far) is refl
          c.loop-slot.invariant))
    ]

pub returns-clause-nearest : goal.returns-clause-nearest
returns-clause-nearest c =
    all_folded (nearer_kept c.args.times.now) c.loop-slot.nearest c.loop-slot.slot SLOT_COUNT c.loop-slot-test.false
    ∙ c.loop-slot.invariant.folded
