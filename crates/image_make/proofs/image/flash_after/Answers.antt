use Rattle.std.proofs.Common.{◌-◌, ◌+◌, sym, ◌∙◌, arith}
use Rattle.image_make.proofs.Objects.{objects-more, objects-none}
use Rattle.image_make.proofs.image.flash_after.Goals as goal

pub loop-k-preserved : goal.loop-k-preserved
loop-k-preserved c =
    let k = c.loop-k.k in
    objects-more (8 - k) (8 - (k + 1)) k c.loop-k.draws c.put_object.new.draws c.loop-k.flash.items
    c.put_object.new.flash.items (omega arith) c.put_object.ensures.draws c.in_ok-put_object.ensures.object
    ∙ c.loop-k.invariant

pub returns : goal.returns
returns c = sym (objects-none (8 - c.loop-k.k) c.loop-k.k c.loop-k.draws c.loop-k.flash.items (omega arith))
    ∙ c.loop-k.invariant
