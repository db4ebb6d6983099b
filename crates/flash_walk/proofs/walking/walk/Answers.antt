use Rattle.std.proofs.Common.{◌+◌, ◌-◌, ◌++◌, List, [], ◌∷◌, subst, sym, All, ap, ◌∙◌, arith}
use Rattle.tk_base.specs.declared.limits.TheConstants.{OBJECT_LIMIT}
use Rattle.arrayvec.specs.ArrayVec.{array_vec_len}
use Rattle.std.proofs.lemmas.List.Elements.{All-push}
use Rattle.flash_walk.specs.declared.found.Found.{Found}
use Rattle.flash_walk.specs.Image.{objects, objects_from, IsObject}
use Rattle.flash_walk.proofs.Walks.{whole_at_end, whole_after_one, whole_when_full}
use Rattle.flash_walk.proofs.walking.walk.Goals as goal

pub returns-in_default-clause-objects : goal.returns-in_default-clause-objects
returns-in_default-clause-objects c =
    whole_at_end (objects c.args.flash.now) c.loop-object.found.items (OBJECT_LIMIT - array_vec_len c.loop-object.found)
    c.args.flash.now c.loop-object.at c.loop-object.invariant.left c.in_default.ensures.object

pub loop-object-preserved : goal.loop-object-preserved
loop-object-preserved c = record {
  aligned = omega (arith, c.in-Some.ensures.whole.1);
  each = subst (All (IsObject c.args.flash.now)) (sym c.push.ensures.items)
      (All-push (IsObject c.args.flash.now) c.loop-object.found.items c.in-Some.object c.loop-object.invariant.each
      c.in-Some.ensures.whole.2);
  within = omega (arith, c.in-Some.ensures.whole.0, c.in-Some.ensures.whole.2.within);
  left =
      ap (λ (xs : List Found). xs ++ objects_from (OBJECT_LIMIT - array_vec_len c.push.new.self) c.args.flash.now
      (c.loop-object.at + c.in-Some.object.size)) c.push.ensures.items
      ∙ ap (λ n. (c.loop-object.found.items ++ c.in-Some.object ∷ [])
      ++ objects_from (OBJECT_LIMIT - n) c.args.flash.now (c.loop-object.at + c.in-Some.object.size))
      c.push.ensures.len
      ∙ whole_after_one (objects c.args.flash.now) c.loop-object.found.items OBJECT_LIMIT
      (array_vec_len c.loop-object.found) c.args.flash.now c.loop-object.at c.in-Some.object
      (omega (arith, c.len.ensures.value)) c.loop-object.invariant.left c.in-Some.ensures.object;
}

pub returns-clause-objects : goal.returns-clause-objects
returns-clause-objects c =
    whole_when_full (objects c.args.flash.now) c.loop-object.found.items OBJECT_LIMIT
    (array_vec_len c.loop-object.found) c.args.flash.now c.loop-object.at (omega (arith, c.len.ensures.value))
    c.loop-object.invariant.left
