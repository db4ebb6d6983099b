use Rattle.std.proofs.Common.{arith, ap, ◌≡◌, ◌+◌, ◌*◌, ◌∙◌, replicate}
use Rattle.grant_model.specs.Grants.{shape_of}
use Rattle.grant_model.specs.Encoding.{body_size}
use Rattle.grant_region.proofs.Walk.{cost-words}
use Rattle.grant_region.proofs.Costs.{known}
use Rattle.grant_region.proofs.Fresh.{fresh_tells}
use Rattle.grant_region.proofs.room.lay_fresh.Goals as goal

pub put_word-requires : goal.put_word-requires
put_word-requires c =
    let k = known c.args.driver c.args.cost c.requires.cost in
    let e : c.args.cost ≡ 4 * (2 + body_size (shape_of c.args.driver)) =
    k.cost_is ∙ cost-words (shape_of c.args.driver) in
    omega (arith, c.fill.ensures.len)

pub put_word-requires-2 : goal.put_word-requires-2
put_word-requires-2 c =
    let k = known c.args.driver c.args.cost c.requires.cost in
    let e : c.args.cost ≡ 4 * (2 + body_size (shape_of c.args.driver)) =
    k.cost_is ∙ cost-words (shape_of c.args.driver) in
    omega (arith, c.fill.ensures.len, c.put_word.ensures.length)

pub returns-clause-tells : goal.returns-clause-tells
returns-clause-tells c =
    let zeros : c.fill.new.self ≡ replicate c.args.cost 0 =
    c.fill.ensures.after (λ y h. h) ∙ ap (λ n. replicate n 0) c.requires.size in
    fresh_tells c.what_is_laid_is_read_back.ensures c.args.driver c.args.cost c.fill.new.self c.put_word.new.bytes
    c.put_word-2.new.bytes c.requires.cost (omega arith) (omega arith) zeros c.put_word.ensures.bytes
    c.put_word-2.ensures.bytes
