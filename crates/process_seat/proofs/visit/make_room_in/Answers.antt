use Rattle.std.proofs.Common.{◌≡◌, ℕ, List, ap, ◌∙◌, rules, refl, arith}
use Rattle.grant_model.specs.Grants.{grant_of}
use Rattle.grant_model.specs.Encoding.{decode_grants}
use Rattle.grant_region.specs.Region.{fits, parts_of}
use Rattle.process_seat.proofs.Blocks.{AreLent, both_ok, lent_kernel, lent_parts}
use Rattle.process_seat.proofs.Entering.{area_stands, makes_room, on_both}
use Rattle.process_seat.proofs.Values.{few_pairs}
use Rattle.process_seat.proofs.visit.make_room_in.Goals as goal

pub make_room-made-requires-clause-parts : goal.make_room-made-requires-clause-parts
make_room-made-requires-clause-parts c =
    lent_parts c.args.memory.now c.args.layout.now c.requires.block.settled
    (parts_of c.args.layout.now c.of-app.result.app.now c.of-app.result.kernel.now)
    (record { layout = refl; app = search rules; kernel = search rules }) c.requires.block.kept

pub returns-clause-room : goal.returns-clause-room
returns-clause-room c =
    let kernel : c.of-app.result.kernel.now ≡ _ = search rules in
    c.make_room-made.ensures.room
    ∙ ap (λ (xs : List ℕ). fits c.args.layout.now c.args.driver (grant_of c.args.driver (decode_grants xs)))
    (kernel ∙ lent_kernel c.args.memory.now c.args.layout.now c.requires.block.settled)

pub returns-clause-made : goal.returns-clause-made
returns-clause-made c =
    let before = parts_of c.args.layout.now c.of-app.result.app.now c.of-app.result.kernel.now in
    let after = parts_of c.make_room-made.new.layout c.make_room-made.new.app c.of-app.result.kernel.now in
    let lent : AreLent c.args.memory.now c.args.layout.now before =
    record { layout = refl; app = search rules; kernel = search rules } in
    on_both c.make_room-made.result (makes_room c.args.memory.now c.args.layout.now c.requires.block.settled
    c.args.driver before after lent refl c.in_order.ensures) c.make_room-made.ensures.layout
    c.make_room-made.ensures.made

pub returns-clause-area : goal.returns-clause-area
returns-clause-area c =
    let kernel : c.of-app.result.kernel.now ≡ _ = search rules in
    both_ok c.make_room-made.result (area_stands c.values_are_found.ensures c.args.driver c.args.memory.now
    c.args.layout.now _ c.make_room-made.new.layout _ (kernel ∙ lent_kernel c.args.memory.now c.args.layout.now
    c.requires.block.settled)) (returns-clause-made c) c.make_room-made.ensures.area

pub cost_of-requires : goal.cost_of-requires
cost_of-requires c =
    let few = few_pairs c.args.driver c.args.counts.now c.requires.counts in
    omega (arith, few)
