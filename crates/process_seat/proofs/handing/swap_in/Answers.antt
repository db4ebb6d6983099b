use Rattle.std.proofs.Common.{◌≡◌, ℕ, List, length, ap, ◌∙◌, rules, refl}
use Rattle.grant_model.specs.Grants.{grant_of}
use Rattle.grant_model.specs.Encoding.{decode_grants}
use Rattle.grant_region.specs.Region.{fits, parts_of}
use Rattle.process_seat.proofs.Blocks.{AreLent, if_ok, lent_kernel, lent_parts, swaps_in}
use Rattle.process_seat.proofs.handing.swap_in.Goals as goal

pub swap_pair-former-requires : goal.swap_pair-former-requires
swap_pair-former-requires c =
    let b = c.requires.block in
    record {
      parts = lent_parts c.args.memory.now c.args.layout.now b.settled
          (parts_of c.args.layout.now c.of-app.result.app.now c.of-app.result.kernel.now)
          (record { layout = refl; app = search rules; kernel = search rules }) b.kept;
      pair = c.requires.pair;
    }

pub returns-clause-room : goal.returns-clause-room
returns-clause-room c =
    let kernel : c.of-app.result.kernel.now ≡ _ = search rules in
    c.swap_pair-former.ensures.room
    ∙ ap (λ (xs : List ℕ). fits c.args.layout.now c.args.handover.driver
    (grant_of c.args.handover.driver (decode_grants xs)))
    (kernel ∙ lent_kernel c.args.memory.now c.args.layout.now c.requires.block.settled)

pub returns-clause-swapped : goal.returns-clause-swapped
returns-clause-swapped c =
    let before = parts_of c.args.layout.now c.of-app.result.app.now c.of-app.result.kernel.now in
    let after = parts_of c.swap_pair-former.new.layout c.swap_pair-former.new.app c.swap_pair-former.new.kernel in
    let lent : AreLent c.args.memory.now c.args.layout.now before =
    record { layout = refl; app = search rules; kernel = search rules } in
    let long : length after.kernel ≡ length before.kernel = search rules in
    if_ok c.swap_pair-former.result (swaps_in c.args.memory.now c.args.layout.now c.requires.block.settled
    c.args.handover
    before after lent long c.in_order.ensures) c.swap_pair-former.ensures.swapped
