use Rattle.std.proofs.Common.{rules, ap, ◌≡◌, sym, ◌∙◌, false, take, drop, ◌-◌}
use Rattle.std.specs.Prelude.{is_ok}
use Rattle.process_layout.specs.LayoutView.{LayoutView}
use Rattle.grant_values.specs.Drivers.{cost_of}
use Rattle.grant_region.specs.Region.{fits, has_space, parts_of, with_room}
use Rattle.swap_tables.proofs.Held.{shape-is}
use Rattle.swap_tables.proofs.Made.{cost-fits, swaps-made}
use Rattle.swap_tables.proofs.swaps.swap_pair.Goals as goal

pub cost_of-requires : goal.cost_of-requires
cost_of-requires c = cost-fits c.args.handover.driver c.args.handover.counts c.requires.pair.counts_are

pub returns-in_err-make_area : goal.returns-in_err-make_area
returns-in_err-make_area c =
    let k = shape-is c.args.handover.driver c.args.handover.counts c.requires.pair.counts_are in
    let r : is_ok c.from_residual.result ≡ false = search rules in
    record {
      room = r ∙ c.in_err-make_area.ensures.room
          ∙ ap (has_space c.args.layout.now) (c.cost_of.ensures ∙ sym (ap cost_of k))
          ∙ sym (ap (fits c.args.layout.now c.args.handover.driver) c.in_default.ensures.none);
      swapped = search rules;
      refused = search rules;
      kept = search rules;
    }

pub returns : goal.returns
returns c =
    let m = c.in_ok-make_area.ensures in
    let front = c.split_at_mut-area.ensures.front
    ∙ ap (λ (e : LayoutView). take (e.kernel_break - e.start) c.make_area.new.app) c.layout.view_is in
    let rest = c.split_at_mut-area.ensures.back
    ∙ ap (λ (e : LayoutView). drop (e.kernel_break - e.start) c.make_area.new.app) c.layout.view_is in
    record {
      room = search rules;
      swapped =
          swaps-made c.parts_join.ensures c.args.handover c.swap_held-2.result
          (parts_of c.args.layout.now c.args.app.now c.args.kernel.now) c.make_area.new.layout c.make_area.new.app
          c.split_at_mut-area.result.0.now c.split_at_mut-area.result.1.now c.swap_held-2.new.kernel
          c.swap_held.new.kernel
          c.requires.pair.counts_are c.requires.parts.laid c.in_default.ensures.unchanged c.in_default.ensures.none
          (m.layout ∙ ap (λ n. with_room n c.args.layout.now) c.cost_of.ensures) m.made front rest
          c.swap_held-2.ensures.length c.swap_held-2.ensures.some c.swap_held-2.ensures.none;
      refused = search rules;
      kept = search rules;
    }
