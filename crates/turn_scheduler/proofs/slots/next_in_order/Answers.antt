use Rattle.std.proofs.Common.{◌≡◌, ◌+◌, ℕ, Bool, None, rules, sym, ◌∙◌}
use Rattle.turn_scheduler.specs.RoundRobin.{slots_after}
use Rattle.turn_scheduler.specs.Parts.{place_is_ready}
use Rattle.turn_scheduler.proofs.Order.{nobody_ready, none_past, slots_after-none, slots_after-some, slots_after-start}
use Rattle.turn_scheduler.proofs.slots.next_in_order.Goals as goal

pub returns-then-slots-eq0 : goal.returns-then-slots-eq0
returns-then-slots-eq0 g c =
    nobody_ready (place_is_ready (g.S.Situated.situation c.args.situated.now).ready) (slots_after c.args.present)
    c.slots-slots.result (search rules) c.slots-slots.ensures.none

pub returns-in-Some-first_ready : goal.returns-in-Some-first_ready
returns-in-Some-first_ready g c =
    let p : ℕ → Bool = place_is_ready (g.S.Situated.situation c.args.situated.now).ready in
    slots_after-some p c.args.present c.in-Some.present c.index-after.result c.in-Some-first_ready.slot c.in-Some.is
    c.index-after.ensures.value
    (sym c.in-Some-first_ready.is ∙ c.first_ready-2.ensures
    ∙ sym (none_past p (c.index-after.result + 1) c.slots-slots.result c.slots-slots.ensures.within
    c.slots-slots.ensures.none))

pub returns-in-None : goal.returns-in-None
returns-in-None g c =
    let p : ℕ → Bool = place_is_ready (g.S.Situated.situation c.args.situated.now).ready in
    slots_after-none p c.args.present c.in-Some.present c.index-after.result
    c.first_ready-in-None.result c.in-Some.is c.index-after.ensures.value
    (sym c.in-None.is ∙ c.first_ready-2.ensures
    ∙ sym (none_past p (c.index-after.result + 1) c.slots-slots.result c.slots-slots.ensures.within
    c.slots-slots.ensures.none))
    c.first_ready-in-None.ensures

pub returns-in_default : goal.returns-in_default
returns-in_default g c =
    let p : ℕ → Bool = place_is_ready (g.S.Situated.situation c.args.situated.now).ready in
    let none : c.args.present ≡ None = search rules in
    slots_after-start p c.args.present c.first_ready.result none
    (c.first_ready.ensures ∙ sym (none_past p 0 c.slots-slots.result c.slots-slots.ensures.within
    c.slots-slots.ensures.none))
