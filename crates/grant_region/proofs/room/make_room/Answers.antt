-- Room for a driver's grant: where it has one nothing changes, and its area is the one found; else an area is made in
-- front of the others, and the layout's kernel break is lower by its cost, or there is no room. Which case it is the
-- law `areas_are_found` ties to the grants in the kernel's bytes.
use Rattle.std.proofs.Common.{rules, ap, ◌≡◌, sym, ◌∙◌, Some, ℕ, false, subst}
use Rattle.std.specs.Prelude.{is_ok}
use Rattle.grant_model.specs.declared.places.Area.{Area}
use Rattle.grant_model.specs.Grants.{entered, fresh}
use Rattle.grant_model.specs.Encoding.{decode_grants, area_of}
use Rattle.grant_region.specs.Region.{fits, roomed, has_space, with_room, Leaves, parts_of}
use Rattle.grant_region.proofs.Costs.{known}
use Rattle.grant_region.proofs.Below.{area_fresh, entered_known, entered_new}
use Rattle.grant_region.proofs.room.make_room.Goals as goal

pub returns-in-Some-clause-room : goal.returns-in-Some-clause-room
returns-in-Some-clause-room c =
    let h = c.areas_are_found.ensures.found c.args.driver c.args.kernel.now c.in-Some.found c.requires.parts.laid
    c.in-Some.ensures.area in
    sym (ap (fits c.args.layout.now c.args.driver) h.is)

pub returns-in-Some-clause-layout : goal.returns-in-Some-clause-layout
returns-in-Some-clause-layout c =
    let h = c.areas_are_found.ensures.found c.args.driver c.args.kernel.now c.in-Some.found c.requires.parts.laid
    c.in-Some.ensures.area in
    sym (ap (roomed c.args.driver c.args.layout.now) h.is)

pub returns-in-Some-clause-made : goal.returns-in-Some-clause-made
returns-in-Some-clause-made c =
    let h = c.areas_are_found.ensures.found c.args.driver c.args.kernel.now c.in-Some.found c.requires.parts.laid
    c.in-Some.ensures.area in
    c.parts_join.ensures.kept (parts_of c.args.layout.now c.args.app.now c.args.kernel.now)
    (entered c.args.driver (decode_grants c.args.kernel.now)) c.requires.parts.size
    (record {
      laid = c.requires.parts.laid;
      grants =
          sym (entered_known c.args.driver (decode_grants c.args.kernel.now) h.grant h.is);
    })

pub returns-in-Some-clause-area : goal.returns-in-Some-clause-area
returns-in-Some-clause-area c =
    let h = c.areas_are_found.ensures.found c.args.driver c.args.kernel.now c.in-Some.found c.requires.parts.laid
    c.in-Some.ensures.area in
    c.in-Some.ensures.area
    ∙ ap (area_of c.args.driver) (sym (entered_known c.args.driver (decode_grants c.args.kernel.now) h.grant h.is))

pub returns-in_err-make_area-clause-room : goal.returns-in_err-make_area-clause-room
returns-in_err-make_area-clause-room c =
    let none = c.areas_are_found.ensures.absent c.args.driver (decode_grants c.args.kernel.now)
    c.in_default.ensures.area in
    let k = known c.args.driver c.args.cost c.requires.cost in
    let r : is_ok c.from_residual.result ≡ false = search rules in
    r ∙ c.in_err-make_area.ensures.room ∙ ap (has_space c.args.layout.now) k.cost_is
    ∙ sym (ap (fits c.args.layout.now c.args.driver) none)

pub returns-clause-layout : goal.returns-clause-layout
returns-clause-layout c =
    let none = c.areas_are_found.ensures.absent c.args.driver (decode_grants c.args.kernel.now)
    c.in_default.ensures.area in
    let k = known c.args.driver c.args.cost c.requires.cost in
    c.in_ok-make_area.ensures.layout ∙ ap (λ n. with_room n c.args.layout.now) k.cost_is
    ∙ sym (ap (roomed c.args.driver c.args.layout.now) none)

pub returns-clause-made : goal.returns-clause-made
returns-clause-made c =
    let gs = decode_grants c.args.kernel.now in
    let none = c.areas_are_found.ensures.absent c.args.driver gs c.in_default.ensures.area in
    let before = parts_of c.args.layout.now c.args.app.now c.args.kernel.now in
    subst (Leaves before (parts_of c.make_area.new.layout c.make_area.new.app c.args.kernel.now)) (sym (entered_new
    c.args.driver gs none))
    (c.parts_join.ensures.made before c.make_area.new.layout c.make_area.new.app (fresh c.args.driver)
    c.requires.parts.laid c.in_ok-make_area.ensures.made)

pub returns-clause-area : goal.returns-clause-area
returns-clause-area c =
    let gs = decode_grants c.args.kernel.now in
    let none = c.areas_are_found.ensures.absent c.args.driver gs c.in_default.ensures.area in
    let k = known c.args.driver c.args.cost c.requires.cost in
    let made : ℕ → Area = λ n. record { offset = 0; cost = n } in
    ap (λ n. Some (made n)) k.cost_is
    ∙ area_fresh c.args.driver gs (entered c.args.driver gs) (entered_new c.args.driver gs none)
