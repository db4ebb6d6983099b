-- The loop that places applications: it keeps that the places so far and those of the objects left make all
-- (`places_from`), and how far RAM is filled. What it answers is then `placements`, of which the clauses are laws
-- (`Laws`).
use Rattle.std.proofs.Common.{◌≡◌, ◌≤◌, length, ◌++◌, ◌∷◌, [], sym}
use Rattle.std.proofs.Common.{lit<, arith}
use Rattle.tk_base.specs.declared.limits.TheConstants.{OBJECT_LIMIT}
use Rattle.std.proofs.lemmas.List.Elements.{All-push}
use Rattle.app_placement.specs.Applications.{application_of, applications}
use Rattle.app_placement.specs.Placement.{place_of, filled_after}
use Rattle.app_placement.specs.Parts.{placements}
use Rattle.app_placement.specs.Placement.{LiesInFlash, IsLaidOut}
use Rattle.app_placement.proofs.Objects.{one_found, few_found}
use Rattle.app_placement.proofs.Laws.{filled_after-filled, place_of-in_flash, place_of-laid_out}
use Rattle.app_placement.proofs.Laws.{placements-numbered, placements-in_ram, placements-apart, placements-few}
use Rattle.app_placement.proofs.Steps.{left_after_one, whole_at_end}
use Rattle.app_placement.proofs.placing.place.Goals as goal

pub application_at-requires-clause-object : goal.application_at-requires-clause-object
application_at-requires-clause-object c =
    (one_found c.args.flash.now c.args.found.now c.loop-object.object-index _ c.objects_are_found.ensures
    c.requires.flash c.requires.found c.loop-object-test.true).object

pub push-requires : goal.push-requires
push-requires c =
    let few : length c.args.found.now ≤ OBJECT_LIMIT =
    few_found c.args.flash.now c.args.found.now c.objects_are_found.ensures c.requires.flash c.requires.found in
    (lit< tt, omega (arith, c.loop-object.invariant.few, c.loop-object-test.true))

pub loop-object-preserved : goal.loop-object-preserved
loop-object-preserved c =
    let found = one_found c.args.flash.now c.args.found.now c.loop-object.object-index _ c.objects_are_found.ensures
    c.requires.flash c.requires.found c.loop-object-test.true in
    let whole = placements c.args.partition c.args.ram (applications c.args.flash.now) in
    let ask = application_of c.args.flash.now in
    let place = place_of c.args.partition c.args.ram c.loop-object.filled c.in-Some.app in
    let next : c.next_filled-filled.result ≡ filled_after c.loop-object.filled place =
    rw (← c.next_place-place.ensures) c.next_filled-filled.ensures in
    let items : c.push.new.self.items
    ≡ c.loop-object.placed.items ++ record { offset = c.in-Some.app.offset; place = place } ∷ [] =
    rw (← c.next_place-place.ensures) c.push.ensures.items in
    record {
      filled = rw next (filled_after-filled c.args.partition c.args.ram c.loop-object.filled c.in-Some.app
          c.loop-object.invariant.filled).filled;
      few = omega (arith, c.push.ensures.len, c.loop-object.invariant.few);
      each = rw items (All-push (LiesInFlash c.args.flash.now) c.loop-object.placed.items _
          c.loop-object.invariant.each
          (place_of-in_flash c.args.flash.now _ c.args.partition c.args.ram c.loop-object.filled c.in-Some.app
          c.requires.flash found c.in-Some.ensures.accessible.0 c.in-Some.ensures.accessible.1));
      laid_out = rw items (All-push (IsLaidOut c.args.flash.now) c.loop-object.placed.items _
          c.loop-object.invariant.laid_out
          (place_of-laid_out c.args.flash.now _ c.args.partition c.args.ram c.loop-object.filled c.in-Some.app found
          c.in-Some.ensures.accessible.0 (sym c.in-Some.ensures.application)));
      left = rw (items, next) (left_after_one whole c.loop-object.placed.items c.args.partition c.args.ram
          c.loop-object.filled ask c.args.found.now c.loop-object.object-index _ c.in-Some.app
          c.loop-object-test.true (sym c.in-Some.ensures.application) c.loop-object.invariant.left);
    }

pub returns-clause-places : goal.returns-clause-places
returns-clause-places c =
    whole_at_end _ c.loop-object.placed.items c.args.partition c.args.ram c.loop-object.filled
    (application_of c.args.flash.now)
    c.args.found.now c.loop-object.object-index c.loop-object-test.false c.loop-object.invariant.left

pub returns-clause-ram : goal.returns-clause-ram
returns-clause-ram c = rw (returns-clause-places c) (placements-in_ram _ _ _)

pub returns-clause-apart : goal.returns-clause-apart
returns-clause-apart c = rw (returns-clause-places c) (placements-apart _ _ _)

pub returns-clause-slots : goal.returns-clause-slots
returns-clause-slots c = rw (returns-clause-places c) (placements-numbered _ _ _)

pub returns-clause-few : goal.returns-clause-few
returns-clause-few c = rw (returns-clause-places c) (placements-few _ _ _)
