use Rattle.std.proofs.Common.{List, sym, subst}
use Rattle.std.proofs.lemmas.List.{take_all}
use Rattle.app_placement.specs.declared.placed.Placed.{Placed}
use Rattle.board_opening.specs.Boot.{IsCrew}
use Rattle.board_opening.proofs.Crews.{crew_empty, crew_none, crew_more}
use Rattle.board_opening.proofs.boot.first_crew.Goals as goal

pub loop-application-init : goal.loop-application-init
loop-application-init c =
    crew_empty c.args.flash.now (record { processes = c.new.result; footprints = c.new-2.result }) c.new.ensures.items
    c.new-2.ensures.items

pub loop-application-preserved-in_default : goal.loop-application-preserved-in_default
loop-application-preserved-in_default c =
    let item = c.application-item.result in
    crew_none c.args.flash.now c.args.placed.now c.loop-application.application-index item c.loop-application.crew
    c.loop-application-test.true (sym c.application-item.is) c.in_default.field-0 c.in_default.is
    c.loop-application.invariant

pub loop-application-preserved : goal.loop-application-preserved
loop-application-preserved c =
    let item = c.application-item.result in
    crew_more c.args.flash.now c.args.placed.now c.loop-application.application-index item c.loop-application.crew
    (record { processes = c.push.new.self; footprints = c.push-in-loop-application.new.self })
    c.first_process-process.result c.in-Ok.place c.loop-application-test.true (sym c.application-item.is) c.in-Ok.is
    c.loop-application.invariant c.in-Ok-push.ensures.items c.in-Ok-push-2.ensures.items
    c.first_process-process.ensures.shown c.first_process-process.ensures.seated
    c.first_process-process.ensures.first

pub returns : goal.returns
returns c = subst (λ (placed : List Placed). IsCrew c.args.flash.now placed c.loop-application.crew)
    (take_all c.loop-application.application-index c.args.placed.now c.loop-application-test.false)
    c.loop-application.invariant
