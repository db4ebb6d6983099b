use Rattle.std.proofs.Common.{◌≤◌, ◌<◌, ◌*◌, ◌-◌, ◌^◌, Option, IfSome, ℕ, ap, ap₂, arith, refl, subst, sym, ◌∙◌}
use Rattle.std.specs.Option.{option_map}
use Rattle.tk_base.specs.declared.limits.TheConstants.{STEP_LIMIT}
use Rattle.partition_turns.specs.Lanes.{lanes_shown}
use Rattle.turn_scheduler.specs.Situation.{Situation}
use Rattle.turn_scheduler.specs.Status.{IsChoiceAhead, choice_by}
use Rattle.kernel_model.specs.World.{World}
use Rattle.board_core.proofs.InWindows.{choice_ahead, choice_same}
use Rattle.kernel_model.specs.Run.{next_time, ready_slots, situation_of}
use Rattle.board_core.specs.LanesOf.{lanes_of}
use Rattle.board_core.proofs.Boards.{status_shown}
use Rattle.board_core.proofs.Ready.{devices_shown}
use Rattle.board_core.proofs.board.Board.status.Goals as goal

pub returns-clause-status : goal.returns-clause-status
returns-clause-status c =
    let b = c.self.inside.state in
    status_shown b c.add_ready.new.ready.items c.devices_ready.result.items c.time_ahead.result
    (c.add_ready.ensures ∙ ap ready_slots (sym c.self.view_is))
    (c.devices_ready.ensures ∙ devices_shown c.self.invariant)
    c.time_ahead.ensures.at
    ∙ ap situation_of c.self.view_is

pub returns-clause-lanes : goal.returns-clause-lanes
returns-clause-lanes c = c.lanes.ensures ∙ ap lanes_of c.self.view_is

pub returns-clause-near : goal.returns-clause-near
returns-clause-near c = c.time_ahead.ensures.near

pub returns-clause-next : goal.returns-clause-next
returns-clause-next c =
    let w = c.args.self.now in
    ap₂ choice_by (returns-clause-status c) (returns-clause-lanes c)
    ∙ choice_same c.next_is_of_the_window.ensures.next w w.pace.window refl

pub returns-clause-ahead : goal.returns-clause-ahead
returns-clause-ahead c =
    let w = c.args.self.now in
    let b = c.self.inside.state in
    let reached : w.clock.time ≤ STEP_LIMIT * 2 ^ 32 =
    subst (λ (v : World). v.clock.time ≤ STEP_LIMIT * 2 ^ 32) c.self.view_is
    (omega (arith, c.self.invariant.machine.time, c.self.invariant.machine.steps)) in
    let near = subst (λ (v : World). IfSome (next_time v) (λ n. n - v.clock.time < 2 ^ 32)) c.self.view_is
    (subst (λ (at : Option ℕ). IfSome at (λ n. n - b.machine.moment.time < 2 ^ 32)) c.time_ahead.ensures.at
    c.time_ahead.ensures.near) in
    subst (λ (s : Situation). IsChoiceAhead s (option_map lanes_shown c.lanes.result)) (sym (returns-clause-status c))
    (subst (IsChoiceAhead (situation_of w)) (sym (returns-clause-lanes c))
    (choice_ahead c.next_is_of_the_window.ensures.ahead c.next_is_ready.ensures.ahead w w.pace.window refl reached
    near))
