use Rattle.std.proofs.Common.{◌≡◌, if◌then◌else◌, Bool, true, None, Option, Some, ap, sym, ◌∙◌, ℕ}
use Rattle.driver_model.specs.Alarm.{nearer}
use Rattle.kernel_model.specs.Run.{is_left}
use Rattle.kernel_model.specs.Parts.{work_of}
use Rattle.kernel_model.specs.World.{Work}
use Rattle.board_drivers.proofs.Calm.{served_now}
use Rattle.board_core.proofs.Boards.{in_window, no_window}
use Rattle.board_core.proofs.Ready.{next_shown}
use Rattle.board_core.specs.Shows.{world_of}
use Rattle.board_core.proofs.left.time_ahead.Goals as goal

-- without a window it is the next time at which a device step becomes ready
pub returns-in_default-clause-at : goal.returns-in_default-clause-at
returns-in_default-clause-at c =
    let b = c.args.state.now in
    c.next_time-next.ensures.at ∙ ap (λ (work : Work). work.next)
    (served_now b.machine.moment c.served.result b.machine.home.owns b.machine.drivers c.served.ensures.only)
    ∙ next_shown c.requires
    ∙ sym (no_window (world_of b) b.machine.moment.window (sym c.window_end.ensures.at ∙ c.in_default.is))

-- with one, and where anything is left to do, no further than to its end
pub returns-clause-at : goal.returns-clause-at
returns-clause-at c =
    let b = c.args.state.now in
    let w = world_of b in
    let left : is_left w ≡ true = sym c.is_left.ensures ∙ c.if-not-is_left.false in
    c.nearer_time.ensures
    ∙ ap (λ (at : Option ℕ). nearer at (Some c.in-Some.end)) (c.next_time-next.ensures.at
    ∙ ap (λ (work : Work). work.next)
    (served_now b.machine.moment c.served.result b.machine.home.owns b.machine.drivers c.served.ensures.only)
    ∙ next_shown c.requires)
    ∙ sym (in_window w b.machine.moment.window c.in-Some.end (sym c.window_end.ensures.at ∙ c.in-Some.is)
    ∙ ap (λ (x : Bool). if x then nearer (work_of w).next (Some c.in-Some.end) else None) left)
