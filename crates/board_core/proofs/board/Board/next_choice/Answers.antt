use Rattle.std.proofs.Common.{◌≡◌, ap, sym, arith, ◌∙◌}
use Rattle.kernel_model.specs.Run.{next, ready_devices}
use Rattle.board_core.proofs.Boards.{next_may, none_in_calm}
use Rattle.board_core.proofs.Ready.{calm_shown}
use Rattle.board_core.proofs.board.Board.next_choice.Goals as goal
use Rattle.board_core.proofs.board.Board.next_choice.Goals.{After-next_choice_in, After-next_in_calm}

pub next_in_calm-requires-clause-none : goal.next_in_calm-requires-clause-none
next_in_calm-requires-clause-none c =
    let b = c.self.inside.state in
    none_in_calm c.args.self.now (ap ready_devices (sym c.self.view_is)
    ∙ calm_shown c.self.invariant
    (c.self.invariant.machine.calm.none b.machine.moment.time (omega arith) (omega (arith, c.if-self.true))))

-- what the scheduler chooses is what the world's round robin chooses
is_next : (c : After-next_choice_in) → c.next_choice_in.result ≡ next c.args.self.now
unfolding next
is_next c = c.next_choice_in.ensures

is_next_in_calm : (c : After-next_in_calm) → c.next_in_calm.result ≡ next c.args.self.now
unfolding next
is_next_in_calm c = c.next_in_calm.ensures

pub returns-then-self-clause-next : goal.returns-then-self-clause-next
returns-then-self-clause-next c = is_next_in_calm (goal.at.returns-then-self-clause-next c).After-next_in_calm

pub returns-then-self-clause-ready : goal.returns-then-self-clause-ready
returns-then-self-clause-ready c =
    next_may c.args.self.now c.next_in_calm.result c.next_is_ready.ensures.ready
    (is_next_in_calm (goal.at.returns-then-self-clause-ready c).After-next_in_calm)

pub returns-clause-next : goal.returns-clause-next
returns-clause-next c = is_next (goal.at.returns-clause-next c).After-next_choice_in

pub returns-clause-ready : goal.returns-clause-ready
returns-clause-ready c =
    next_may c.args.self.now c.next_choice_in.result c.next_is_ready.ensures.ready
    (is_next (goal.at.returns-clause-ready c).After-next_choice_in)

-- and with time partitions the choice in the window
pub returns-then-self-clause-window : goal.returns-then-self-clause-window
returns-then-self-clause-window c some =
    is_next_in_calm (goal.at.returns-then-self-clause-window c).After-next_in_calm
    ∙ c.next_is_of_the_window.ensures.next c.args.self.now some

pub returns-clause-window : goal.returns-clause-window
returns-clause-window c some =
    is_next (goal.at.returns-clause-window c).After-next_choice_in
    ∙ c.next_is_of_the_window.ensures.next c.args.self.now some
