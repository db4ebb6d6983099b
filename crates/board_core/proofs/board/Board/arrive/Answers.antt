-- What comes in is a step of the board. Where it is not its time nothing has changed, and the choice is refused; an act
-- that means a process is `operate`'s; else what `Drivers::arrive` promised makes the parts of the board
-- (`parts_then`), of which the rest follows: what looking again asks, and the board and the world after it.
use Rattle.std.proofs.Common.{◌≡◌, length, None, true, sym, ap, subst, ◌∙◌, arith}
use Rattle.board_turns.proofs.TurnsKept.{none_beyond}
use Rattle.tk_base.specs.declared.process.Choice.TheVariants.{Device}
use Rattle.tk_base.specs.declared.process.Dev.TheVariants.{Event}
use Rattle.board_devices.specs.Arriving.{is_time}
use Rattle.board_drivers.proofs.Edges.{arrived_alarms, may_be_told, parts_with, some_left}
use Rattle.kernel_model.specs.World.{World}
use Rattle.board_core.specs.Makes.{MakesStep, act_meant, showing}
use Rattle.board_core.specs.PartsOf.{board_parts}
use Rattle.board_core.specs.Shows.{world_of}
use Rattle.board_core.proofs.Arrivals.{arrived_board, arrived_shown, parts_then, world_arrived}
use Rattle.board_core.proofs.Devices.{made_so, may_act, not_acting, refused_so}
use Rattle.board_drivers.specs.Parts.{AreBoardParts}
use Rattle.board_core.proofs.board.Board.arrive.Goals as goal
use Rattle.board_core.proofs.board.Board.arrive.Goals.{After-arrive}

pub returns-then-not-is_time : goal.returns-then-not-is_time
returns-then-not-is_time c = refused_so (sym c.self.view_is) c.self.view_is
    (not_acting (world_of c.self.inside.state) Event (sym c.is_time.ensures ∙ c.if-not-is_time.true))

pub arrive-requires-clause-left : goal.arrive-requires-clause-left
arrive-requires-clause-left c =
    some_left c.self.inside.state.machine.moment.time c.self.inside.state.machine.drivers.arrivals
    (sym c.is_time.ensures ∙ c.if-not-is_time.false)

pub arrive-requires-clause-dropped : goal.arrive-requires-clause-dropped
arrive-requires-clause-dropped c =
    may_be_told c.self.inside.state.machine.moment.steps c.self.inside.state.machine.home.owns
    c.self.invariant.machine.lost (rw (← c.self.view_is) at c.requires)

pub arrive-requires-clause-slots : goal.arrive-requires-clause-slots
arrive-requires-clause-slots c = omega (arith, c.len-slots.ensures, c.self.invariant.owns)

pub arrive-requires-clause-few : goal.arrive-requires-clause-few
arrive-requires-clause-few c = omega (arith, c.len-slots.ensures, c.self.invariant.few)

-- what holds of the board's parts once it came in
parts : (c : After-arrive) → AreBoardParts (parts_with (board_parts c.self.inside.state) c.arrive.new.home
    c.arrive.new.self)
parts c = parts_then c.self.inside.state c.arrive.ensures c.lines_follow_answers.ensures c.self.invariant
    (rw (← c.self.view_is) at c.requires)

pub look_ahead-self-inside-requires-clause-alarms : goal.look_ahead-self-inside-requires-clause-alarms
look_ahead-self-inside-requires-clause-alarms c =
    rw c.look_at_all.ensures.rest
    (arrived_alarms (board_parts c.self.inside.state) c.lines_follow_answers.ensures c.arrive.new.home c.arrive.new.self
    c.arrive.ensures c.self.inside.state.machine.alarms c.self.invariant.machine.alarms)

pub look_ahead-self-inside-requires-clause-time : goal.look_ahead-self-inside-requires-clause-time
look_ahead-self-inside-requires-clause-time c =
    let holds = c.self.invariant.machine in
    rw c.look_at_all.ensures.rest (omega (arith, holds.time, holds.steps))

pub look_ahead-self-inside-requires-clause-free : goal.look_ahead-self-inside-requires-clause-free
look_ahead-self-inside-requires-clause-free c =
    rw c.look_at_all.ensures.rest
    (parts (goal.at.look_ahead-self-inside-requires-clause-free c).After-arrive).driven.free

pub look_at_all-requires-clause-owns : goal.look_at_all-requires-clause-owns
look_at_all-requires-clause-owns c =
    (parts (goal.at.look_at_all-requires-clause-owns c).After-arrive).owns ∙ ap length (sym c.deref.ensures.value)

pub look_at_all-requires-clause-few : goal.look_at_all-requires-clause-few
look_at_all-requires-clause-few c = rw c.deref.ensures.value c.self.invariant.few

pub look_at_all-requires-clause-beyond : goal.look_at_all-requires-clause-beyond
look_at_all-requires-clause-beyond c = rw c.deref.ensures.value
    (none_beyond c.self.inside.state.machine.ready c.self.inside.state.processes.items
    c.self.inside.state.machine.home.owns c.self.invariant.ready)

pub invariant_of-self-2 : goal.invariant_of-self-2
invariant_of-self-2 c = rw c.look_at_all.ensures.rest
    (arrived_board c.self.inside.state c.arrive.ensures c.lines_follow_answers.ensures c.self.invariant
    (rw (← c.self.view_is) at c.requires) c.look_ahead-self-inside.result c.look_at_all.new.self.ready
    (rw c.deref.ensures.value at c.look_at_all.ensures.tell)
    (rw c.look_at_all.ensures.rest at c.look_ahead-self-inside.ensures.calm))

pub returns : goal.returns
returns c =
    let b = c.self.inside.state in
    let may : is_time b.machine.moment.time b.machine.drivers.arrivals ≡ true = sym c.is_time.ensures
    ∙ c.if-not-is_time.false in
    let meant : act_meant (world_of b) ≡ None = sym c.act_meant.ensures ∙ c.in_default.is in
    made_so c.self.view_is (may_act (world_of b) Event (rw (← c.self.view_is) at c.requires) may)
    (rw c.look_at_all.ensures.rest (world_arrived b c.arrive.ensures may meant c.devices_answer_one.ensures))
    (c.clear.ensures ∙ arrived_shown b c.arrive.ensures may meant c.devices_answer_one.ensures)

pub operate-requires-clause-limit : goal.operate-requires-clause-limit
operate-requires-clause-limit c = rw (← c.self.view_is) at c.requires

pub returns-in-Some : goal.returns-in-Some
returns-in-Some c =
    subst (λ (w : World). MakesStep (Device Event) (showing w c.args.emit.now)
    (showing (world_of c.operate.new.state) c.operate.new.emit) c.operate.result) c.self.view_is
    c.operate.ensures.step
