-- An operator's act that is next to come in: the event is let in, and then what `operate_at` promised is an act on that
-- machine (`OperatesOnce`). The step and the board follow from it (`Operating`); here stands that each thing kept
-- beside the parts is true again once the process and its alarm were looked at.
use Rattle.std.proofs.Common.{◌≡◌, refl, true, length, ap, sym, subst, ◌∙◌, arith}
use Rattle.tk_base.specs.declared.process.Dev.TheVariants.{Event}
use Rattle.board_devices.specs.Arriving.{is_time}
use Rattle.board_turns.specs.declared.machine.Machine.{Machine}
use Rattle.board_turns.specs.Turning.{HasProcess, MayTurn}
use Rattle.board_core.specs.Shows.{world_of}
use Rattle.board_core.proofs.Changes.{others_stay_ready, owns_after}
use Rattle.board_core.proofs.Devices.{made_so, may_act}
use Rattle.board_core.proofs.Boards.{may_turn_on}
use Rattle.board_core.proofs.Operating.{ActComes, OperatesOnce, act_comes, act_within, let_in, lets_in, named_within}
use Rattle.board_core.proofs.Operating.{operated_board, operated_driven}
use Rattle.board_core.proofs.Operating.{operated_shown, operates_in, others_unmoved, world_operated}
use Rattle.board_core.proofs.operator.operate.Goals as goal
use Rattle.board_core.proofs.operator.operate.Goals.{After-operate_at}

pub listing-printed-requires-clause-slot : goal.listing-printed-requires-clause-slot
listing-printed-requires-clause-slot c =
    let b = c.args.state.now in
    let comes = act_comes b.machine.drivers.arrivals (world_of b).records c.args.slot c.args.verb c.requires.meant in
    named_within comes.name (world_of b).records c.args.slot comes.means

pub operate_at-requires : goal.operate_at-requires
operate_at-requires c =
    let b = c.args.state.now in
    let comes = act_comes b.machine.drivers.arrivals (world_of b).records c.args.slot c.args.verb c.requires.meant in
    subst (λ (m : Machine). HasProcess c.args.slot m.home b.processes.items (MayTurn 1 c.args.slot m))
    (sym (lets_in b.machine (world_of b).records c.args.slot c.args.verb comes c.arrive.new.home c.arrive.new.self
    c.arrive.ensures))
    (may_turn_on c.requires.board 1 (let_in b.machine comes.rest).drivers c.args.slot
    (act_within c.requires.board comes) (omega (arith, c.requires.limit)))

-- the act that comes in
abbrev comes : (c : After-operate_at)
    → ActComes c.args.state.now.machine.drivers.arrivals (world_of c.args.state.now).records c.args.slot c.args.verb
comes c = act_comes c.args.state.now.machine.drivers.arrivals (world_of c.args.state.now).records c.args.slot
    c.args.verb c.requires.meant

-- it is one on the machine once it is let in
operates : (c : After-operate_at) → OperatesOnce c.args.state.now c.args.slot c.args.verb (comes c).rest
    c.operate_at.new.self c.operate_at.new.processes.items
operates c = operates_in c.args.state.now c.args.slot c.args.verb (comes c) c.arrive.new.home c.arrive.new.self
    c.arrive.ensures c.operate_at.new.self c.operate_at.new.processes.items c.operate_at.ensures

pub look_at-requires-clause-owns : goal.look_at-requires-clause-owns
look_at-requires-clause-owns c =
    let t = operates (goal.at.look_at-requires-clause-owns c).After-operate_at in
    owns_after t.at c.requires.board.owns ∙ ap length (sym c.deref.ensures.value)

pub look_at-requires-clause-others : goal.look_at-requires-clause-others
look_at-requires-clause-others c =
    let t = operates (goal.at.look_at-requires-clause-others c).After-operate_at in
    rw (c.deref.ensures.value, t.leaves.rest)
    (others_stay_ready t.at c.args.state.now.machine.ready c.requires.board.ready)

-- The machine once the process and its alarm are looked at again is that of the act, and the rest is the board's.
pub note_alarm-requires-clause-time : goal.note_alarm-requires-clause-time
note_alarm-requires-clause-time c =
    let t = operates (goal.at.note_alarm-requires-clause-time c).After-operate_at in
    let board = c.requires.board.machine in
    rw (c.look_at.ensures.rest, t.leaves.rest) (omega (arith, board.time, board.steps))

pub note_alarm-requires-clause-others : goal.note_alarm-requires-clause-others
note_alarm-requires-clause-others c =
    let a = (goal.at.note_alarm-requires-clause-others c).After-operate_at in
    let t = operates a in
    rw (c.look_at.ensures.rest, t.leaves.rest) (others_unmoved c.requires.board (comes a) t)

pub look_ahead-state-requires-clause-time : goal.look_ahead-state-requires-clause-time
look_ahead-state-requires-clause-time c =
    let t = operates (goal.at.look_ahead-state-requires-clause-time c).After-operate_at in
    let board = c.requires.board.machine in
    rw (c.note_alarm.ensures.rest, c.look_at.ensures.rest, t.leaves.rest) (omega (arith, board.time, board.steps))

pub look_ahead-state-requires-clause-free : goal.look_ahead-state-requires-clause-free
look_ahead-state-requires-clause-free c =
    let a = (goal.at.look_ahead-state-requires-clause-free c).After-operate_at in
    let t = operates a in
    rw (c.note_alarm.ensures.rest, c.look_at.ensures.rest, t.leaves.rest)
    (operated_driven c.requires.board (comes a) t).free

pub returns-clause-board : goal.returns-clause-board
returns-clause-board c =
    let a = (goal.at.returns-clause-board c).After-operate_at in
    let t = operates a in
    let left = record c.args.state.now { machine = c.operate_at.new.self; processes = c.operate_at.new.processes } in
    rw (c.note_alarm.ensures.rest, c.look_at.ensures.rest, t.leaves.rest)
    (operated_board left c.requires.board (comes a) t c.look_ahead-state.result c.note_alarm.new.self.alarms
    c.look_at.new.self.ready c.requires.limit
    (rw (c.note_alarm.ensures.rest, c.look_at.ensures.rest, t.leaves.rest) at c.note_alarm.ensures.tell)
    (rw c.deref.ensures.value at c.look_at.ensures.tell)
    (rw (c.note_alarm.ensures.rest, c.look_at.ensures.rest, t.leaves.rest) at c.look_ahead-state.ensures.calm))

pub returns-clause-step : goal.returns-clause-step
returns-clause-step c =
    let a = (goal.at.returns-clause-step c).After-operate_at in
    let b = c.args.state.now in
    let t = operates a in
    let may : is_time b.machine.moment.time b.machine.drivers.arrivals ≡ true = c.requires.ready in
    made_so refl (may_act (world_of b) Event c.requires.limit may)
    (rw (c.note_alarm.ensures.rest, c.look_at.ensures.rest, t.leaves.rest)
    (world_operated c.requires.board (comes a) t c.devices_answer_one.ensures))
    (c.show_act.ensures
    ∙ operated_shown c.requires.board (comes a) t c.devices_answer_one.ensures c.listing-printed.result.items
    c.listing-printed.ensures)
