-- A turn of the process in a slot. That it is ready is what is kept of the slot, and what `turn_at` promised makes the
-- step and the board (`Changes`, `TurnLines`). Here stands that each thing kept beside the parts is true again once the
-- process was looked at: `looked` and `noted` say what these leave of the machine.
use Rattle.std.proofs.Common.{◌≡◌, ◌+◌, ◌<◌, [], true, refl, ap, sym}
use Rattle.std.proofs.Common.{◌∙◌, arith, length}
use Rattle.tk_base.specs.declared.process.Choice.TheVariants.{Run}
use Rattle.tk_base.specs.declared.limits.TheConstants.{STEP_LIMIT}
use Rattle.kernel_model.specs.World.{is_ready}
use Rattle.process_record.specs.declared.emit.Emit.{Emit}
use Rattle.board_drivers.proofs.Lanes.{later_free, same_free}
use Rattle.board_turns.specs.Turning.{told_in_emit, with_shown}
use Rattle.board_core.specs.Shows.{world_of}
use Rattle.board_core.proofs.Boards.{below_limit, has_storage, ready_within}
use Rattle.board_core.proofs.Changes.{others_stay_ready, owns_after, turn_shown, world_after}
use Rattle.board_core.proofs.Devices.{made_so, refused_so}
use Rattle.board_core.proofs.Boards.{may_turn_on}
use Rattle.board_core.proofs.Looks.{free_there}
use Rattle.board_core.proofs.KnownEnds.{known_at}
use Rattle.board_core.proofs.TurnLines.{alarms_later, lines_stay, may_serve, none_left_after, others_later}
use Rattle.board_core.proofs.TurnLines.{turn_leaves_alarm, turn_stays_calm, turned_board}
use Rattle.board_core.proofs.turns.make_turn.Goals as goal
use Rattle.board_core.proofs.turns.make_turn.Goals.{After-clear}

-- what is kept of the slot says whether it can have a turn
pub returns-then-not-has-clause-step : goal.returns-then-not-has-clause-step
returns-then-not-has-clause-step c =
    refused_so refl refl (sym (c.has.ensures ∙ c.requires.board.ready c.args.slot
    ∙ below_limit c.requires.board c.args.slot c.requires.limit) ∙ c.if-not-has.true)

-- the slot is one that can have a turn
can_run_is : (c : After-clear) → is_ready (world_of c.args.state.now) (Run c.args.slot) ≡ true
can_run_is c = sym (c.has.ensures ∙ c.requires.board.ready c.args.slot
    ∙ below_limit c.requires.board c.args.slot c.requires.limit) ∙ c.if-not-has.false

within : (c : After-clear)
    → (c.args.state.now.machine.moment.steps < STEP_LIMIT) × (c.args.slot < length c.args.state.now.processes.items)
within c = ready_within c.requires.board c.args.slot (can_run_is c)

pub turn_at-requires-clause-turn : goal.turn_at-requires-clause-turn
turn_at-requires-clause-turn c =
    let a = (goal.at.turn_at-requires-clause-turn c).After-clear in
    let b = c.args.state.now in
    let w = within a in
    let may = may_turn_on c.requires.board 1 b.machine.drivers c.args.slot w.1 (omega (arith, w.0)) in
    record {
      within = may.within;
      owns = may.owns;
      holds = λ p is. (
        may.holds p is,
        free_there c.requires.board c.args.slot (can_run_is a) p is,
        known_at b c.args.slot c.args.end c.requires.board c.requires.known p is,
      );
    }

pub turn_at-requires-clause-may : goal.turn_at-requires-clause-may
turn_at-requires-clause-may c =
    may_serve c.args.state.now c.args.slot c.requires.board
    (omega (arith, (within (goal.at.turn_at-requires-clause-may c).After-clear).1, c.requires.board.owns))

pub look_at-requires-clause-owns : goal.look_at-requires-clause-owns
look_at-requires-clause-owns c =
    owns_after c.turn_at.ensures.turn.at c.requires.board.owns ∙ ap length (sym c.deref.ensures.value)

pub look_at-requires-clause-others : goal.look_at-requires-clause-others
look_at-requires-clause-others c =
    let t = c.turn_at.ensures.turn in
    rw (c.deref.ensures.value, t.leaves.rest)
    (others_stay_ready t.at c.args.state.now.machine.ready c.requires.board.ready)

-- The machine once the process and its alarm are looked at again is that of the turn, and the rest is the board's.
pub note_turn-requires-clause-time : goal.note_turn-requires-clause-time
note_turn-requires-clause-time c =
    let board = c.requires.board.machine in
    let below = (within (goal.at.note_turn-requires-clause-time c).After-clear).0 in
    rw (c.look_at.ensures.rest, c.turn_at.ensures.turn.leaves.rest) (omega (arith, board.time, below))

pub note_turn-requires-clause-free : goal.note_turn-requires-clause-free
note_turn-requires-clause-free c =
    let m = c.args.state.now.machine in
    let t = c.turn_at.ensures.turn in
    rw (c.look_at.ensures.rest, t.leaves.rest) (same_free (m.moment.time + 1) m.drivers c.turn_at.new.self.drivers
    (lines_stay c.requires.board t)
    (later_free m.moment.time (m.moment.time + 1) m.drivers (omega arith) c.requires.board.machine.driven.free))

pub note_turn-requires-clause-calm : goal.note_turn-requires-clause-calm
note_turn-requires-clause-calm c quiet =
    let t = c.turn_at.ensures.turn in
    rw (c.look_at.ensures.rest, t.leaves.rest)
    (turn_stays_calm c.requires.board t c.alarms_change_at_their_commands.ensures.quiet quiet)

pub note_turn-requires-clause-others : goal.note_turn-requires-clause-others
note_turn-requires-clause-others c =
    let t = c.turn_at.ensures.turn in
    rw (c.look_at.ensures.rest, t.leaves.rest)
    (others_later c.requires.board t c.time_brings_an_alarm_nearer.ensures)

pub note_turn-requires-clause-denied : goal.note_turn-requires-clause-denied
note_turn-requires-clause-denied c denied =
    let t = c.turn_at.ensures.turn in
    rw (c.look_at.ensures.rest, t.leaves.rest) (none_left_after c.requires.board t denied _)

pub note_turn-requires-clause-unarmed : goal.note_turn-requires-clause-unarmed
note_turn-requires-clause-unarmed c unarmed =
    let t = c.turn_at.ensures.turn in
    rw (c.look_at.ensures.rest, t.leaves.rest)
    (alarms_later c.requires.board t c.time_brings_an_alarm_nearer.ensures
    (turn_leaves_alarm c.requires.board t c.alarms_change_at_their_commands.ensures.alarms unarmed))

pub returns-clause-board : goal.returns-clause-board
returns-clause-board c =
    let t = c.turn_at in
    let left = record c.args.state.now { machine = t.new.self; processes = t.new.processes } in
    rw (c.note_turn.ensures.rest, c.look_at.ensures.rest, t.ensures.turn.leaves.rest, c.take_turn.ensures.turn)
    (turned_board left c.requires.board t.ensures.turn c.note_turn.new.self.calm c.take_turn.new.self.used
    c.note_turn.new.self.alarms c.look_at.new.self.ready c.grants_change_at_calls.ensures.drops
    c.turns_keep_lines.ensures.lines (can_run_is (goal.at.returns-clause-board c).After-clear)
    (rw (c.note_turn.ensures.rest, c.look_at.ensures.rest, t.ensures.turn.leaves.rest) at c.note_turn.ensures.calm)
    (rw (c.note_turn.ensures.rest, c.look_at.ensures.rest, t.ensures.turn.leaves.rest) at c.note_turn.ensures.tell)
    (rw c.deref.ensures.value at c.look_at.ensures.tell)
    (c.take_turn.ensures.within c.requires.board.slice c.requires.board.used))

pub returns-clause-step : goal.returns-clause-step
returns-clause-step c =
    let b = c.args.state.now in
    let t = c.turn_at.ensures.turn in
    let shown = told_in_emit c.turn_at.new.emit in
    made_so refl (can_run_is (goal.at.returns-clause-step c).After-clear)
    (rw (c.note_turn.ensures.rest, c.look_at.ensures.rest, t.leaves.rest, c.take_turn.ensures.turn)
    (world_after b c.args.slot c.turn_at.new.self c.turn_at.new.processes.items shown t
    (has_storage c.requires.board) c.take_turn.new.self.used c.take_turn.ensures.used))
    (c.turn_at.ensures.emit ∙ ap (λ (e : Emit). with_shown e shown) c.clear.ensures
    ∙ turn_shown b c.args.slot c.turn_at.new.self c.turn_at.new.processes.items shown t
    (has_storage c.requires.board) (record { items = [] }) refl)
