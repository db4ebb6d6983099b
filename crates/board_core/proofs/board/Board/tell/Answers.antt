-- A device's step: what `act` promised is taken apart once, into 'it may not act, and the machine is as it was' and
-- `DeviceTold`. Of the latter follow the step and the board (`Devices`); here stands that each thing kept beside the
-- parts (who is ready, the alarm's time, the calm) is true again once it was looked at.
use Rattle.std.proofs.Common.{◌≡◌, length, Err, ap, sym, ◌∙◌, arith}
use Rattle.grant_enter.specs.Homes.{Homes}
use Rattle.board_drivers.specs.declared.drivers.Drivers.{Drivers}
use Rattle.board_drivers.specs.Tells.{Acted, DeviceTold}
use Rattle.board_turns.specs.declared.machine.Machine.{Machine}
use Rattle.board_turns.specs.Turning.{ChangesSlot}
use Rattle.board_core.specs.PartsOf.{board_parts}
use Rattle.board_core.specs.Shows.{world_of}
use Rattle.board_core.proofs.Changes.{others_stay_ready, owns_after}
use Rattle.board_core.proofs.Devices.{all_still, made_so, may_tell, not_acting, others_still, refused_so}
use Rattle.board_core.proofs.Devices.{told_at, told_board, told_shown, world_told}
use Rattle.board_core.proofs.PartsOf.{are_parts}
use Rattle.board_core.proofs.board.Board.tell.Goals as goal
use Rattle.board_core.proofs.board.Board.tell.Goals.{In-Ok, In_default}

-- it may not act
idle : (c : In_default) → Acted (board_parts c.self.inside.state) c.args.device (Err _) c.act.new.printed.items
    c.act.new.self.home c.act.new.self.drivers
idle c = rw c.in_default.is at (c.act.ensures.acts (board_parts c.self.inside.state)
    (are_parts c.self.inside.state c.self.invariant))

-- so the machine is as it was
stays : (c : In_default) → c.act.new.self ≡ c.self.inside.state.machine
stays c =
    let m = c.self.inside.state.machine in
    let none = idle c in
    c.act.ensures.rest
    ∙ ap (λ (h : Homes). record m { home = h; drivers = c.act.new.self.drivers }) none.1
    ∙ ap (λ (d : Drivers). record m { drivers = d }) none.2

pub invariant_of-self : goal.invariant_of-self
invariant_of-self c = rw (stays c) c.self.invariant

pub returns-in_default : goal.returns-in_default
returns-in_default c =
    let b = c.self.inside.state in
    let a = (goal.at.returns-in_default c).In_default in
    refused_so (ap (λ (m : Machine). world_of (record b { machine = m })) (stays a)) c.self.view_is
    (not_acting (world_of b) c.args.device (idle a).0)

-- it told a process something
told : (c : In-Ok) → DeviceTold (board_parts c.self.inside.state) c.args.device c.in-Ok.answer.to.slot
    c.act.new.printed.items c.act.new.self.home c.act.new.self.drivers
told c = rw c.in-Ok.is at (c.act.ensures.acts (board_parts c.self.inside.state)
    (are_parts c.self.inside.state c.self.invariant))

-- the change of its process
change : (c : In-Ok) → ChangesSlot c.in-Ok.answer.to.slot c.self.inside.state.machine.home c.act.new.self.home
    c.self.inside.state.processes.items c.self.inside.state.processes.items
change c = told_at c.self.invariant (told c)

pub look_at-requires-clause-owns : goal.look_at-requires-clause-owns
look_at-requires-clause-owns c =
    owns_after (change (goal.at.look_at-requires-clause-owns c).In-Ok) c.self.invariant.owns
    ∙ ap length (sym c.deref.ensures.value)

pub look_at-requires-clause-others : goal.look_at-requires-clause-others
look_at-requires-clause-others c =
    rw (c.deref.ensures.value, c.act.ensures.rest)
    (others_stay_ready (change (goal.at.look_at-requires-clause-others c).In-Ok) c.self.inside.state.machine.ready
    c.self.invariant.ready)

-- The machine once the process and its alarm are looked at again is that of the act, and the rest is the board's.
pub forget_fired-requires-clause-others : goal.forget_fired-requires-clause-others
forget_fired-requires-clause-others c =
    rw (c.look_at.ensures.rest, c.act.ensures.rest)
    (others_still c.self.invariant (told (goal.at.forget_fired-requires-clause-others c).In-Ok))

pub forget_fired-requires-clause-fired : goal.forget_fired-requires-clause-fired
forget_fired-requires-clause-fired c fires = rw c.look_at.ensures.rest (rw c.in-Ok.is at (c.act.ensures.disarmed fires))

pub forget_fired-requires-clause-kept : goal.forget_fired-requires-clause-kept
forget_fired-requires-clause-kept c other =
    rw (c.look_at.ensures.rest, c.act.ensures.rest)
    (all_still c.self.invariant (told (goal.at.forget_fired-requires-clause-kept c).In-Ok)
    c.answers_leave_alarms.ensures other)

pub look_ahead-self-inside-requires-clause-time : goal.look_ahead-self-inside-requires-clause-time
look_ahead-self-inside-requires-clause-time c =
    let holds = c.self.invariant.machine in
    rw (c.forget_fired.ensures.rest, c.look_at.ensures.rest, c.act.ensures.rest)
    (omega (arith, holds.time, holds.steps))

pub look_ahead-self-inside-requires-clause-free : goal.look_ahead-self-inside-requires-clause-free
look_ahead-self-inside-requires-clause-free c =
    rw (c.forget_fired.ensures.rest, c.look_at.ensures.rest, c.act.ensures.rest)
    (told (goal.at.look_ahead-self-inside-requires-clause-free c).In-Ok).serves.lines_ready.free

pub invariant_of-self-2 : goal.invariant_of-self-2
invariant_of-self-2 c =
    rw (c.forget_fired.ensures.rest, c.look_at.ensures.rest, c.act.ensures.rest)
    (told_board c.self.invariant (told (goal.at.invariant_of-self-2 c).In-Ok) c.look_ahead-self-inside.result
    c.forget_fired.new.self.alarms c.look_at.new.self.ready (rw (← c.self.view_is) at c.requires.limit)
    (rw (c.forget_fired.ensures.rest, c.look_at.ensures.rest, c.act.ensures.rest) at c.forget_fired.ensures.tell)
    (rw c.deref.ensures.value at c.look_at.ensures.tell)
    (rw (c.forget_fired.ensures.rest, c.look_at.ensures.rest, c.act.ensures.rest) at
    c.look_ahead-self-inside.ensures.calm))

pub returns : goal.returns
returns c =
    let t = told (goal.at.returns c).In-Ok in
    made_so c.self.view_is (may_tell c.self.invariant t (rw (← c.self.view_is) at c.requires.limit))
    (rw (c.forget_fired.ensures.rest, c.look_at.ensures.rest, c.act.ensures.rest)
    (world_told c.self.invariant t c.devices_answer_one.ensures))
    (c.show.ensures ∙ told_shown c.self.invariant t c.devices_answer_one.ensures c.requires.tells)
