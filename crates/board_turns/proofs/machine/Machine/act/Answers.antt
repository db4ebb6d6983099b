-- A device acts: the arm of each device hands what its capsule promised to that device's lemma of `Acts`, which makes
-- `Acted` of it. What it asks is that whoever is first in the line may be told, which holds below the limit of steps.
use Rattle.std.proofs.Common.{ap, ◌∙◌}
use Rattle.kernel_model.specs.Named.{lane_by}
use Rattle.tk_base.specs.declared.process.Dev.TheVariants.{Alarm, Uart, Receive, Random, Store}
use Rattle.driver_model.specs.Commands.{Writes, Reads, Randoms, Stores}
use Rattle.board_drivers.proofs.Acts.{acted_by, acts_alarmed, acts_drawn, acts_received, acts_sent, acts_stored}
use Rattle.board_drivers.proofs.Serving.{first_may_be_told}
use Rattle.board_turns.specs.declared.machine.Machine.{Machine}
use Rattle.board_turns.proofs.machine.Machine.act.Goals as goal
use Rattle.board_turns.proofs.machine.Machine.act.Goals.{After-answer_alarm}
use Rattle.board_drivers.specs.Parts.{BoardParts}

-- the parts of a board that has the machine
abbrev here : Machine → BoardParts → BoardParts
here x b = record b { moment = x.moment; home = x.home; drivers = x.drivers }

pub transmit-requires-clause-told : goal.transmit-requires-clause-told
transmit-requires-clause-told c =
    first_may_be_told _ Writes _ _ _ _ _ c.requires.machine.driven c.requires.machine.lost c.requires.limit

pub receive-requires : goal.receive-requires
receive-requires c = record {
  told = first_may_be_told _ Reads _ _ _ _ _ c.requires.machine.driven c.requires.machine.lost c.requires.limit;
}

pub answer-requires : goal.answer-requires
answer-requires c =
    first_may_be_told _ Randoms _ _ _ _ _ c.requires.machine.driven c.requires.machine.lost c.requires.limit

pub answer-requires-in-Store-clause-told : goal.answer-requires-in-Store-clause-told
answer-requires-in-Store-clause-told c =
    first_may_be_told _ Stores _ _ _ _ _ c.requires.machine.driven c.requires.machine.lost c.requires.limit

-- an alarm that fires leaves the drivers
pub returns-in-Alarm-clause-acts : goal.returns-in-Alarm-clause-acts
returns-in-Alarm-clause-acts c b h =
    acted_by _ _ Alarm _ _ _ _ c.in-Alarm.is
    (rw (ap (λ (m : Machine). m.drivers) c.answer_alarm.ensures.rest)
    (acts_alarmed (here c.args.self.now b) h _ _ c.lines_follow_answers.ensures c.a_due_slot_is_there.ensures
    c.answer_alarm.ensures.answers c.args.printed.now.items c.requires.empty))

pub returns-in-Alarm-clause-rest : goal.returns-in-Alarm-clause-rest
returns-in-Alarm-clause-rest c = rw c.answer_alarm.ensures.rest

pub returns-in-Uart-clause-acts : goal.returns-in-Uart-clause-acts
returns-in-Uart-clause-acts c b h =
    let does = c.transmit.ensures in
    acted_by _ _ Uart _ _ _ _ c.in-Uart.is
    (acts_sent (here c.args.self.now b) h _ _ c.transmit.new.self c.transmit.new.uart c.transmit.new.printed
    c.lines_follow_answers.ensures c.events_tell_steps.ensures c.reads_own_flash.ensures
    c.held_buffers_lie_in_place.ensures c.args.printed.now c.requires.empty _ _ _ c.served-served.ensures.only
    (c.lane-lane.ensures ∙ ap lane_by c.served-served.ensures.only) c.at-uart.ensures.value does.ready
    does.answers does.uart does.reads)

pub returns-in-Receive-clause-acts : goal.returns-in-Receive-clause-acts
returns-in-Receive-clause-acts c b h =
    let does = c.receive.ensures in
    acted_by _ _ Receive _ _ _ _ c.in-Receive.is
    (acts_received (here c.args.self.now b) h _ _ c.receive.new.self c.receive.new.uart
    c.lines_follow_answers.ensures c.events_tell_steps.ensures c.args.printed.now.items c.requires.empty _ _ _
    c.served-served.ensures.only (c.lane-lane.ensures ∙ ap lane_by c.served-served.ensures.only)
    c.at-line.ensures.value does.ready does.answers does.writes)

pub returns-in-Random-clause-acts : goal.returns-in-Random-clause-acts
returns-in-Random-clause-acts c b h =
    let does = c.answer.ensures in
    acted_by _ _ Random _ _ _ _ c.in-Random.is
    (acts_drawn (here c.args.self.now b) h _ _ c.answer.new.self c.answer.new.words
    c.lines_follow_answers.ensures c.events_tell_steps.ensures c.args.printed.now.items c.requires.empty _ _ _
    c.served-served.ensures.only (c.lane-lane.ensures ∙ ap lane_by c.served-served.ensures.only)
    c.at-words.ensures.value does.none does.answers)

pub returns-in-Store-clause-acts : goal.returns-in-Store-clause-acts
returns-in-Store-clause-acts c b h =
    let does = c.answer-in-Store.ensures in
    acted_by _ _ Store _ _ _ _ c.in-Store.is
    (acts_stored (here c.args.self.now b) h _ _ c.answer-in-Store.new.self c.answer-in-Store.new.stores
    c.lines_follow_answers.ensures c.reads_own_flash.ensures c.held_buffers_lie_in_place.ensures
    c.args.printed.now.items c.requires.empty _ c.served-served.ensures.only does.none does.answers)
