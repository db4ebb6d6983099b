-- A command to a driver: the taker is the one that the definition finds (`handler_of`), and the id that of the process
-- in the slot. So what `Drivers::command` promised is what came of it there (`Came`), and the lemmas of `Commands` make
-- the call, the seated process and 'this slot alone' of it.
use Rattle.std.proofs.Common.{◌≡◌, Some, ap, sym, ◌∙◌}
use Rattle.process_record.specs.declared.process.Process.{Process}
use Rattle.syscall_abi.specs.declared.form.CallForm.TheVariants.{Command}
use Rattle.syscall_abi.specs.Forms.{form_of}
use Rattle.driver_model.specs.Drivers.{CommandHandler, handler_of}
use Rattle.grant_enter.specs.Homes.{Homes, own_of}
use Rattle.kernel_calls.specs.Outcomes.{is_taken}
use Rattle.board_drivers.specs.declared.drivers.Order.{Order}
use Rattle.kernel_calls.specs.Residents.{id_of}
use Rattle.board_turns.specs.declared.machine.Machine.{Machine}
use Rattle.board_turns.proofs.Commands.{Came, came, came_in_place, finishes, form_in, living_id, some_of}
use Rattle.board_turns.proofs.Commands.{stays_seated}
use Rattle.std.proofs.lemmas.Bool.{and_parts}
use Rattle.board_turns.proofs.machine.Machine.command_driver.Goals as goal
use Rattle.board_turns.proofs.machine.Machine.command_driver.Goals.{After-give_reply}

-- the command
abbrev order : After-give_reply → Order
order c = c.in-Some.order

-- the call is that command
is_command : (c : After-give_reply)
    → form_of c.args.call.now ≡ Command (order c).driver (order c).number (order c).a2 (order c).a3
is_command c = form_in (form_of c.args.call.now) (order c) (sym c.of.ensures ∙ c.in-Some.is)

-- who takes it
taker : (c : After-give_reply) → (t : CommandHandler) × (handler_of (order c).driver ≡ Some t)
taker c = some_of (handler_of (order c).driver)
    (ap is_taken (sym (is_command c)) ∙ (and_parts _ _ c.requires.left).1)

-- the id is that of the process
known : (c : After-give_reply) → c.in-Some-id.id ≡ id_of c.args.slot (own_of c.args.self.now.home c.args.slot)
known c =
    living_id c.args.slot c.args.slot c.args.self.now.home.owns c.in-Some-id.id
    (sym c.id.ensures ∙ c.in-Some-id.is)

-- the machine once its driver answered
abbrev left : After-give_reply → Machine
left c = record c.args.self.now { home = c.command-reply.new.home; drivers = c.command-reply.new.self }

-- what it answered
answered : (c : After-give_reply)
    → Came c.args.slot c.args.self.now (left c) (order c) c.command-reply.result (taker c).0
answered c =
    came c.args.slot c.args.self.now (left c) (order c) c.command-reply.result (taker c).0 (taker c).1 c.in-Some-id.id
    c.tick-tick.result (known c) c.tick-tick.ensures c.requires.may c.command-reply.ensures.comes

pub returns-clause-serves : goal.returns-clause-serves
returns-clause-serves c =
    let a = (goal.at.returns-clause-serves c).After-give_reply in
    finishes _ _ (left a) (order a) _ (taker a).0 (taker a).1 _ _ _ _ (is_command a) c.requires.left (answered a)
    (ap (λ (p : Process). p.object) c.give_reply.ensures.stays)
    (ap (λ (h : Homes). h.flash) c.command-reply.ensures.rest) c.give_reply.ensures.gives

pub returns-clause-seated : goal.returns-clause-seated
returns-clause-seated c =
    let a = (goal.at.returns-clause-seated c).After-give_reply in
    stays_seated _ _ _ _ _ _ (came_in_place _ c.args.self.now (left a) _ _ _ (taker a).1
    c.commands_stay_in_place.ensures (answered a)) c.give_reply.ensures.stays c.requires.turn.seated

pub returns-clause-only : goal.returns-clause-only
returns-clause-only c =
    rw (known (goal.at.returns-clause-only c).After-give_reply) at c.command-reply.ensures.rest
