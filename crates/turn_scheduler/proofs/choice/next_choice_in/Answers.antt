use Rattle.turn_scheduler.proofs.choice.next_choice_in.Goals as goal

pub next_in_calm-requires-clause-none : goal.next_in_calm-requires-clause-none
next_in_calm-requires-clause-none g c = cc (c.ready_device.ensures, c.in_default.is)
