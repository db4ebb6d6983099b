use Rattle.kernel_laws.proofs.Words.{words_are_drawn_in_order}
use Rattle.kernel_laws.proofs.steps.words_are_drawn_in_order.Goals as goal

pub returns : goal.returns
returns c = words_are_drawn_in_order c.events_tell_steps.ensures
