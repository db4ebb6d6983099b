use Rattle.kernel_model.proofs.Runs.{lies_ahead, next_ready}
use Rattle.kernel_model.proofs.laws.next_is_ready.Goals as goal

pub returns-clause-ready : goal.returns-clause-ready
returns-clause-ready c =
    λ w choice is below. next_ready w choice c.an_alarm_is_due_where_no_ticks_are_left.ensures is below

pub returns-clause-ahead : goal.returns-clause-ahead
returns-clause-ahead c = λ w none. lies_ahead w c.an_alarm_is_due_where_no_ticks_are_left.ensures none
