use Rattle.kernel_laws.proofs.Windows.{lanes_are_ahead}
use Rattle.kernel_laws.proofs.rounds.next_is_of_the_window.Goals as goal

pub returns-clause-ahead : goal.returns-clause-ahead
returns-clause-ahead c = lanes_are_ahead c.an_alarm_is_due_where_no_ticks_are_left.ensures
