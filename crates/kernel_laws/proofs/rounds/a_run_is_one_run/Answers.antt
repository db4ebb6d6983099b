use Rattle.kernel_laws.proofs.OneRun.{chosen_are_ready, is_done_where_nothing_is_left, one_run}
use Rattle.kernel_laws.proofs.rounds.a_run_is_one_run.Goals as goal

pub returns-clause-one : goal.returns-clause-one
returns-clause-one c = one_run

pub returns-clause-ready : goal.returns-clause-ready
returns-clause-ready c = chosen_are_ready c.an_alarm_is_due_where_no_ticks_are_left.ensures

pub returns-clause-done : goal.returns-clause-done
returns-clause-done c = is_done_where_nothing_is_left
