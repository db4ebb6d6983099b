use Rattle.kernel_laws.proofs.Ready.{turns_are_of_ready_processes, turns_are_of_those, unready_turns_do_nothing}
use Rattle.kernel_laws.proofs.steps.only_ready_processes_have_turns.Goals as goal

pub returns-clause-ready : goal.returns-clause-ready
returns-clause-ready c = turns_are_of_ready_processes

pub returns-clause-those : goal.returns-clause-those
returns-clause-those c = turns_are_of_those

pub returns-clause-others : goal.returns-clause-others
returns-clause-others c = unready_turns_do_nothing
