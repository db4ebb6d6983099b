use Rattle.kernel_laws.proofs.Turns.{ready_processes_have_turns}
use Rattle.kernel_laws.proofs.rounds.ready_processes_have_turns.Goals as goal

pub returns : goal.returns
returns c = ready_processes_have_turns c.ready_has_turn.ensures
