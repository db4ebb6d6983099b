use Rattle.kernel_laws.proofs.Inputs.{input_is_kept, rings_have_the_last}
use Rattle.kernel_laws.proofs.steps.input_is_kept.Goals as goal

pub returns-clause-kept : goal.returns-clause-kept
returns-clause-kept c = input_is_kept

pub returns-clause-rings : goal.returns-clause-rings
returns-clause-rings c = rings_have_the_last
