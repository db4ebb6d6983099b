use Rattle.rv32_model.proofs.Denials.{calls_are_of_ecall, denials_are_due}
use Rattle.rv32_model.proofs.laws.denials_are_due.Goals as goal

pub returns-clause-denials : goal.returns-clause-denials
returns-clause-denials c = denials_are_due

pub returns-clause-calls : goal.returns-clause-calls
returns-clause-calls c = calls_are_of_ecall
