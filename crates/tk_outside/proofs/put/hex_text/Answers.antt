use Rattle.std.proofs.Common.{arith}
use Rattle.std.proofs.lemmas.Grind.{common_steps}
use Rattle.tk_outside.specs.Text.{hex_digits}
use Rattle.tk_outside.proofs.put.hex_text.Goals as goal

pub returns : goal.returns
unfolding hex_digits
returns c = grind (arith, common_steps)
