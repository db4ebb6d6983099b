use Rattle.kernel_lives.proofs.Given.{answers_are_given}
use Rattle.kernel_lives.proofs.certified.answers_are_what_is_told.Goals as goal

pub returns : goal.returns
returns c = answers_are_given
