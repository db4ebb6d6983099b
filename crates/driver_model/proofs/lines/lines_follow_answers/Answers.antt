use Rattle.driver_model.proofs.Answering.{lines_follow_answers}
use Rattle.driver_model.proofs.lines.lines_follow_answers.Goals as goal

pub returns : goal.returns
returns c = lines_follow_answers
