use Rattle.driver_model.proofs.Follows.{lines_follow_commands}
use Rattle.driver_model.proofs.lines.lines_follow_commands.Goals as goal

pub returns : goal.returns
returns c = lines_follow_commands
