use Rattle.driver_model.proofs.Keeping.{only_drivers_move_lines}
use Rattle.driver_model.proofs.lines.only_drivers_move_lines.Goals as goal

pub returns : goal.returns
returns c = only_drivers_move_lines
