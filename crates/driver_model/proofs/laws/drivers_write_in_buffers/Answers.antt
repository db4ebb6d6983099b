use Rattle.driver_model.proofs.Bytes.{answers_write_in_buffers, commands_write_in_buffers}
use Rattle.driver_model.proofs.laws.drivers_write_in_buffers.Goals as goal

pub returns-clause-commands : goal.returns-clause-commands
returns-clause-commands c = commands_write_in_buffers c.only_writes_change_bytes.ensures

pub returns-clause-answers : goal.returns-clause-answers
returns-clause-answers c = answers_write_in_buffers c.only_writes_change_bytes.ensures
