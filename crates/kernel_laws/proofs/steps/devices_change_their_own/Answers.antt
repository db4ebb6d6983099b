use Rattle.kernel_laws.proofs.Devices.{devices_change_their_own}
use Rattle.kernel_laws.proofs.steps.devices_change_their_own.Goals as goal

pub returns : goal.returns
returns c = devices_change_their_own
