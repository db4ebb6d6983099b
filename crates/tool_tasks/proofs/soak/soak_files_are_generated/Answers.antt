use Rattle.std.proofs.Common.{refl}
use Rattle.tool_tasks.proofs.soak.soak_files_are_generated.Goals as goal

pub returns : goal.returns
returns c = λ number. record { flash = refl; script = refl }
