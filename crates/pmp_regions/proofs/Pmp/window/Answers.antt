use Rattle.std.proofs.Common.{rules}
use Rattle.pmp_regions.proofs.Windows.{decides_range}
use Rattle.pmp_regions.proofs.Pmp.window.Goals as goal

pub returns : goal.returns
returns c = decides_range _ _ _ c.requires (search rules) (search rules) (search rules)
