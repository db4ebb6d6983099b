use Rattle.std.proofs.Common.{rules}
use Rattle.grant_enter.proofs.Moves.{Reads}
use Rattle.grant_enter.proofs.Moves.{sits_before}
use Rattle.grant_enter.proofs.home.Home.block.Goals as goal

pub block_at-requires : goal.block_at-requires
block_at-requires c =
    let r : Reads c.self.inside c.args.self.now c.args.slot c.index.result c.index-seat.result.now = search rules in
    sits_before r
