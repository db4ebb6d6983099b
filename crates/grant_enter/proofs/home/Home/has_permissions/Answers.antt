use Rattle.std.proofs.Common.{rules}
use Rattle.grant_enter.proofs.Moves.{Reads, told_permissions}
use Rattle.grant_enter.proofs.home.Home.has_permissions.Goals as goal
use Rattle.grant_enter.proofs.home.Home.has_permissions.Goals.{After-index-2}

-- the seat of the slot
reads : (c : After-index-2) → Reads c.self.inside c.args.self.now c.args.slot c.index.result c.index-2.result.now
reads c = search rules

pub returns : goal.returns
returns c = told_permissions (reads (goal.at.returns c).After-index-2)
