use Rattle.std.proofs.Common.{rules}
use Rattle.std.proofs.Common.{sym}
use Rattle.grant_enter.proofs.Moves.{Reads, whole_layout}
use Rattle.grant_enter.proofs.home.Home.layout.Goals as goal
use Rattle.grant_enter.proofs.home.Home.layout.Goals.{After-index-2}

-- the seat of the slot
reads : (c : After-index-2) → Reads c.self.inside c.args.self.now c.args.slot c.index.result c.index-2.result.now
reads c = search rules

pub returns : goal.returns
returns c = sym (whole_layout (reads (goal.at.returns c).After-index-2))
