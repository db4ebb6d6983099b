use Rattle.board_views.proofs.Watching.{same_here}
use Rattle.board_views.proofs.goal.+changed_at.Goals as goal

pub returns-then-are_same : goal.returns-then-are_same
returns-then-are_same t c =
    same_here _ _ _ _ _ _ _ _ _ c.in-len1-up.len_at_least c.watched_at-bytes.ensures c.if-kept-bytes.false
    c.split_at.ensures.front c.split_at.ensures.back c.are_same.ensures c.if-are_same.true c.changed_at.ensures
