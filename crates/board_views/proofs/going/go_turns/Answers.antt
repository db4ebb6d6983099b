use Rattle.board_views.proofs.Turning.{first_with_turns}
use Rattle.board_views.proofs.going.go_turns.Goals as goal

pub returns-clause-first : goal.returns-clause-first
returns-clause-first c =
    first_with_turns c.args.most c.args.slot c.args.turns c.args.board.now _ c.make_turns.ensures
