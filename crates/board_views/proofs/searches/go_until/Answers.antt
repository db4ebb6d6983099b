use Rattle.board_views.proofs.Seeking.{passes_nothing}
use Rattle.board_views.proofs.searches.go_until.Goals as goal

pub returns-in_err-kept-clause-passed : goal.returns-in_err-kept-clause-passed
returns-in_err-kept-clause-passed c = passes_nothing c.args.most c.args.goal.now c.args.board.now

pub returns-clause-passed : goal.returns-clause-passed
returns-clause-passed c = passes_nothing c.args.most c.args.goal.now c.args.board.now
