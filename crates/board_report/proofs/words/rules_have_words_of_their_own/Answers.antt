use Rattle.board_report.proofs.OwnWords.{rules_have_words_of_their_own}
use Rattle.board_report.proofs.words.rules_have_words_of_their_own.Goals as goal

pub returns : goal.returns
returns c = rules_have_words_of_their_own
