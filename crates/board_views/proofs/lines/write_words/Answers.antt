use Rattle.std.proofs.Common.{◌+◌, drop}
use Rattle.std.specs.List.{flat_map}
use Rattle.board_report.proofs.Parts.{part_between, texts_around}
use Rattle.board_views.specs.Lines.{word_text}
use Rattle.board_views.proofs.lines.write_words.Goals as goal

pub returns-in_err-write_word : goal.returns-in_err-write_word
returns-in_err-write_word g c =
    let law = c.writes_compose.ensures in
    let words = c.args.words.now in
    let i = c.loop-word.word-index in
    law.writes_part _ c.from_residual.ensures.0 (part_between law (flat_map word_text (drop (i + 1) words))
    (flat_map word_text words) (texts_around word_text words i _ c.loop-word-test.true) c.loop-word.invariant
    c.in_err-write_word.ensures)
