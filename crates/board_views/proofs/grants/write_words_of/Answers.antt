use Rattle.std.proofs.Common.{◌+◌, ◌<◌, length, drop, arith}
use Rattle.grant_values.specs.Words.{words_of}
use Rattle.board_report.proofs.Parts.{part_between, texts_around}
use Rattle.board_views.specs.Lines.{word_text, words_text}
use Rattle.board_views.proofs.Texts.{element_more}
use Rattle.board_views.proofs.grants.write_words_of.Goals as goal

pub returns-in_err-write_word : goal.returns-in_err-write_word
returns-in_err-write_word g c =
    let law = c.writes_compose.ensures in
    let words = words_of c.args.bytes.now in
    let i = c.loop-n.n in
    let within : i < length words =
    omega (arith, c.loop-n-test.true, c.words_in_bytes.ensures.count c.args.bytes.now) in
    law.writes_part _ c.from_residual.ensures.0
    (part_between law (words_text (drop (i + 1) words)) (words_text words) (texts_around word_text words i 0 within)
    c.loop-n.invariant (rw c.word_at.ensures at c.in_err-write_word.ensures))

pub loop-n-preserved : goal.loop-n-preserved
loop-n-preserved g c =
    let law = c.writes_compose.ensures in
    let words = words_of c.args.bytes.now in
    let i = c.loop-n.n in
    let within : i < length words =
    omega (arith, c.loop-n-test.true, c.words_in_bytes.ensures.count c.args.bytes.now) in
    rw (element_more word_text words i 0 within)
    (law.all_then_all c.loop-n.invariant (rw c.word_at.ensures at c.in_ok-write_word.ensures))
