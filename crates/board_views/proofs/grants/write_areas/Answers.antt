use Rattle.std.proofs.Common.{◌≡◌, ◌<◌, length, arith}
use Rattle.std.proofs.lemmas.Bool.Decides.{nat_tests}
use Rattle.board_views.proofs.Granted.{all_lines, first_left, line_more, line_part, no_lines, none_left, shorter}
use Rattle.board_views.proofs.grants.write_areas.Goals as goal

pub loop-rest-init : goal.loop-rest-init
loop-rest-init g c = no_lines c.writes_compose.ensures _ c.args.slot c.args.kernel.now c.requires.laid

pub word_at-requires : goal.word_at-requires
word_at-requires g c =
    let some : 0 < length c.loop-rest.rest.now = grind (arith, nat_tests) in
    (first_left c.words_in_bytes.ensures c.what_is_laid_is_read_back.ensures c.loop-rest.invariant some).enough

pub split_at-requires : goal.split_at-requires
split_at-requires g c =
    let some : 0 < length c.loop-rest.rest.now = grind (arith, nat_tests) in
    let first = first_left c.words_in_bytes.ensures c.what_is_laid_is_read_back.ensures c.loop-rest.invariant some in
    rw c.word_at.ensures first.within

pub returns-in_err-write_area : goal.returns-in_err-write_area
returns-in_err-write_area g c =
    let law = c.writes_compose.ensures in
    let so = c.loop-rest.invariant in
    let some : 0 < length c.loop-rest.rest.now = grind (arith, nat_tests) in
    let first = first_left c.words_in_bytes.ensures c.what_is_laid_is_read_back.ensures so some in
    law.writes_part _ c.from_residual.ensures.0 (line_part law so first _ _ _ c.word_at.ensures
    c.split_at.ensures.front c.split_at.ensures.back c.in_err-write_area.ensures)

pub loop-rest-smaller : goal.loop-rest-smaller
loop-rest-smaller g c =
    let some : 0 < length c.loop-rest.rest.now = grind (arith, nat_tests) in
    let first = first_left c.words_in_bytes.ensures c.what_is_laid_is_read_back.ensures c.loop-rest.invariant some in
    shorter first c.word_at.result c.split_at.result.1.now c.word_at.ensures c.split_at.ensures.back

pub loop-rest-preserved : goal.loop-rest-preserved
loop-rest-preserved g c =
    let law = c.writes_compose.ensures in
    let so = c.loop-rest.invariant in
    let some : 0 < length c.loop-rest.rest.now = grind (arith, nat_tests) in
    let first = first_left c.words_in_bytes.ensures c.what_is_laid_is_read_back.ensures so some in
    line_more law so first _ _ _ c.word_at.ensures c.split_at.ensures.front c.split_at.ensures.back
    c.in_ok-write_area.ensures

pub returns : goal.returns
returns g c =
    let so = c.loop-rest.invariant in
    let none : length c.loop-rest.rest.now ≡ 0 = grind (arith, nat_tests) in
    all_lines c.writes_compose.ensures so (none_left c.words_in_bytes.ensures c.what_is_laid_is_read_back.ensures
    c.loop-rest.rest.now so.left so.sound so.bytes none)
