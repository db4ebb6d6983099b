use Rattle.std.proofs.Common.{◌+◌, drop}
use Rattle.board_report.specs.Report.{unplaced_text}
use Rattle.board_report.specs.Parts.{unplaced_texts}
use Rattle.board_report.proofs.Parts.{part_between, texts_around}
use Rattle.board_report.proofs.report.write_all_unplaced.Goals as goal

pub returns-in_err-write_unplaced : goal.returns-in_err-write_unplaced
returns-in_err-write_unplaced g c =
    let law = c.writes_compose.ensures in
    let e = c.in_err-write_unplaced.ensures in
    law.writes_part _ c.from_residual.ensures.0 (part_between law (unplaced_texts (drop
    (c.loop-app.app-index + 1) c.args.apps.now)) (unplaced_texts c.args.apps.now)
    (texts_around unplaced_text c.args.apps.now c.loop-app.app-index _ c.loop-app-test.true) c.loop-app.invariant e)
