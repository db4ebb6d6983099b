use Rattle.kernel_model.specs.Shown.{summary_of}
use Rattle.board_report.specs.Report.{report_text}
use Rattle.run_text.specs.RunText.{ending_text}
use Rattle.run_text.specs.Parts.{run_end_of}
use Rattle.tock_cli.proofs.run.write_end_of_run.Goals as goal

pub returns-in_err-put_all : goal.returns-in_err-put_all
unfolding ending_text run_end_of
returns-in_err-put_all g c =
    let law = c.writes_compose.ensures in
    let w = c.args.board.now in
    let e = c.in_err-put_all.ensures in
    law.writes_part _ c.from_residual.ensures.0 (law.part_of_more (report_text (summary_of w) (run_end_of w)) e)

pub returns : goal.returns
unfolding ending_text run_end_of
returns g c =
    let law = c.writes_compose.ensures in
    let w = c.args.board.now in
    let head = c.in_ok-put_all.ensures in
    law.all_then_writes _ (report_text (summary_of w) (run_end_of w)) _ head
    (rw (c.summary.ensures, c.end_of_run.ensures) at c.write_report.ensures)
