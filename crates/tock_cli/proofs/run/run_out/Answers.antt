use Rattle.std.proofs.Common.{◌++◌}
use Rattle.kernel_model.specs.Run.{round, printed}
use Rattle.run_text.specs.RunText.{ending_text, run_text}
use Rattle.tock_cli.specs.RunWriter.{telling_of, total_text}
use Rattle.tock_cli.proofs.RunWriter.{text_in}
use Rattle.tock_cli.proofs.run.run_out.Goals as goal

pub returns-in_err-telling-clause-text : goal.returns-in_err-telling-clause-text
unfolding run_text
returns-in_err-telling-clause-text g c =
    let law = c.writes_compose.ensures in
    let r = round c.args.turns c.args.board.now in
    let end = ending_text r.world in
    let told = rw c.new-buffer.ensures at c.in_err-telling.ensures.text in
    rw (← text_in c.args.mode c.args.turns c.args.board.now end)
    (law.writes_part _ c.from_residual.ensures.0
    (law.part_of_more (total_text (telling_of c.args.mode r.world (printed r.labels)) ++ end) told))

pub returns-clause-text : goal.returns-clause-text
unfolding run_text
returns-clause-text g c =
    let law = c.puts_compose.ensures in
    let r = round c.args.turns c.args.board.now in
    let end = ending_text r.world in
    let last = c.in_ok-telling.ensures.last in
    let told = rw c.new-buffer.ensures at c.in_ok-telling.ensures.text in
    let finished = rw (c.in_ok-telling.ensures.kept, last) at c.finish.ensures in
    rw (← text_in c.args.mode c.args.turns c.args.board.now end)
    (law.put_then_writes _ (total_text (telling_of c.args.mode r.world (printed r.labels)) ++ end) _ told finished)
