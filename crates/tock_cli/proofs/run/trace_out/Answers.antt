use Rattle.tock_cli.proofs.Running.{put_and_flushed}
use Rattle.tock_cli.proofs.RunWriter.{traced}
use Rattle.tock_cli.proofs.run.trace_out.Goals as goal

pub returns-in_err-_telling-clause-text : goal.returns-in_err-_telling-clause-text
returns-in_err-_telling-clause-text g c =
    let told = rw c.new-buffer.ensures at c.in_err-_telling.ensures.text in
    rw (← traced c.args.turns c.args.board.now)
    (c.writes_compose.ensures.writes_part _ c.from_residual.ensures.0 told)

pub returns-clause-text : goal.returns-clause-text
returns-clause-text g c =
    let told = rw c.new-buffer.ensures at c.in_ok-_telling.ensures.text in
    rw (← traced c.args.turns c.args.board.now)
    (put_and_flushed c.puts_compose.ensures c.flush.new.out c.flush.result told c.flush.ensures.text)
