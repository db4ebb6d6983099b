-- The loop that makes a run: it keeps `RunsOn`, and each exit and each way round is one lemma of `Running`. What was
-- gathered is written at its limit, and at the end; where a write fails, what was written is a part of the run's text.
use Rattle.std.proofs.Common.{sym, arith, ◌∙◌}
use Rattle.std.proofs.lemmas.Result.{MatchResult-from_err}
use Rattle.tock_cli.proofs.Running.{begins, flushed, made, made_so, one_more, over, part, room, stretched, unflushed}
use Rattle.tock_cli.proofs.Running.{world_here, world_on}
use Rattle.tock_cli.proofs.run.run_steps.Goals as goal

pub loop-made-init : goal.loop-made-init
loop-made-init g c = record {
  on = begins _ c.args.mode c.args.turns c.args.board.now c.args.out.now c.args.buffer.now c.of-telling.result
      c.puts_compose.ensures c.of-telling.ensures;
  some = omega arith;
}

pub returns-in_default : goal.returns-in_default
returns-in_default g c =
    let quiet = c.run_quietly-quiet.ensures in
    let r = stretched c.loop-made.invariant.on c.rounds_join.ensures (omega (arith, quiet.most)) quiet.stretch
    c.pass.ensures in
    let run = over r.1 (sym quiet.next ∙ c.in_default.is) in
    record { text = run.text; kept = run.kept_is; last = run.last; some = tt }

pub tell-requires : goal.tell-requires
tell-requires g c =
    let quiet = c.run_quietly-quiet.ensures in
    let r = stretched c.loop-made.invariant.on c.rounds_join.ensures (omega (arith, quiet.most)) quiet.stretch
    c.pass.ensures in
    room r.1 r.0 c.ranges.turns.fits

pub returns-in_err-tell-clause-text : goal.returns-in_err-tell-clause-text
returns-in_err-tell-clause-text g c =
    let quiet = c.run_quietly-quiet.ensures in
    let r = stretched c.loop-made.invariant.on c.rounds_join.ensures (omega (arith, quiet.most)) quiet.stretch
    c.pass.ensures in
    MatchResult-from_err c.from_residual.result _ _ c.from_residual.ensures.0
    (λ _. part r.1 c.puts_compose.ensures c.devices_answer_one.ensures r.0 (sym quiet.next ∙ c.in-Some.is)
    c.in-Ok.ensures.makes.shown c.in_err-tell.ensures.text)

pub returns-in_err-tell-clause-some : goal.returns-in_err-tell-clause-some
returns-in_err-tell-clause-some g c =
    let quiet = c.run_quietly-quiet.ensures in
    let r = stretched c.loop-made.invariant.on c.rounds_join.ensures (omega (arith, quiet.most)) quiet.stretch
    c.pass.ensures in
    MatchResult-from_err c.from_residual.result _ _ c.from_residual.ensures.0
    (λ _. world_on r.1 r.0 (sym quiet.next ∙ c.in-Some.is) c.in-Ok.ensures.makes.ok)

pub returns-in_err-flush-clause-text : goal.returns-in_err-flush-clause-text
returns-in_err-flush-clause-text g c =
    let quiet = c.run_quietly-quiet.ensures in
    let r = stretched c.loop-made.invariant.on c.rounds_join.ensures (omega (arith, quiet.most)) quiet.stretch
    c.pass.ensures in
    let told = c.in_ok-tell.ensures in
    let s = one_more r.1 c.puts_compose.ensures c.devices_answer_one.ensures r.0 (sym quiet.next ∙ c.in-Some.is)
    c.in-Ok.ensures.makes.ok c.in-Ok.ensures.makes.shown told.text told.kept told.count in
    MatchResult-from_err c.from_residual-in_err-flush.result _ _ c.from_residual-in_err-flush.ensures.0
    (λ _. unflushed s c.puts_compose.ensures c.flush.new.out c.in_err-flush.ensures.text)

pub returns-in_err-flush-clause-some : goal.returns-in_err-flush-clause-some
returns-in_err-flush-clause-some g c =
    let quiet = c.run_quietly-quiet.ensures in
    let r = stretched c.loop-made.invariant.on c.rounds_join.ensures (omega (arith, quiet.most)) quiet.stretch
    c.pass.ensures in
    let told = c.in_ok-tell.ensures in
    let s = one_more r.1 c.puts_compose.ensures c.devices_answer_one.ensures r.0 (sym quiet.next ∙ c.in-Some.is)
    c.in-Ok.ensures.makes.ok c.in-Ok.ensures.makes.shown told.text told.kept told.count in
    MatchResult-from_err c.from_residual-in_err-flush.result _ _ c.from_residual-in_err-flush.ensures.0
    (λ _. world_here s (omega (arith, r.0)))

pub loop-made-preserved : goal.loop-made-preserved
loop-made-preserved g c =
    let quiet = c.run_quietly-quiet.ensures in
    let r = stretched c.loop-made.invariant.on c.rounds_join.ensures (omega (arith, quiet.most)) quiet.stretch
    c.pass.ensures in
    let told = c.in_ok-tell.ensures in
    let s = one_more r.1 c.puts_compose.ensures c.devices_answer_one.ensures r.0 (sym quiet.next ∙ c.in-Some.is)
    c.in-Ok.ensures.makes.ok c.in-Ok.ensures.makes.shown told.text told.kept told.count in
    record {
      on = made_so s _ (omega arith);
      some = omega (arith, quiet.most);
    }

pub loop-made-preserved-then-gathered-eq-FLUSH_STEPS : goal.loop-made-preserved-then-gathered-eq-FLUSH_STEPS
loop-made-preserved-then-gathered-eq-FLUSH_STEPS g c =
    let quiet = c.run_quietly-quiet.ensures in
    let r = stretched c.loop-made.invariant.on c.rounds_join.ensures (omega (arith, quiet.most)) quiet.stretch
    c.pass.ensures in
    let told = c.in_ok-tell.ensures in
    let s = one_more r.1 c.puts_compose.ensures c.devices_answer_one.ensures r.0 (sym quiet.next ∙ c.in-Some.is)
    c.in-Ok.ensures.makes.ok c.in-Ok.ensures.makes.shown told.text told.kept told.count in
    record {
      on = flushed (made_so s _ (omega arith)) c.puts_compose.ensures c.flush.new.out c.flush.new.self
          c.in_ok-flush.ensures.text c.in_ok-flush.ensures.empty;
      some = omega arith;
    }

pub returns : goal.returns
returns g c =
    let run = made c.loop-made.invariant.on c.loop-made-test.false in
    record { text = run.text; kept = run.kept_is; last = run.last; some = tt }
