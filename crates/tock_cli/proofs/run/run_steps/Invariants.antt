use Rattle.std.proofs.Common.{◌-◌, ◌<◌}
use Rattle.tock_cli.proofs.Running.{RunsOn}
use Rattle.tock_cli.proofs.run.run_steps.Given as goal

abbrev pub invariant-loop-made : goal.invariant-loop-made
invariant-loop-made g l = record {
  on : RunsOn g.K.Sink.tells l.fn.mode l.turns l.made l.fn.board l.board l.fn.out l.out l.fn.buffer l.buffer l.telling;
  some : l.gathered < 200000;
}

abbrev pub decreases-loop-made : goal.decreases-loop-made
decreases-loop-made g l = l.turns - l.made
