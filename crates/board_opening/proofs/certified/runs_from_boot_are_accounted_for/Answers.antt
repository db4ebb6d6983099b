use Rattle.kernel_model.specs.Replay.{chosen}
use Rattle.board_opening.specs.Opening.{opening}
use Rattle.board_opening.proofs.certified.runs_from_boot_are_accounted_for.Goals as goal

pub returns : goal.returns
returns c script flash n =
    let w = opening script flash in
    record {
      steps = c.steps_are_accounted_for.ensures.all w (chosen n w)
          (c.changes_from_boot_have_causes.ensures.causes script flash (chosen n w));
      alone = c.a_process_depends_on_its_own_view_alone.ensures.runs script flash n;
    }
