use Rattle.board_turns.proofs.TurnsKept.{noted_ready}
use Rattle.board_turns.proofs.machine.Machine.look_at.Goals as goal

pub returns-clause-tell : goal.returns-clause-tell
returns-clause-tell c =
    rw c.note.ensures.noted (noted_ready _ _ _ _ c.note.ensures.there c.can_run.ensures c.requires.others)
