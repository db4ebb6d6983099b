use Rattle.std.proofs.Common.{◌+◌, ◌<◌, ◌^◌, arith}
use Rattle.std.proofs.lemmas.List.Elements.{All-weaker}
use Rattle.process_model.specs.Own.{Own}
use Rattle.kernel_calls.specs.Residents.{HasLost}
use Rattle.board_turns.proofs.machine.Machine.answer_alarm.Goals as goal

pub answer_by-requires-clause-dropped : goal.answer_by-requires-clause-dropped
answer_by-requires-clause-dropped c =
    All-weaker (HasLost c.args.self.now.moment.steps) (λ (own : Own). own.inbox.dropped + 1 < 2 ^ 32)
    (λ own lost. omega (arith, lost, c.requires.limit)) c.args.self.now.home.owns c.requires.machine.lost

pub answer_by-requires-clause-tell : goal.answer_by-requires-clause-tell
answer_by-requires-clause-tell c =
    rw c.tick-tick.ensures c.requires.machine.alarms

-- who is served, and what the clock shows, are those of the moment
pub returns-clause-answers : goal.returns-clause-answers
returns-clause-answers c =
    rw (c.tick-tick.ensures, c.served-only.ensures.only) at c.answer_by.ensures.answers
