use Rattle.kernel_lives.proofs.Shown.{clocks_are_shown, flags_tell}
use Rattle.kernel_lives.proofs.certified.calls_write_what_they_promise.Goals as goal

pub returns-clause-clocks : goal.returns-clause-clocks
returns-clause-clocks c = clocks_are_shown c.denials_are_due.ensures.calls

pub returns-clause-flags : goal.returns-clause-flags
returns-clause-flags c = flags_tell c.denials_are_due.ensures.calls
