use Rattle.kernel_lives.proofs.Ended.{free_stays}
use Rattle.kernel_lives.proofs.Lives.{ended_stays, lives_stay}
use Rattle.kernel_lives.proofs.Registers.{registers_stay}
use Rattle.kernel_lives.proofs.certified.processes_live_as_they_run.Goals as goal

pub returns-clause-lives : goal.returns-clause-lives
returns-clause-lives c = lives_stay c.drivers_keep_places_and_order.ensures

pub returns-clause-ended : goal.returns-clause-ended
returns-clause-ended c = ended_stays

pub returns-clause-free : goal.returns-clause-free
returns-clause-free c = free_stays c.drivers_keep_places_and_order.ensures

pub returns-clause-registers : goal.returns-clause-registers
returns-clause-registers c = registers_stay
