use Rattle.kernel_lives.proofs.Loads.{prints_could_be_loaded}
use Rattle.kernel_lives.proofs.Prints.{prints_are_of_buffers}
use Rattle.kernel_lives.proofs.certified.prints_are_of_buffers.Goals as goal

pub returns-clause-prints : goal.returns-clause-prints
returns-clause-prints c = prints_are_of_buffers

pub returns-clause-loads : goal.returns-clause-loads
returns-clause-loads c = prints_could_be_loaded c.owns_stay_whole.ensures.whole
