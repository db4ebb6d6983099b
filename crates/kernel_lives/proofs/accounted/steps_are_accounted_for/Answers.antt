use Rattle.kernel_lives.proofs.Accounts.{steps_are_accounted_for}
use Rattle.kernel_lives.proofs.accounted.steps_are_accounted_for.Goals as goal

pub returns : goal.returns
returns c =
    steps_are_accounted_for c.steps_have_causes.ensures.causes c.each_access_is_permitted.ensures.steps
    c.refusals_change_little.ensures c.prints_are_of_buffers.ensures.prints
    c.edges_schedule_once.ensures.steps c.an_operator_acts_on_one.ensures
