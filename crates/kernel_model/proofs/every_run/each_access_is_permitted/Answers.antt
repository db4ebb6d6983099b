use Rattle.kernel_model.proofs.Accesses.{each_access_is_permitted, each_denial_is_due, steps_are_guarded}
use Rattle.kernel_model.proofs.every_run.each_access_is_permitted.Goals as goal

pub returns-clause-accesses : goal.returns-clause-accesses
returns-clause-accesses c = each_access_is_permitted c.accesses_are_permitted.ensures c.data_is_aligned.ensures

pub returns-clause-denials : goal.returns-clause-denials
returns-clause-denials c = each_denial_is_due c.denials_are_due.ensures.denials c.denials_are_due.ensures.calls

pub returns-clause-steps : goal.returns-clause-steps
returns-clause-steps c =
    steps_are_guarded c.accesses_are_permitted.ensures c.data_is_aligned.ensures c.denials_are_due.ensures.denials
    c.denials_are_due.ensures.calls
