use Rattle.std.proofs.Common.{◌∙◌}
use Rattle.kernel_calls.proofs.Handed.{swap_refused, swap_served}
use Rattle.kernel_calls.proofs.caller.Caller.swap.Goals as goal

pub returns-in-Ok-clause-serves : goal.returns-in-Ok-clause-serves
returns-in-Ok-clause-serves c = λ beside.
    swap_served c.args.self.now c.share.new.self c.args.swap beside c.in-Ok.first c.in-Ok.second
    c.in-Ok.ensures.refusal c.in-Ok.ensures.former c.in-Ok.ensures.handed
    ∙ c.give.ensures.serves beside

pub returns-in-Err-clause-serves : goal.returns-in-Err-clause-serves
returns-in-Err-clause-serves c = λ beside.
    swap_refused c.args.self.now c.share.new.self c.args.swap beside c.in-Err.rule c.failed_swap.result
    c.in-Err.ensures.refusal c.failed_swap.ensures c.in-Err.ensures.refused
    ∙ c.refuse.ensures.serves beside
