use Rattle.std.proofs.Common.{Option, ap, ◌∙◌}
use Rattle.tk_base.specs.declared.call.CallRule.{CallRule}
use Rattle.kernel_model.specs.Parts.{with_process}
use Rattle.kernel_calls.specs.Given.{given}
use Rattle.kernel_calls.proofs.replies.give_reply.Goals as goal

pub returns-in-Some-clause-gives : goal.returns-in-Some-clause-gives
returns-in-Some-clause-gives c = λ r.
    ap (λ (rule : Option CallRule). given (with_process r c.args.process.now) (c.args.reply, rule)) c.in-Some.is
    ∙ c.refuse.ensures.refuses r
