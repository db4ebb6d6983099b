use Rattle.std.proofs.Common.{ap, sym, ◌∙◌}
use Rattle.tk_base.specs.declared.call.ErrorCode.{ErrorCode}
use Rattle.syscall_abi.specs.declared.reply.Reply.TheVariants.{Failure}
use Rattle.kernel_model.specs.Parts.{with_process}
use Rattle.kernel_model.specs.Calls.{driver_answered, refused_with}
use Rattle.kernel_calls.proofs.replies.give.Goals as goal

pub returns-in-Err-clause-gives : goal.returns-in-Err-clause-gives
returns-in-Err-clause-gives c = λ r.
    let s = with_process r c.args.process.now in
    ap (driver_answered s) c.in-Err.is
    ∙ ap (λ (e : ErrorCode). refused_with s c.in-Err.rule (Failure e)) (sym c.error.ensures)
    ∙ c.refuse.ensures.refuses r
