use Rattle.std.proofs.Common.{ap, sym, ◌∙◌, rules}
use Rattle.syscall_abi.specs.Forms.{form_of}
use Rattle.kernel_calls.specs.Outcomes.{is_taken}
use Rattle.kernel_calls.proofs.Drivers.{not_permitted, permitted_so}
use Rattle.kernel_calls.proofs.caller.Caller.call.Goals as goal

pub returns-clause-serves : goal.returns-clause-serves
returns-clause-serves c =
    permitted_so c.no_call_is_left.ensures c.args.strict c.args.self.now c.serve.new.self (form_of c.args.call.now)
    c.form-2.result c.serve.result c.form-2.ensures (search rules)
    (ap is_taken c.form-2.ensures ∙ sym c.is_taken.ensures ∙ c.if-is_taken.false) c.serve.ensures.serves

pub returns-then-not-is_permitted-clause-serves : goal.returns-then-not-is_permitted-clause-serves
returns-then-not-is_permitted-clause-serves c =
    not_permitted c.no_call_is_left.ensures c.args.strict c.args.self.now c.refuse.new.self (form_of c.args.call.now)
    c.refuse.result _ (search rules) (search rules) c.refuse.ensures.serves
