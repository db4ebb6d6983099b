use Rattle.std.proofs.Common.{◌∙◌, arith}
use Rattle.kernel_calls.specs.Called.{record_of}
use Rattle.kernel_calls.proofs.Starts.{no_exit}
use Rattle.kernel_calls.proofs.caller.Caller.exit.Goals as goal

pub returns-in_default-clause-serves : goal.returns-in_default-clause-serves
returns-in_default-clause-serves c = λ beside.
    no_exit (record_of c.args.self.now beside) c.args.kind c.args.code (omega arith) (omega arith)
    ∙ c.give.ensures.serves beside
