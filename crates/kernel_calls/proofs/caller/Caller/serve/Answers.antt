use Rattle.std.proofs.Common.{◌∙◌}
use Rattle.kernel_calls.specs.Called.{record_of}
use Rattle.kernel_calls.proofs.Drivers.{no_driver}
use Rattle.kernel_calls.proofs.caller.Caller.serve.Goals as goal

pub returns-in-Command-clause-serves : goal.returns-in-Command-clause-serves
returns-in-Command-clause-serves c = λ around beside.
    no_driver around (record_of c.args.self.now beside) c.args.form.now c.in-Command.driver c.in-Command.command
    c.in-Command.a2 c.in-Command.a3 c.in-Command.is c.requires.form
    ∙ c.give.ensures.serves beside
