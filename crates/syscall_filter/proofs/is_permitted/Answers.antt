use Rattle.std.proofs.Common.{Option, option_map, ap, sym, ◌∙◌}
use Rattle.tbf_headers.specs.Shown.{permissions_shown}
use Rattle.syscall_abi.specs.Forms.{form_of}
use Rattle.syscall_filter.specs.Permission.{permitted}
use Rattle.syscall_filter.proofs.is_permitted.Goals as goal

-- by the list
pub returns-in-Some : goal.returns-in-Some
returns-in-Some c =
    c.lists_call.ensures c.args.strict
    ∙ ap (λ (o : Option _). permitted c.args.strict (option_map permissions_shown o) (form_of c.args.call.now))
    (sym c.in-Some.is)
