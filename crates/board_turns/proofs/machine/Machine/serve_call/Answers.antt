use Rattle.std.proofs.Common.{Option, Some, ap, ap₂, sym, option_map, ◌∙◌}
use Rattle.tk_base.specs.declared.access.Denial.{Denial}
use Rattle.process_record.specs.declared.emit.CallMade.{CallMade}
use Rattle.board_turns.specs.declared.turn.Shown.{Shown}
use Rattle.syscall_abi.specs.Forms.{form_of}
use Rattle.board_turns.proofs.Turns.{call_serves, unknown_faults}
use Rattle.board_turns.specs.Turning.{answered}
use Rattle.board_turns.proofs.machine.Machine.serve_call.Goals as goal

-- a call of an unknown class
pub returns-in_default-clause-serves : goal.returns-in_default-clause-serves
returns-in_default-clause-serves c =
    let f = c.fault_at in
    unknown_faults _ c.args.self.now f.new.self _ _ c.unknown_class-denial.result _
    (sym c.of.ensures.call ∙ ap (option_map form_of) c.in_default.is) c.unknown_class-denial.ensures f.ensures.shown
    f.ensures.settles f.ensures.gone

-- a call that was served
pub returns-clause-serves : goal.returns-clause-serves
returns-clause-serves c =
    let outcome = c.serve-outcome.result in
    let after = c.serve-outcome.new in
    call_serves _ c.args.self.now after.self _ _ _ outcome _
    (sym c.of.ensures.call ∙ ap (option_map form_of) c.in-Some.is) c.serve-outcome.ensures.serves
    c.serve-outcome.ensures.leaves.only
    (ap₂ (λ (made : CallMade) (denial : Option Denial). record { call = Some made; denial = denial })
    (c.call_shown.ensures ∙ ap (λ (call : CallMade). answered call outcome after.process.regs)
    c.call_asked-asked.ensures) (ap (λ (s : Shown). s.denial) c.requires.quiet))
