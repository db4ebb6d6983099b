use Rattle.std.proofs.Common.{◌+◌, drop}
use Rattle.board_report.specs.Trace.{registers_text}
use Rattle.board_report.specs.Parts.{register_text}
use Rattle.board_report.proofs.Parts.{part_between, texts_around}
use Rattle.board_report.proofs.trace.write_registers.Goals as goal

pub returns-in_err-write_register : goal.returns-in_err-write_register
returns-in_err-write_register g c =
    let law = c.writes_compose.ensures in
    let registers = c.args.registers.now in
    let i = c.loop-register.register-index in
    let parts = texts_around register_text registers i _ c.loop-register-test.true in
    law.writes_part _ c.from_residual.ensures.0 (part_between law (registers_text (drop
    (i + 1) registers)) (registers_text registers) parts c.loop-register.invariant c.in_err-write_register.ensures)
