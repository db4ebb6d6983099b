use Rattle.std.proofs.Common.{◌+◌, drop}
use Rattle.tk_outside.specs.Text.{hex_digits}
use Rattle.board_report.specs.Parts.{bytes_text}
use Rattle.board_report.proofs.Parts.{part_between, texts_around}
use Rattle.board_report.proofs.trace.write_bytes.Goals as goal

pub returns-in_err-put_hex : goal.returns-in_err-put_hex
returns-in_err-put_hex g c =
    let law = c.writes_compose.ensures in
    let bytes = c.args.bytes.now in
    let i = c.loop-byte.byte-index in
    let e = c.in_err-put_hex.ensures in
    let parts = texts_around (hex_digits 2) bytes i _ c.loop-byte-test.true in
    law.writes_part _ c.from_residual.ensures.0 (part_between law (bytes_text (drop (i + 1) bytes))
    (bytes_text bytes) parts c.loop-byte.invariant (rw c.from.ensures at e))
