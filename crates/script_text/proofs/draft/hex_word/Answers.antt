use Rattle.std.proofs.Common.{◌≡◌, Ok, Err, Some}
use Rattle.hex.specs.Hex.{decode_sized}
use Rattle.script_text.proofs.HexDigits.{fixed_digits, decoded, is_decoded}
use Rattle.script_text.proofs.draft.hex_word.Goals as goal

pub returns-in-Ok : goal.returns-in-Ok
returns-in-Ok c =
    let w = c.args.word.now in
    let e : decode_sized w 4 ≡ Ok c.in-Ok.bytes = cc in
    rw (decoded w 4 c.in-Ok.bytes (fixed_digits 8 w c.requires) e) c.from_be_bytes.ensures

pub returns-in-Err : goal.returns-in-Err
returns-in-Err c =
    let w = c.args.word.now in
    let e : decode_sized w 4 ≡ Err c.in-Err.field-0 = cc in
    absurd (is_decoded (Some 8) w 4 c.in-Err.field-0 c.requires (fixed_digits 8 w c.requires) e)
