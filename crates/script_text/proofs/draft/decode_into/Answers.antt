use Rattle.std.proofs.Common.{length}
use Rattle.script_text.proofs.HexDigits.{put_bytes}
use Rattle.script_text.proofs.draft.decode_into.Goals as goal

pub returns : goal.returns
returns c = put_bytes c.args.word.now (length c.args.bytes.now) c.decode_to_slice.new.out c.decode_to_slice.result
    c.requires.digits c.requires.size c.decode_to_slice.ensures.value
