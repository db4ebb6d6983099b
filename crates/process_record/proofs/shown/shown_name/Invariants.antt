use Rattle.std.proofs.Common.{◌≡◌, map, take}
use Rattle.process_record.specs.Parts.{glyph}
use Rattle.process_record.proofs.shown.shown_name.Given as goal

abbrev pub invariant-loop-byte : goal.invariant-loop-byte
invariant-loop-byte l = l.text.items ≡ map glyph (take l.byte-index l.name)
