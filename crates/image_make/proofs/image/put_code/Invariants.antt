use Rattle.std.proofs.Common.{◌≡◌, ◌++◌, take}
use Rattle.image_make.specs.Encoding.{code_bytes}
use Rattle.image_make.proofs.image.put_code.Given as goal

-- what was appended are the words so far
abbrev pub invariant-loop-instruction : goal.invariant-loop-instruction
invariant-loop-instruction l = l.flash.items ≡ l.initial.flash.items ++ code_bytes (take l.instruction-index l.code)
