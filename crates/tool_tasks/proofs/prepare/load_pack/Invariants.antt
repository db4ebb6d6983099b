use Rattle.std.proofs.Common.{take}
use Rattle.tool_words.specs.Parts.{argument_bytes}
use Rattle.tool_tasks.proofs.Packing.{PacksOn}
use Rattle.tool_tasks.proofs.prepare.load_pack.Given as goal

-- the files so far were read and packed
abbrev pub invariant-loop-name : goal.invariant-loop-name
invariant-loop-name g l =
    PacksOn g.H.Shelf.tells l.fn.shelf l.shelf (argument_bytes l.files) (argument_bytes (take l.name-index l.files))
    l.objects l.flash.items
