use Rattle.std.proofs.Common.{◌==◌, ◌∙◌, rules, tests}
use Rattle.std.proofs.lemmas.Iterator.{YieldsList-from_slice}
use Rattle.std.proofs.lemmas.Iterator.Search.{find_from_yields_List}
use Rattle.flash_walk.specs.declared.found.Found.{Found}
use Rattle.image_make.proofs.edits.object_in.Goals as goal

pub returns : goal.returns
returns c =
    let first = find_from_yields_List (λ (f : Found). f.offset == c.args.offset) _ _ c.find.result c.find.ensures.ran
    (YieldsList-from_slice c.args.found.now cc) (λ x b q k. search (rules, tests)) in
    c.copied.ensures ∙ first
