use Rattle.std.proofs.Common.{◌∙◌}
use Rattle.swap_tables.proofs.Held.{held}
use Rattle.swap_tables.proofs.pairs.pair_held.Goals as goal

pub pair_at-requires : goal.pair_at-requires
pair_at-requires c =
    let h = held c.words_in_bytes.ensures c.pairs_are_found.ensures c.first_word.result c.args.kind c.args.driver
    c.args.number c.args.counts.now c.args.kernel.now c.in-Some.found c.requires.laid c.in-Some.ensures.area
    c.requires.pair c.first_word.ensures in
    h.within

pub returns-in-Some : goal.returns-in-Some
returns-in-Some c =
    let h = held c.words_in_bytes.ensures c.pairs_are_found.ensures c.first_word.result c.args.kind c.args.driver
    c.args.number c.args.counts.now c.args.kernel.now c.in-Some.found c.requires.laid c.in-Some.ensures.area
    c.requires.pair c.first_word.ensures in
    c.pair_at.ensures ∙ h.read
