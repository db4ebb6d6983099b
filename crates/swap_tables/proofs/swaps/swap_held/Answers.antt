use Rattle.std.proofs.Common.{arith, ◌∙◌}
use Rattle.swap_tables.proofs.Held.{held}
use Rattle.swap_tables.proofs.swaps.swap_held.Goals as goal

pub pair_at-former-requires : goal.pair_at-former-requires
pair_at-former-requires c =
    let h = held c.words_in_bytes.ensures c.pairs_are_found.ensures c.first_word-at.result c.args.handover.kind
    c.args.handover.driver c.args.handover.number c.args.handover.counts c.args.kernel.now
    c.in_ok-found.found c.requires.laid c.in_ok-found.ensures.area
    c.requires.pair c.first_word-at.ensures in
    h.within

pub put_pair-requires : goal.put_pair-requires
put_pair-requires c =
    let h = held c.words_in_bytes.ensures c.pairs_are_found.ensures c.first_word-at.result c.args.handover.kind
    c.args.handover.driver c.args.handover.number c.args.handover.counts c.args.kernel.now
    c.in_ok-found.found c.requires.laid c.in_ok-found.ensures.area
    c.requires.pair c.first_word-at.ensures in
    h.within

pub returns-clause-some : goal.returns-clause-some
returns-clause-some c =
    let h = held c.words_in_bytes.ensures c.pairs_are_found.ensures c.first_word-at.result c.args.handover.kind
    c.args.handover.driver c.args.handover.number c.args.handover.counts c.args.kernel.now
    c.in_ok-found.found c.requires.laid c.in_ok-found.ensures.area
    c.requires.pair c.first_word-at.ensures in
    let a = c.areas_are_found.ensures.found c.args.handover.driver c.args.kernel.now c.in_ok-found.found c.requires.laid
    c.in_ok-found.ensures.area in
    record {
      grant = a.grant;
      is = a.is;
      former = c.pair_at-former.ensures ∙ h.read;
      tells = h.put c.args.handover.pair c.put_pair.new.bytes (omega arith) (omega arith) c.put_pair.ensures.bytes;
    }
