use Rattle.std.proofs.Common.{arith, rules, refl, ◌++◌}
use Rattle.grant_values.proofs.WordPlaces.{all-words, words-front}
use Rattle.grant_values.proofs.words.put_words.Goals as goal

pub returns-clause-fits : goal.returns-clause-fits
returns-clause-fits c = all-words c.args.words.now (λ i. omega (arith, c.type_inv.words i))

pub returns-clause-back : goal.returns-clause-back
returns-clause-back c =
    let rest = c.split_at_mut-front.result.1.now in
    words-front (c.write_u32_into.new.dst ++ rest) c.args.words.now rest _ (search rules) refl (returns-clause-fits c)
