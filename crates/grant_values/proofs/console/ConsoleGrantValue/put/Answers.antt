use Rattle.std.proofs.Common.{rules, ◌≡◌, subst, [], ◌∷◌}
use Rattle.std.specs.List.{AllByRecursion}
use Rattle.grant_values.specs.Words.{IsWord}
use Rattle.grant_values.specs.Console.{console_words}
use Rattle.grant_values.proofs.console.ConsoleGrantValue.put.Goals as goal

pub returns-clause-fits : goal.returns-clause-fits
returns-clause-fits c =
    let put = c.from.result ∷ c.map_or.result ∷ c.map_or-2.result ∷ c.from-2.result ∷ c.map_or-3.result ∷ 0 ∷ 0 ∷ 0
    ∷ [] in
    let same : put ≡ console_words c.args.self.now = search rules in
    subst (AllByRecursion IsWord) same c.put_words.ensures.fits
