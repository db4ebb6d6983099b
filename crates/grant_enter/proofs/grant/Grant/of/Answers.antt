use Rattle.std.proofs.Common.{arith}
use Rattle.process_seat.proofs.Values.{few_pairs}
use Rattle.grant_enter.proofs.grant.Grant.of.Goals as goal

pub overflow_cast-result : goal.overflow_cast-result
overflow_cast-result g c =
    let few = few_pairs c.args.driver _ c.requires.counts in omega (arith, few)

pub overflow_cast-result-2 : goal.overflow_cast-result-2
overflow_cast-result-2 g c =
    let few = few_pairs c.args.driver _ c.requires.counts in omega (arith, few)

pub overflow_cast-result-3 : goal.overflow_cast-result-3
overflow_cast-result-3 g c =
    let few = few_pairs c.args.driver _ c.requires.counts in omega (arith, few)

pub overflow_cast-result-4 : goal.overflow_cast-result-4
overflow_cast-result-4 g c =
    let few = few_pairs c.args.driver _ c.requires.counts in omega (arith, few)
