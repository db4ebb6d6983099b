use Rattle.std.proofs.Common.{arith, length, ◌≡◌, ◌<◌}
use Rattle.std.proofs.lemmas.Bool.Decides.{nat_tests}
use Rattle.tk_outside.proofs.PutLemmas.{sent_nothing, sent_more, sent_all, sent_part}
use Rattle.tk_outside.proofs.WritesLemmas.{writes_part}
use Rattle.tk_outside.proofs.put.put_all.Goals as goal

pub loop-rest-init : goal.loop-rest-init
loop-rest-init g c = sent_nothing _ _ _

pub returns-in_err-taken : goal.returns-in_err-taken
returns-in_err-taken g c =
    let e = c.in_err-taken.ensures in
    let some : 0 < length c.loop-rest.rest.now = grind (arith, nat_tests) in
    writes_part _ c.from_residual.ensures.0 (sent_part _ c.loop-rest.invariant some e.bytes e.count e.failed)

pub loop-rest-preserved : goal.loop-rest-preserved
loop-rest-preserved g c = let e = c.in_ok-taken.ensures in
    rw c.split_at.ensures.back (sent_more _ _ c.loop-rest.invariant e.bytes e.count)

pub returns : goal.returns
returns g c =
    let none : length c.loop-rest.rest.now ≡ 0 = grind (arith, nat_tests) in
    sent_all _ none c.loop-rest.invariant
