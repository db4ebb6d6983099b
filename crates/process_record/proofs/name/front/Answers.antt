use Rattle.std.proofs.Common.{sym, arith}
use Rattle.std.proofs.lemmas.List.{length-take-le, take_all}
use Rattle.process_record.proofs.name.front.Goals as goal

pub slice_bounds-result-end : goal.slice_bounds-result-end
slice_bounds-result-end c = sym (length-take-le _ c.args.bytes.now (omega (arith, c.if-bytes-gt32.true)))

pub returns-then-bytes-gt32-clause-few : goal.returns-then-bytes-gt32-clause-few
returns-then-bytes-gt32-clause-few c =
    omega (arith, length-take-le 32 c.args.bytes.now (omega (arith, c.if-bytes-gt32.true)))

pub returns-else-bytes-gt32-clause-front : goal.returns-else-bytes-gt32-clause-front
returns-else-bytes-gt32-clause-front c = sym (take_all 32 c.args.bytes.now (omega (arith, c.if-bytes-gt32.false)))
