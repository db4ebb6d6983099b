-- Where a pair stands in a driver's grant (TRD 104, "Subscribe").
use Rattle.std.specs.Prelude.{ℕ, ◌+◌}
use Rattle.tk_base.specs.declared.upcall.Counts.{Counts}
use Rattle.tk_base.specs.declared.kinds.PairKind.{PairKind}
use Rattle.tk_base.specs.Kinds.{pairs_before}

-- where pair n of a kind stands among all pairs of a driver
abbrev pub pair_place : PairKind → ℕ → Counts → ℕ
pair_place kind n counts = pairs_before kind counts + n
