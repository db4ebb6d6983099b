-- What is taken out at a place where nothing is.
use Rattle.std.proofs.Common.{◌≡◌, ◌≤◌, ℕ, suc, List, [], ◌++◌, drop, length}
use Rattle.std.proofs.Common.{ap₂, ◌∙◌, arith}
use Rattle.std.specs.Prelude.{remove}
use Rattle.std.proofs.lemmas.List.{append-nil, take_all}
use Rattle.std.proofs.Math.ListN.{drop_of_length-le}

pub none_taken : {X : Type 0} (xs : List X) (i : ℕ) → length xs ≤ i → remove xs i ≡ xs
none_taken xs i after =
    let none : drop (suc i) xs ≡ [] = drop_of_length-le xs {i = suc i} (omega (arith, after)) in
    ap₂ ◌++◌ (take_all i xs after) none ∙ append-nil xs
