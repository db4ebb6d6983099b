-- The first that a test finds, by its place.
use Rattle.std.proofs.Common.{◌≡◌, ℕ, Bool, List, slice_get, None, Some, arith}
use Rattle.std.proofs.Common.{find}
use Rattle.std.specs.List.{position, position_or_len}
use Rattle.std.proofs.lemmas.Bool.Decides.{nat_tests}
use Rattle.std.proofs.lemmas.List.Folds.{find_at}
use Rattle.std.proofs.lemmas.Option.{slice_get_past}

-- none is found where no place passes
pub none_found : {X : Type 0} (p : X → Bool) (xs : List X) → position p xs ≡ None → None ≡ find p xs
none_found p xs e = grind (arith, nat_tests, find_at p xs, slice_get_past xs (position_or_len p xs))

-- and where one does, the element there
pub one_found : {X : Type 0} (p : X → Bool) (xs : List X) (i : ℕ) → position p xs ≡ Some i
    → slice_get xs i ≡ find p xs
one_found p xs i e = grind (arith, nat_tests, find_at p xs)
