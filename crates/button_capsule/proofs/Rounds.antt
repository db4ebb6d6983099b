-- Processes are told one after another.
use Rattle.std.proofs.Common.{◌≡◌, ℕ, ◌+◌, ◌<◌, List, ◌++◌, drop, length, map, slice_index_or, slice_set, take, ap, ◌∙◌}
use Rattle.std.proofs.Common.{arith}
use Rattle.std.proofs.lemmas.List.{get_or_default, length-append, length-drop, length-map, length-take}
use Rattle.std.proofs.lemmas.List.Edits.{map_over_more}

-- where those before a place are told, and all others are as they were
module _ {X : Type 0} (tell : X → X) (xs ys : List X) (place : ℕ) (none : X) (within : place < length xs)
    (told : ys ≡ map tell (take place xs) ++ drop place xs) where
  front : length (map tell (take place xs)) ≡ place
  front = length-map (take place xs) tell ∙ omega (arith, length-take place xs, within)

  -- there are as many
  as_many : length ys ≡ length xs
  as_many =
      ap length told ∙ length-append (map tell (take place xs)) (drop place xs)
      ∙ omega (arith, front, length-drop place xs, within)

  -- once the one at that place is told, those before the next place are
  pub one_more : slice_set ys place (tell (slice_index_or ys place none))
      ≡ map tell (take (place + 1) xs) ++ drop (place + 1) xs
  one_more =
      map_over_more tell xs ys place (slice_index_or ys place none) within told
      (get_or_default ys place none _ (omega (arith, as_many, within)))
