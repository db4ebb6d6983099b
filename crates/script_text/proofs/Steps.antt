-- How the words of a line are gone through.
use Rattle.std.proofs.Common.{◌≡◌, ◌+◌, ◌<◌, ℕ, Bool, false, cond, List, [], ◌∷◌, drop, find, length, get_or, Bor}
use Rattle.std.proofs.Common.{Option, Some, None, sym, ap, ◌∙◌}
use Rattle.std.proofs.lemmas.List.{drop-drop, drop_more}
use Rattle.std.specs.Prelude.{MatchOption}

-- one more word is passed, or there was none
pub dropped_more : {old new : List (List ℕ)} (all : List (List ℕ)) (n : ℕ) (r : Option (Bor (List ℕ)))
    → MatchOption r ((old ≡ []) × (new ≡ [])) (λ w. old ≡ w.now ∷ new) → old ≡ drop n all → new ≡ drop (n + 1) all
dropped_more all n (Some w) h e = ap (drop 1) (sym h ∙ e) ∙ drop-drop 1 n all
dropped_more all n None h e = h.1 ∙ (ap (drop 1) (sym h.0 ∙ e) ∙ drop-drop 1 n all)

-- an element that fails is passed
pub find_passed : {X : Type 0} (p : X → Bool) (xs : List X) (i : ℕ) (d : X) → i < length xs → p (get_or xs i d) ≡ false
    → find p (drop i xs) ≡ find p (drop (i + 1) xs)
find_passed p xs i d l h =
    ap (find p) (drop_more xs i d l) ∙ ap (λ b. cond b (Some (get_or xs i d)) (find p (drop (i + 1) xs))) h
