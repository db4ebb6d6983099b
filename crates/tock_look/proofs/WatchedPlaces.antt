-- Watched places, three numbers each.
use Rattle.std.proofs.lemmas.Bool.{lt-ltb}
use Rattle.std.proofs.Common.{◌≡◌, ℕ, ◌-◌, ◌≤◌, ◌<◌, true, List, [], ◌∷◌, ◌++◌, length, take}
use Rattle.std.proofs.Common.{drop, get_or, Option, sym, arith, true≢false}
use Rattle.std.proofs.lemmas.List.{take_all}
use Rattle.std.specs.Prelude.{Result, Ok, Err, is_ok, OnOk}
use Rattle.board_views.specs.declared.goal.Watched.{Watched}
use Rattle.board_views.specs.declared.goal.TheConstants.{GOAL_PLACES}
use Rattle.tock_look.specs.Asks.{watched_after}

-- what holds where a call succeeds, of one that did
pub made : {A E P : Type 0} (result : Result A E) → is_ok result ≡ true → OnOk result P → P
made (Ok x) e p = p
made (Err x) e p = absurd (true≢false (sym e))

-- the first three numbers are a place, for which there is room
pub next_place : (places now : List Watched) (numbers : List ℕ) (found : Option (List Watched)) → 3 ≤ length numbers
    → length places < GOAL_PLACES
    → now ≡ places ++ (record { slot = get_or numbers 0 0; at = get_or numbers 1 0; count = get_or numbers 2 0 }) ∷ []
    → found ≡ watched_after now (take (length numbers - 3) (drop 3 numbers)) → found ≡ watched_after places numbers
next_place places now [] found h l e f = absurd (omega (arith, h))
next_place places now (s ∷ []) found h l e f = absurd (omega (arith, h))
next_place places now (s ∷ a ∷ []) found h l e f = absurd (omega (arith, h))
next_place places now (s ∷ a ∷ n ∷ rest) found h l e f =
    rw (lt-ltb (length places) GOAL_PLACES l)
    (rw (take_all (length (s ∷ a ∷ n ∷ rest) - 3) rest (omega arith), e) at f)
