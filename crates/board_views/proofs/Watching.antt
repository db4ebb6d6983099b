-- Watched places, one after another.
use Rattle.std.proofs.lemmas.Bool.{le-ltb}
use Rattle.std.proofs.Common.{◌≡◌, ℕ, ◌-◌, ◌≤◌, Bool, true, List, [], ◌∷◌, length, take}
use Rattle.std.proofs.Common.{drop, get_or, Option, sym, ◌∙◌, arith, bytes_eq}
use Rattle.std.proofs.lemmas.List.{take_all}
use Rattle.kernel_model.specs.World.{World}
use Rattle.board_views.specs.declared.goal.Watched.{Watched}
use Rattle.board_views.specs.Goals.{changed_at, watched_at}

-- the first place is as it was kept
pub same_here : (w : World) (kept : List ℕ) (places : List Watched) (D : Watched) (bytes was later : List ℕ)
    (alike : Bool) (found : Option ℕ) → 1 ≤ length places → bytes ≡ watched_at w (get_or places 0 D)
    → length bytes ≤ length kept → was ≡ take (length bytes) kept → later ≡ drop (length bytes) kept
    → alike ≡ bytes_eq was bytes → alike ≡ true
    → found ≡ changed_at w later (take (length places - 1) (drop 1 places)) → found ≡ changed_at w kept places
same_here w kept [] D bytes was later alike found h b l x y d e f = absurd (omega (arith, h))
same_here w kept (p ∷ rest) D bytes was later alike found h b l x y d e f =
    let same : bytes_eq (take (length bytes) kept) bytes ≡ true = rw x at (sym d ∙ e) in
    rw (← b, le-ltb (length kept) (length bytes) l, same)
    (rw (y, take_all (length (p ∷ rest) - 1) rest (omega arith)) at f)
