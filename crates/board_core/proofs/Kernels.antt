-- The bytes of grants in a block.
use Rattle.std.proofs.Common.{◌≡◌, ℕ, ◌-◌, ◌≤◌, List, [], ◌∷◌, ◌++◌, length, drop, refl, sym, ap, subst, ◌∙◌, arith}
use Rattle.grant_model.specs.Encoding.{encode_grants}
use Rattle.process_layout.specs.LayoutView.{LayoutView}
use Rattle.process_model.specs.Own.{Own, block_of, layout_of}
use Rattle.grant_enter.specs.Homes.{IsInPlace}

drop_front : (xs ys : List ℕ) → drop (length xs) (xs ++ ys) ≡ ys
drop_front [] ys = refl
drop_front (x ∷ xs) ys = drop_front xs ys

longer : (xs ys : List ℕ) → length xs ≤ length (xs ++ ys)
longer [] ys = omega arith
longer (x ∷ xs) ys = let rest = longer xs ys in omega (arith, rest)

module _ (own : Own) (e : LayoutView) (block : List ℕ) (n : ℕ) (p : IsInPlace own) (l : e ≡ layout_of own)
    (b : block ≡ block_of own) (k : n ≡ e.kernel_break - e.start) where
  below : n ≡ length own.ram
  below = k ∙ ap (λ (x : LayoutView). x.kernel_break - x.start) l ∙ sym p.ram

  pub kernel_cut : drop n block ≡ encode_grants own.grants
  kernel_cut = ap (λ (m : ℕ). drop m block) below ∙ ap (λ (xs : List ℕ). drop (length own.ram) xs) b
      ∙ drop_front own.ram (encode_grants own.grants)

  pub kernel_there : n ≤ length block
  kernel_there = subst (λ (xs : List ℕ). n ≤ length xs) (sym b)
      (subst (λ (m : ℕ). m ≤ length (block_of own)) (sym below) (longer own.ram (encode_grants own.grants)))
