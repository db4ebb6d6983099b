-- Kinds of pairs are told apart by where they stand.
use Rattle.std.proofs.Common.{refl, ap, sym, ◌∙◌, ◌≡◌, ◌≢◌, ◌⊎◌, inl, inr, ℕ, zero, suc}
use Rattle.std.proofs.lemmas.Bool.{cases_eq}
use Rattle.tk_base.specs.declared.kinds.PairKind.{PairKind}
use Rattle.tk_base.specs.declared.kinds.PairKind.TheVariants.{Upcall, ReadOnly, ReadWrite, Readable}
use Rattle.tk_base.specs.Kinds.{rank_of}

-- the kind of a rank
abbrev kind_at : ℕ → PairKind
kind_at zero = Upcall
kind_at (suc zero) = ReadOnly
kind_at (suc (suc zero)) = ReadWrite
kind_at (suc (suc (suc n))) = Readable

kind_at-rank : (kind : PairKind) → kind_at (rank_of kind) ≡ kind
kind_at-rank Upcall = refl
kind_at-rank ReadOnly = refl
kind_at-rank ReadWrite = refl
kind_at-rank Readable = refl

pub same_rank : (kind other : PairKind) → rank_of other ≡ rank_of kind → other ≡ kind
same_rank kind other same = sym (kind_at-rank other) ∙ ap kind_at same ∙ kind_at-rank kind

-- two kinds are one, or they are not
pub same_kind : (kind other : PairKind) → (other ≡ kind) ⊎ (other ≢ kind)
same_kind kind other = by_rank (cases_eq (rank_of other) (rank_of kind))
  where
    by_rank : (rank_of other ≡ rank_of kind) ⊎ (rank_of other ≢ rank_of kind) → (other ≡ kind) ⊎ (other ≢ kind)
    by_rank (inl same) = inl (same_rank kind other same)
    by_rank (inr differs) = inr (λ is. differs (ap rank_of is))
