-- The kinds of pairs that a process hands to a driver (TRD 104, "Subscribe", "Read-Only Allow", "Read-Write Allow"; the
-- userspace-readable allow of Tock's kernel), in the order in which they stand in a grant.
use Rattle.std.specs.Prelude.{ℕ, Bool, true, false, List, [], ◌∷◌, slice_index, take}
use Rattle.std.specs.List.{sum}
use Rattle.tk_base.specs.declared.upcall.Counts.{Counts}
use Rattle.tk_base.specs.declared.kinds.PairKind.{PairKind}
use Rattle.tk_base.specs.declared.kinds.PairKind.TheVariants.{Upcall, ReadOnly, ReadWrite, Readable}

-- which kind stands first, second and so on
abbrev pub rank_of : PairKind → ℕ
rank_of Upcall = 0
rank_of ReadOnly = 1
rank_of ReadWrite = 2
rank_of Readable = 3

-- how many pairs a driver has, kind by kind
abbrev pub pair_counts : Counts → List ℕ
pair_counts counts = counts.upcalls ∷ counts.ro ∷ counts.rw ∷ counts.ur ∷ []

-- how many pairs of a kind a driver has
abbrev pub count_of : PairKind → Counts → ℕ
count_of kind counts = slice_index (pair_counts counts) (rank_of kind)

-- how many pairs stand before those of a kind
abbrev pub pairs_before : PairKind → Counts → ℕ
pairs_before kind counts = sum (take (rank_of kind) (pair_counts counts))

-- how many pairs a driver has, of all kinds
abbrev pub pair_count : Counts → ℕ
pair_count counts = sum (pair_counts counts)

-- whether a pair of a kind is a buffer: its address and its size
abbrev pub is_buffer : PairKind → Bool
is_buffer Upcall = false
is_buffer other = true

-- whether it is one that the kernel may write
abbrev pub is_writable : PairKind → Bool
is_writable ReadWrite = true
is_writable Readable = true
is_writable other = false
