-- What a process keeps for each driver that it has entered (Levy et al., SOSP 2017, section 4), and the pairs that it
-- swaps (TRD 104, "Subscribe", "Read-Only Allow", "Read-Write Allow").
use Rattle.std.specs.Prelude.{ℕ, ◌≡◌, ◌+◌, ◌==◌, if◌then◌else◌, List, [], ◌∷◌, length, take, drop, replicate}
use Rattle.std.specs.Prelude.{slice_index_or, slice_set, Option, None, Some, unwrap_or}
use Rattle.tk_base.specs.declared.upcall.Counts.{Counts}
use Rattle.tk_base.specs.declared.kinds.PairKind.{PairKind}
use Rattle.tk_base.specs.Kinds.{count_of, pair_count, pairs_before}
use Rattle.grant_values.specs.Drivers.{counting, counts_of, cost_of}
use Rattle.grant_values.specs.Values.{KeptValue, fresh_value}

-- A grant: its driver, the pairs of function and data of its upcalls and those of address and size of its buffers, kind
-- by kind, and what the driver keeps. A process's grants are a list, the last entered first.
pub record Grant : Type 0 where
  pub driver : ℕ
  pub pairs : List (ℕ × ℕ)
  pub value : KeptValue

-- how many pairs and bytes the grant of a driver has; none of any where there is no such driver
unfoldable pub shape_of : ℕ → Counts
shape_of driver = unwrap_or (counts_of driver) (counting 0 0 0 0 0)

-- how many bytes grants take: what the driver of each costs
abbrev pub costs : List Grant → ℕ
costs [] = 0
costs (g ∷ gs) = cost_of (shape_of g.driver) + costs gs

-- a grant has as many pairs as its driver
abbrev pub HasPairs : Grant → Type 0
HasPairs g = length g.pairs ≡ pair_count (shape_of g.driver)

-- the grant of a driver, where it has been entered
abbrev pub grant_of : ℕ → List Grant → Option Grant
grant_of driver [] = None
grant_of driver (g ∷ gs) = if g.driver == driver then Some g else grant_of driver gs

-- the grants with a driver's grant changed
abbrev pub with_grant : ℕ → (Grant → Grant) → List Grant → List Grant
with_grant driver change [] = []
with_grant driver change (g ∷ gs) = if g.driver == driver then change g ∷ gs else g ∷ with_grant driver change gs

-- the pairs of a kind
abbrev pub pairs_of : PairKind → Grant → List (ℕ × ℕ)
pairs_of kind g = take (count_of kind (shape_of g.driver)) (drop (pairs_before kind (shape_of g.driver)) g.pairs)

-- pair n of a kind; (0, 0) where the driver has not been entered
abbrev pub pair_of : PairKind → ℕ → Option Grant → ℕ × ℕ
pair_of kind n None = (0, 0)
pair_of kind n (Some g) = slice_index_or (pairs_of kind g) n (0, 0)

-- a grant with another pair n of a kind
abbrev pub with_pair : PairKind → ℕ → ℕ × ℕ → Grant → Grant
with_pair kind n pair g = record g { pairs = slice_set g.pairs (pairs_before kind (shape_of g.driver) + n) pair }

-- a grant with another value
abbrev pub with_value : KeptValue → Grant → Grant
with_value value g = record g { value = value }

-- the grant of a driver as it is made: all pairs are (0, 0), and nothing waits
abbrev pub fresh : ℕ → Grant
fresh driver =
    record { driver = driver; pairs = replicate (pair_count (shape_of driver)) (0, 0); value = fresh_value driver }

-- the grants once a driver has been entered: its own is made, and is the first, where there is none
abbrev pub entering : ℕ → List Grant → Option Grant → List Grant
entering driver gs None = fresh driver ∷ gs
entering driver gs (Some g) = gs

-- the grants once a driver has been entered
abbrev pub entered : ℕ → List Grant → List Grant
entered driver gs = entering driver gs (grant_of driver gs)
