-- Laws of grants as bytes (Levy et al., SOSP 2017, section 4; the form in words is this kernel's own).
use Rattle.std.specs.Prelude.{ℕ, ◌≡◌, ◌≢◌, ◌⊎◌, ◌+◌, ◌*◌, ◌/◌, ◌<◌, ◌≤◌, ◌^◌, List, ◌++◌, length, take, drop}
use Rattle.std.specs.Prelude.{slice_index, slice_set, None, Some}
use Rattle.std.specs.List.{AllByRecursion}
use Rattle.tk_base.specs.declared.kinds.PairKind.{PairKind}
use Rattle.tk_base.specs.Kinds.{count_of, pair_count}
use Rattle.tk_base.specs.Places.{pair_place}
use Rattle.grant_values.specs.Words.{bytes_of_words, words_of}
use Rattle.grant_values.specs.Values.{KeptValue, value_words}
use Rattle.grant_model.specs.declared.places.Area.{Area}
use Rattle.grant_model.specs.Grants.{Grant, HasPairs, fresh, shape_of, grant_of, with_grant, pair_of, pairs_of}
use Rattle.grant_model.specs.Grants.{with_pair, with_value}
use Rattle.grant_model.specs.Encoding.{CanBeKept, body_size, body_words, areas, encode_grants, IsSound, decode_grants}
use Rattle.grant_model.specs.Encoding.{EncodesGrants, Tells, area_of}

-- In a grant that has its pairs, another pair n of a kind is that pair, and every other pair stays. So each is that
-- pair, of its kind, or what it was. A fresh grant has its pairs, and all are (0, 0).
pub record PairsStandByKind : Type 0 where
  pub count : (kind : PairKind) (g : Grant) → HasPairs g → length (pairs_of kind g) ≡ count_of kind (shape_of g.driver)
  pub this : (kind : PairKind) (n : ℕ) (pair : ℕ × ℕ) (g : Grant) → HasPairs g → n < count_of kind (shape_of g.driver)
      → pair_of kind n (Some (with_pair kind n pair g)) ≡ pair
  pub others : (kind other : PairKind) (n m : ℕ) (pair : ℕ × ℕ) (g : Grant) → n < count_of kind (shape_of g.driver)
      → (other ≡ kind → m ≢ n) → pair_of other m (Some (with_pair kind n pair g)) ≡ pair_of other m (Some g)
  pub either : (kind other : PairKind) (n m : ℕ) (pair : ℕ × ℕ) (g : Grant) → HasPairs g
      → n < count_of kind (shape_of g.driver)
      → ((other ≡ kind) × (pair_of other m (Some (with_pair kind n pair g)) ≡ pair))
      ⊎ (pair_of other m (Some (with_pair kind n pair g)) ≡ pair_of other m (Some g))
  pub keeps : (kind : PairKind) (n : ℕ) (pair : ℕ × ℕ) (g : Grant) → HasPairs g → HasPairs (with_pair kind n pair g)
  pub made : (driver : ℕ) → HasPairs (fresh driver)
  pub none : (kind : PairKind) (driver n : ℕ) → pair_of kind n (Some (fresh driver)) ≡ (0, 0)

-- sound grants that were laid are read back
pub record IsReadBack : Type 0 where
  pub back : (gs : List Grant) → AllByRecursion IsSound gs → Tells (encode_grants gs) gs
  pub words : (gs : List Grant) → AllByRecursion IsSound gs → words_of (encode_grants gs) ≡ areas gs
  pub size : (g : Grant) → IsSound g → length (body_words g) ≡ body_size (shape_of g.driver)

-- an area is that of a driver's grant, and lies in the kernel's bytes with its cost in its second word
pub record IsAreaOf (driver : ℕ) (kernel : List ℕ) (area : Area) : Type 0 where
  pub grant : Grant
  pub is : grant_of driver (decode_grants kernel) ≡ Some grant
  pub within : area.offset + area.cost ≤ length kernel
  pub second : slice_index (words_of kernel) (area.offset / 4 + 1) ≡ area.cost

-- a driver has an area exactly where it has a grant
pub record AreasAreFound : Type 0 where
  pub found : (driver : ℕ) (kernel : List ℕ) (area : Area) → EncodesGrants kernel
      → Some area ≡ area_of driver (decode_grants kernel) → IsAreaOf driver kernel area
  pub absent : (driver : ℕ) (gs : List Grant) → None ≡ area_of driver gs → grant_of driver gs ≡ None

-- in which word pair n of a kind begins, of a driver whose area this is
abbrev pub word_of_pair : PairKind → ℕ → ℕ → Area → ℕ
word_of_pair kind driver n area = area.offset / 4 + 2 + 2 * pair_place kind n (shape_of driver)

-- the two words from i on of the kernel's bytes are pair n of a kind, and other words put there make the grants with
-- that pair changed
pub record ArePair (kernel : List ℕ) (i : ℕ) (kind : PairKind) (driver n : ℕ) : Type 0 where
  pub bytes : kernel ≡ bytes_of_words (words_of kernel)
  pub within : i + 1 < length (words_of kernel)
  pub first : slice_index (words_of kernel) i ≡ (pair_of kind n (grant_of driver (decode_grants kernel))).0
  pub second : slice_index (words_of kernel) (i + 1) ≡ (pair_of kind n (grant_of driver (decode_grants kernel))).1
  pub put : (pair : ℕ × ℕ) → pair.0 < 2 ^ 32 → pair.1 < 2 ^ 32
      → Tells (bytes_of_words (slice_set (slice_set (words_of kernel) i pair.0) (i + 1) pair.1))
      (with_grant driver (with_pair kind n pair) (decode_grants kernel))

-- pairs stand in a driver's area in the order of their kinds and numbers
pub record PairsAreFound : Type 0 where
  pub at : (kind : PairKind) (driver n : ℕ) (kernel : List ℕ) (area : Area) → EncodesGrants kernel
      → Some area ≡ area_of driver (decode_grants kernel)
      → n < count_of kind (shape_of driver) → ArePair kernel (word_of_pair kind driver n area) kind driver n

-- where the value of a driver whose area this is begins in the kernel's bytes
abbrev pub value_offset : ℕ → Area → ℕ
value_offset driver area = area.offset + 8 + 8 * pair_count (shape_of driver)

-- how many bytes of words the value of a driver has
abbrev pub value_bytes : ℕ → ℕ
value_bytes driver = 4 * ((shape_of driver).value / 4)

-- so many bytes of the kernel's, from a place on, are the words of a driver's value, and those of another value that
-- it can keep, put there, make the grants with that value
pub record IsValue (kernel : List ℕ) (at size driver : ℕ) : Type 0 where
  pub grant : Grant
  pub is : grant_of driver (decode_grants kernel) ≡ Some grant
  pub fits : CanBeKept driver grant.value
  pub within : at + size ≤ length kernel
  pub taken : words_of (take size (drop at kernel)) ≡ value_words grant.value
  pub put : (value : KeptValue) → CanBeKept driver value
      → Tells (take at kernel ++ (bytes_of_words (value_words value)
      ++ drop size (drop at kernel))) (with_grant driver (with_value value) (decode_grants kernel))

-- the value stands in a driver's area after its pairs
pub record ValuesAreFound : Type 0 where
  pub at : (driver : ℕ) (kernel : List ℕ) (area : Area) → EncodesGrants kernel
      → Some area ≡ area_of driver (decode_grants kernel)
      → IsValue kernel (value_offset driver area) (value_bytes driver) driver
