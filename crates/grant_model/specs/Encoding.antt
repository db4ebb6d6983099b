-- The grants of a process as bytes of its own block (Levy et al., SOSP 2017, section 4; the form in words is this
-- kernel's own): one area after another from the kernel break up to the block's end, the last entered lowest.
use Rattle.std.specs.Prelude.{ℕ, suc, ◌≡◌, ◌+◌, ◌-◌, ◌*◌, ◌/◌, ◌<◌, ◌^◌, ◌==◌, if◌then◌else◌, List, [], ◌∷◌, ◌++◌}
use Rattle.std.specs.Prelude.{length, take, drop, replicate, Option, None, Some, option_map}
use Rattle.std.specs.List.{AllByRecursion}
use Rattle.tk_base.specs.declared.upcall.Counts.{Counts}
use Rattle.tk_base.specs.Kinds.{pair_count}
use Rattle.grant_values.specs.Words.{IsWord, bytes_of_words, words_of}
use Rattle.grant_values.specs.Drivers.{counts_of, cost_of}
use Rattle.grant_values.specs.Values.{KeptValue, value_told, value_words}
use Rattle.grant_model.specs.declared.places.Area.{Area}
use Rattle.grant_model.specs.Grants.{Grant, HasPairs, shape_of}

-- how many words of a grant follow its driver and its cost
abbrev pub body_size : Counts → ℕ
body_size counts = cost_of counts / 4 - 2

-- how many of them are padding
abbrev pub padding_of : Counts → ℕ
padding_of counts = body_size counts - (2 * pair_count counts + counts.value / 4)

-- pairs as words, and a value with its padding of zeros
abbrev pub pair_words : List (ℕ × ℕ) → List ℕ
pair_words [] = []
pair_words (pair ∷ pairs) = pair.0 ∷ pair.1 ∷ pair_words pairs

-- a value's words, and the zeros behind them
abbrev pub padded_words : Grant → List ℕ
padded_words g = value_words g.value ++ replicate (padding_of (shape_of g.driver)) 0

-- the words of a grant: the pairs, kind by kind, and the value
abbrev pub body_words : Grant → List ℕ
body_words g = pair_words g.pairs ++ padded_words g

-- an area: driver, cost, and the words of the grant
abbrev pub area_words : Grant → List ℕ
area_words g = g.driver ∷ cost_of (shape_of g.driver) ∷ body_words g

-- the areas of grants, one behind another
abbrev pub areas : List Grant → List ℕ
areas [] = []
areas (g ∷ gs) = area_words g ++ areas gs

-- the grants as bytes
abbrev pub encode_grants : List Grant → List ℕ
encode_grants gs = bytes_of_words (areas gs)

-- a value that a driver can keep: it has the driver's number of words, which tell it
pub record CanBeKept (driver : ℕ) (value : KeptValue) : Type 0 where
  pub count : length (value_words value) ≡ (shape_of driver).value / 4
  pub words : AllByRecursion IsWord (value_words value)
  pub told : value_told driver (value_words value) ≡ value

-- a grant as the table of drivers has it
pub record IsSound (g : Grant) : Type 0 where
  pub known : counts_of g.driver ≡ Some (shape_of g.driver)
  pub driver : g.driver < 2 ^ 32
  pub pairs : HasPairs g
  pub words : AllByRecursion IsWord (pair_words g.pairs)
  pub value : CanBeKept g.driver g.value
  pub cost : cost_of (shape_of g.driver) < 2 ^ 32

-- the pairs at the front of words
abbrev pub pairs_at_front : ℕ → List ℕ → List (ℕ × ℕ)
pairs_at_front (suc n) (a ∷ b ∷ words) = (a, b) ∷ pairs_at_front n words
pairs_at_front n other = []

-- the grant of a driver that words tell
abbrev pub grant_in : ℕ → Counts → List ℕ → Grant
grant_in driver counts words = record {
  driver = driver;
  pairs = pairs_at_front (pair_count counts) words;
  value = value_told driver (take (counts.value / 4) (drop (2 * pair_count counts) words));
}

-- the grants that words tell, so many at most
abbrev pub grants_in : ℕ → List ℕ → List Grant
grants_in (suc n) (d ∷ c ∷ words) = grant_in d (shape_of d) words ∷ grants_in n (drop (body_size (shape_of d)) words)
grants_in n other = []

-- the grants that the kernel's bytes of a block tell
unfoldable pub decode_grants : List ℕ → List Grant
decode_grants kernel = grants_in (length (words_of kernel)) (words_of kernel)

-- the kernel's bytes of a block are the areas of sound grants
pub record EncodesGrants (kernel : List ℕ) : Type 0 where
  pub bytes : kernel ≡ encode_grants (decode_grants kernel)
  pub sound : AllByRecursion IsSound (decode_grants kernel)

-- and these are the grants
pub record Tells (kernel : List ℕ) (gs : List Grant) : Type 0 where
  pub laid : EncodesGrants kernel
  pub grants : decode_grants kernel ≡ gs

-- in which word from an offset on a driver's area begins
abbrev pub area_place : ℕ → ℕ → List Grant → Option ℕ
area_place driver offset [] = None
area_place driver offset (g ∷ gs) =
    if g.driver == driver then Some offset else area_place driver (offset + (2 + body_size (shape_of g.driver))) gs

-- where a driver's area lies in the kernel's bytes, by its place
abbrev pub area_at : ℕ → ℕ → Area
area_at driver place = record { offset = 4 * place; cost = cost_of (shape_of driver) }

-- the area of a driver in the kernel's bytes, if it has one
abbrev pub area_of : ℕ → List Grant → Option Area
area_of driver gs = option_map (area_at driver) (area_place driver 0 gs)
