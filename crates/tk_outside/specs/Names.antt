use Rattle.std.specs.Prelude.{ℕ, String, Vec, List, [], ◌∷◌, Bool, true, not, ◌&&◌, Option, drop, slice_get}
use Rattle.std.specs.Prelude.{option_and_then, unwrap_or}
use Rattle.std.specs.Option.{option_map}
use Rattle.std.specs.List.{position, list_any}
use Rattle.std.specs.Str.{bytes_eq}
use Rattle.std.specs.String.{string_bytes}

-- a name is among names
abbrev pub has_name : {Z : Type 0} → List (String Z) → List ℕ → Bool
has_name names name = list_any (λ n. bytes_eq (string_bytes n) name) names

-- no two of the names are equal
abbrev pub are_distinct : {Z : Type 0} → List (String Z) → Bool
are_distinct [] = true
are_distinct (x ∷ xs) = not (has_name xs (string_bytes x)) && are_distinct xs

-- the place of a name among names
abbrev pub index_of_name : {Z : Type 0} → List (String Z) → List ℕ → Option ℕ
index_of_name names name = position (λ n. bytes_eq (string_bytes n) name) names

-- the bytes of the file at a place
abbrev pub file_at : {Z : Type 0} → List (Vec ℕ Z) → ℕ → Option (List ℕ)
file_at files place = option_map (λ f. f.items) (slice_get files place)

-- the bytes of the file whose place is that of the name
abbrev pub file_of : {Z : Type 0} → List (String Z) → List (Vec ℕ Z) → List ℕ → Option (List ℕ)
file_of names files name = option_and_then (file_at files) (index_of_name names name)

-- what follows the first bytes of the file at a place; nothing where there is no such file
abbrev pub rest_at : {Z : Type 0} → List (Vec ℕ Z) → ℕ → ℕ → List ℕ
rest_at files place at = drop at (unwrap_or (file_at files place) [])
