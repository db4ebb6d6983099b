-- Grants' areas whose words are all 0 but the number of the driver and the size: worked cases are put together of them.
use Rattle.std.specs.Prelude.{ℕ, ◌-◌, List, [], ◌∷◌, ◌++◌, replicate}

-- that of a driver, by the lowest and the third byte of its number, of so many bytes
abbrev pub empty_area : ℕ → ℕ → ℕ → List ℕ
empty_area lowest third size = (lowest ∷ 0 ∷ third ∷ 0 ∷ size ∷ 0 ∷ 0 ∷ 0 ∷ []) ++ replicate (size - 8) 0
