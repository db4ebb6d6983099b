-- Words of four bytes, the lowest byte first, as the processor keeps them (RISC-V unprivileged manual, "Load and
-- Store Instructions").
use Rattle.std.specs.Prelude.{ℕ, ◌≡◌, ◌*◌, ◌/◌, ◌<◌, ◌^◌, List, [], ◌∷◌, length}
use Rattle.std.specs.List.{AllByRecursion, flat_map}
use Rattle.std.specs.Int.{w32, to_le_bytes, from_le_bytes}

-- a number of 32 bits
abbrev pub IsWord : ℕ → Type 0
IsWord w = w < 2 ^ 32

-- the bytes of words
abbrev pub bytes_of_words : List ℕ → List ℕ
bytes_of_words words = flat_map (to_le_bytes w32) words

-- the words of bytes; up to three bytes at the end are in none
unfoldable pub words_of : List ℕ → List ℕ
words_of (a ∷ b ∷ c ∷ d ∷ rest) = from_le_bytes w32 (a ∷ b ∷ c ∷ d ∷ []) ∷ words_of rest
words_of other = []

-- words are read back from bytes
abbrev pub AreReadBack : List ℕ → List ℕ → Type 0
AreReadBack words bytes = words_of bytes ≡ words

-- bytes are four for each word
abbrev pub TakeFourEach : List ℕ → List ℕ → Type 0
TakeFourEach words bytes = length bytes ≡ 4 * length words

-- words are as many as bytes have whole ones
abbrev pub AreTheWholeOnes : List ℕ → List ℕ → Type 0
AreTheWholeOnes words bytes = length words ≡ length bytes / 4

-- how words stand in bytes
pub record WordsInBytes : Type 0 where
  -- the words that were written are read back
  pub back : (words : List ℕ) → AllByRecursion IsWord words → AreReadBack words (bytes_of_words words)
  -- each word takes four bytes
  pub size : (words : List ℕ) → TakeFourEach words (bytes_of_words words)
  pub count : (bytes : List ℕ) → AreTheWholeOnes (words_of bytes) bytes
