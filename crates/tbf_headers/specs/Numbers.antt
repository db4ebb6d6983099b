-- Numbers in bytes. All numbers of the Tock Binary Format are little endian ("TBF Header").
use Rattle.std.specs.Prelude.{ℕ, zero, suc, ◌+◌, ◌*◌, ◌/◌, ◌==◌, if◌then◌else◌, List, length, slice_index, bit_xor}
use Rattle.tk_base.specs.declared.access.Width.TheVariants.{Half, Word}
use Rattle.tk_base.specs.Bus.{number_at}

-- the number of two bytes at a place
abbrev pub half : List ℕ → ℕ → ℕ
half bytes at = number_at (slice_index bytes) at Half

-- the number of four bytes at a place
abbrev pub word_at : List ℕ → ℕ → ℕ
word_at bytes at = number_at (slice_index bytes) at Word

-- the number of eight bytes at a place
abbrev pub double : List ℕ → ℕ → ℕ
double bytes at = word_at bytes at + 4294967296 * word_at bytes (at + 4)

-- the exclusive or of the first words of a header, but for word 3, which is the checksum itself
abbrev pub xor_of_words : ℕ → List ℕ → ℕ
xor_of_words zero header = 0
xor_of_words (suc k) header = bit_xor (xor_of_words k header) (if k == 3 then 0 else word_at header (4 * k))

-- the checksum (Tock Binary Format, "TBF Header Base"): the exclusive or of all words of the header but its own
abbrev pub checksum : List ℕ → ℕ
checksum header = xor_of_words (length header / 4) header
