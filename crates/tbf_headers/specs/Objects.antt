-- The objects of flash (Tock Binary Format, "TBF Header Base": the total size).
use Rattle.std.specs.Prelude.{ℕ, ◌+◌, List, slice_range}

-- the bytes of an object, by its offset from the start of flash and its size
abbrev pub object_at : List ℕ → ℕ → ℕ → List ℕ
object_at flash offset size = slice_range flash offset (offset + size)
