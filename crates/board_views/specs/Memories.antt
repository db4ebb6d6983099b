-- The bytes of a block, and of storage. The form of the line is this tool's own.
use Rattle.std.specs.Prelude.{ℕ, ◌+◌, ◌-◌, nat_le, ◌&&◌, if◌then◌else◌, List, [], codes, length, take, drop}
use Rattle.std.specs.Prelude.{slice_get, Option, None, Some}
use Rattle.std.specs.List.{flat_map}
use Rattle.tk_outside.specs.Text.{hex_digits}
use Rattle.process_model.specs.Own.{block_of}
use Rattle.kernel_model.specs.Record.{Record}
use Rattle.kernel_model.specs.World.{World}
use Rattle.board_views.specs.Lines.{line_text}

-- so many bytes from an address on, of a block that starts at one; none where they are not all there
unfoldable pub cut_at : ℕ → List ℕ → ℕ → ℕ → List ℕ
cut_at start block at count =
    if nat_le start at && nat_le (at - start + count) (length block) then take count (drop (at - start) block) else []

-- of the block of a slot
abbrev pub memory_in : Option Record → ℕ → ℕ → List ℕ
memory_in None at count = []
memory_in (Some r) at count = cut_at r.own.layout.start (block_of r.own) at count

unfoldable pub memory_at : World → ℕ → ℕ → ℕ → List ℕ
memory_at w slot at count = memory_in (slice_get w.records slot) at count

-- a line: what it tells, and bytes, each in two digits of base 16
abbrev pub bytes_line : List ℕ → List ℕ → List ℕ
bytes_line name bytes = line_text name (flat_map (hex_digits 2) bytes)

-- that of a block
unfoldable pub memory_text : World → ℕ → ℕ → ℕ → List ℕ
memory_text w slot at count = bytes_line (codes "memory ") (memory_at w slot at count)

-- and those of its storage, which begin with number 0
abbrev pub stored_in : Option Record → ℕ → ℕ → List ℕ
stored_in None at count = []
stored_in (Some r) at count = cut_at 0 r.storage at count

unfoldable pub stored_at : World → ℕ → ℕ → ℕ → List ℕ
stored_at w slot at count = stored_in (slice_get w.records slot) at count

unfoldable pub storage_text : World → ℕ → ℕ → ℕ → List ℕ
storage_text w slot at count = bytes_line (codes "storage ") (stored_at w slot at count)
