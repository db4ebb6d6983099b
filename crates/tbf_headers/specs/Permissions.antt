-- The Permissions TLV (Tock Binary Format, "Permissions"): a count, then that many entries.
use Rattle.std.specs.Prelude.{ℕ, zero, suc, ◌+◌, ◌*◌, ◌/◌, ◌%◌, ◌^◌, ◌==◌, Bool, ◌&&◌, List, [], ◌∷◌}
use Rattle.std.specs.List.{list_any}
use Rattle.tbf_headers.specs.Numbers.{half, word_at, double}

-- bit i of allowed permits command 64 * offset + i of the driver
pub record Entry : Type 0 where
  pub driver : ℕ
  pub offset : ℕ
  pub allowed : ℕ

-- the entry of a number
abbrev pub entry_at : List ℕ → ℕ → Entry
entry_at content k = record {
  driver = word_at content (2 + 16 * k);
  offset = word_at content (2 + 16 * k + 4);
  allowed = double content (2 + 16 * k + 8);
}

-- n entries from a number on
unfoldable pub entries_from : ℕ → List ℕ → ℕ → List Entry
entries_from zero content k = []
entries_from (suc n) content k = entry_at content k ∷ entries_from n content (k + 1)

-- all entries
abbrev pub entries : List ℕ → List Entry
entries content = entries_from (half content 0) content 0

-- an entry permits a command of a driver
abbrev pub permits : ℕ → ℕ → Entry → Bool
permits driver command e = e.driver == driver && e.offset == command / 64 && e.allowed / 2 ^ (command % 64) % 2 == 1

-- some entry permits the command
abbrev pub allows : List ℕ → ℕ → ℕ → Bool
allows content driver command = list_any (permits driver command) (entries content)

-- some entry is of the driver
abbrev pub lists : List ℕ → ℕ → Bool
lists content driver = list_any (λ e. e.driver == driver) (entries content)
