use Rattle.std.specs.Prelude.{ℕ, ◌*◌, ◌/◌, zero, suc, Bool, true, false, List, slice_index_or}
use Rattle.pmp_regions.specs.declared.Entry.{Entry}
use Rattle.pmp_regions.specs.declared.Mode.{Mode}
use Rattle.pmp_regions.specs.declared.Mode.TheVariants.{Off, Tor}

-- an entry whose configuration and address are 0
abbrev pub empty_entry : Entry
empty_entry = record { mode = Off; read = false; write = false; execute = false; address = 0 }

-- the top of a range, with its permission bits; the register holds bits 33 to 2 of its end
abbrev pub tor_entry : ℕ → Bool → Bool → Bool → Entry
tor_entry top r w x = record { mode = Tor; read = r; write = w; execute = x; address = top / 4 }

-- an entry that matches no address, and may hold the bottom of the range above it
abbrev pub off_entry : ℕ → Entry
off_entry at = record { mode = Off; read = false; write = false; execute = false; address = at / 4 }

abbrev pub pmp_entry : List Entry → ℕ → Entry
pmp_entry pmp i = slice_index_or pmp i empty_entry

abbrev pub is_tor : Mode → Bool
is_tor Off = false
is_tor Tor = true

-- the first address of an entry's range: the address register of the entry below, or 0
abbrev pub bottom_word : List Entry → ℕ → ℕ
bottom_word pmp zero = 0
bottom_word pmp (suc i) = (pmp_entry pmp i).address

abbrev pub bottom_of : List Entry → ℕ → ℕ
bottom_of pmp i = 4 * bottom_word pmp i

-- the end of an entry's range: its own address register
abbrev pub top_of : List Entry → ℕ → ℕ
top_of pmp i = 4 * (pmp_entry pmp i).address
