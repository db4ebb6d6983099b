-- Intervals of addresses, as TRD 104, "Memop", speaks of a process's memory.
use Rattle.std.specs.Prelude.{ℕ, ◌+◌, Bool, ◌&&◌, nat_le}

-- all of the bytes from an address on lie in the interval from its first address up to its end. No
-- bytes lie in it wherever the address is in it or is its end.
abbrev pub lies_within : ℕ → ℕ → ℕ → ℕ → Bool
lies_within first end at size = nat_le first at && nat_le (at + size) end
