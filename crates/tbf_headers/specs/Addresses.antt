-- Where an application's parts lie, for an object at an address (Tock Binary Format, "Main" and "Program"). The
-- offsets in a header count from the object's start, the init offset and the protected size from the header's end.
use Rattle.std.specs.Prelude.{ℕ, ◌+◌}
use Rattle.std.specs.Option.{option_map_or}
use Rattle.tbf_headers.specs.declared.app.AppStart.{AppStart}
use Rattle.tbf_headers.specs.declared.program.Main.{Main}
use Rattle.tk_base.specs.Numbers.{rounded_up}
use Rattle.tbf_headers.specs.Meaning.{Meaning}

-- the first address after the header and the protected bytes
abbrev pub after_protected : ℕ → Meaning → Main → ℕ
after_protected start h m = start + h.header_size + m.protected

-- the address of the application's first instruction
abbrev pub entry_of : ℕ → Meaning → Main → ℕ
entry_of start h m = start + h.header_size + m.init

-- where the application starts, and the RAM that it needs
abbrev pub start_by : ℕ → Meaning → Main → AppStart
start_by start h m = record {
  entry = entry_of start h m;
  after_protected = after_protected start h m;
  minimum_ram = m.minimum_ram;
}

-- the start of accessible flash: after the protected bytes, rounded up to 4
abbrev pub accessible_start : ℕ → Meaning → Main → ℕ
accessible_start start h m = rounded_up (after_protected start h m)

-- the end of accessible flash: the object's, or with a Program header the binary's rounded up to 4
abbrev pub accessible_end_of : ℕ → Meaning → Main → ℕ
accessible_end_of start h m =
    option_map_or (λ binary_end. rounded_up (start + binary_end)) m.binary_end (start + h.total_size)
