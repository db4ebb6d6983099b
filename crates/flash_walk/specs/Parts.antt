-- Only proofs use this: parts of the verdict by name, for the contracts of inner functions.
use Rattle.std.specs.Prelude.{ℕ, ◌==◌, Bool, false, not, ◌||◌, ◌&&◌, nat_lt, nat_le, Option}
use Rattle.std.specs.Option.{option_map_or}
use Rattle.tbf_headers.specs.declared.program.Main.{Main}
use Rattle.tbf_headers.specs.Meaning.{Meaning}
use Rattle.tbf_headers.specs.Addresses.{entry_of, accessible_start, accessible_end_of}
use Rattle.flash_walk.specs.declared.found.Verdict.{Verdict}
use Rattle.flash_walk.specs.declared.found.Verdict.TheVariants.{Padding}
use Rattle.flash_walk.specs.Image.{app_verdict}

-- the entry is outside accessible flash
abbrev pub is_outside_flash : ℕ → Meaning → Main → Bool
is_outside_flash start h m =
    nat_lt (entry_of start h m) (accessible_start start h m)
    || nat_le (accessible_end_of start h m) (entry_of start h m)

-- the binary's end passes the object, or stands before the end of the protected bytes
abbrev pub is_bad_binary_end : ℕ → ℕ → Option ℕ → Bool
is_bad_binary_end protected_end total binary =
    option_map_or (λ e. nat_lt total e || nat_lt e protected_end) binary false

-- the flash start that the application is linked for, where there is one, is not where it stands
abbrev pub is_wrong_flash : ℕ → Option (ℕ × ℕ) → Bool
is_wrong_flash linked addresses =
    option_map_or (λ fixed. not (fixed.1 == 4294967295) && not (fixed.1 == linked)) addresses false

-- an object with neither a Program nor a Main TLV is padding
abbrev pub object_verdict : ℕ → Meaning → Option Main → Verdict
object_verdict start h main = option_map_or (app_verdict start h) main Padding
