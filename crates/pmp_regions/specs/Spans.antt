-- An access in units of the address registers.
use Rattle.std.specs.Prelude.{◌≡◌, ℕ, ◌+◌, ◌-◌, ◌/◌}
use Rattle.tk_base.specs.declared.access.Width.{Width}
use Rattle.tk_base.specs.Access.{width_bytes}
use Rattle.pmp_regions.specs.declared.Span.TheInside.{Inside}

-- the bytes of an access: where they begin, and how many they are
pub record Reach : Type 0 where
  pub at : ℕ
  pub width : Width

-- the addresses of the first and the last byte of an access, divided by 4
pub record IsSpan (s : Inside) : Type 0 where
  pub first : s.first ≡ s.at / 4
  pub last : s.last ≡ (s.at + width_bytes s.width - 1) / 4
