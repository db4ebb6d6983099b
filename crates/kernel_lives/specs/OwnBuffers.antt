-- That the buffers of a process are its own, and stay off its grants (TRD 104, "Read-Only Allow", "Read-Write Allow";
-- Levy et al., SOSP 2017, section 4).
use Rattle.std.specs.Prelude.{◌≡◌, ◌⊎◌, ◌≤◌, ◌<◌, ℕ, true}
use Rattle.tk_base.specs.declared.kinds.PairKind.{PairKind}
use Rattle.tk_base.specs.declared.kinds.PairKind.TheVariants.{ReadOnly}
use Rattle.tk_base.specs.Kinds.{is_buffer}
use Rattle.process_model.specs.Changes.{IsInside}
use Rattle.process_model.specs.Handed.{held}
use Rattle.process_model.specs.Own.{Own, kernel_break_of}
use Rattle.kernel_model.specs.Record.{Record}
use Rattle.kernel_model.specs.Wholes.{HasWholeOwn}

-- an address in the RAM that a process may access, below its kernel break, from which on its grants lie
pub record IsInOwnRam (at : ℕ) (own : Own) : Type 0 where
  pub start : own.layout.start ≤ at
  pub brk : at < own.layout.brk
  pub below : at < kernel_break_of own

-- one in the flash that it may access
pub record IsInOwnFlash (at : ℕ) (own : Own) : Type 0 where
  pub start : own.layout.flash_start ≤ at
  pub end : at < own.layout.flash_end

-- Each byte of a buffer that a process has allowed a driver lies in its own accessible RAM, off its grants; or, of a
-- read-only one, in its own accessible flash.
abbrev pub BuffersAreItsOwn : Record → Type 0
BuffersAreItsOwn r = (kind : PairKind) (driver number at : ℕ) → is_buffer kind ≡ true →
    IsInside (held kind driver number r.own) at →
    IsInOwnRam at r.own ⊎ ((kind ≡ ReadOnly) × IsInOwnFlash at r.own)

-- so it is where its own is whole
abbrev pub WholeOwnsHoldTheirBuffers : Type 0
WholeOwnsHoldTheirBuffers = (r : Record) → HasWholeOwn r → BuffersAreItsOwn r
