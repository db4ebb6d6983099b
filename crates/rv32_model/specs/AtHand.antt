-- The two parcels from an address on, as one number of 32 bits (RISC-V unprivileged manual, "Base Instruction-Length
-- Encoding").
use Rattle.std.specs.Prelude.{◌≡◌, ℕ, ◌+◌, ◌/◌, ◌%◌, ◌^◌, Option, None}
use Rattle.tk_base.specs.declared.access.Access.{Access}
use Rattle.tk_base.specs.declared.access.Access.TheVariants.{Fetch}
use Rattle.tk_base.specs.declared.access.Width.{Width}
use Rattle.tk_base.specs.declared.access.Width.TheVariants.{Half}
use Rattle.tk_base.specs.declared.access.Rule.{Rule}
use Rattle.tk_base.specs.Bus.{number_at}

-- a number of 32 bits whose lower half is the parcel at an address, and whose upper half the next one
pub record AreParcels (bytes : ℕ → ℕ) (at word : ℕ) : Type 0 where
  pub first : number_at bytes at Half ≡ word % 2 ^ 16
  pub second : number_at bytes ((at + 2) % 2 ^ 32) Half ≡ word / 2 ^ 16

-- and both parcels may be fetched, each on its own
pub record IsAtHand (denies : Access → ℕ → Width → Option Rule) (bytes : ℕ → ℕ) (at word : ℕ) : Type 0 where
  pub first_may : denies Fetch at Half ≡ None
  pub second_may : denies Fetch ((at + 2) % 2 ^ 32) Half ≡ None
  pub parcels : AreParcels bytes at word
