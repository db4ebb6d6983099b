-- What a store leaves in a list of bytes (RISC-V unprivileged manual, "Load and Store Instructions").
use Rattle.std.specs.Prelude.{◌≡◌, ◌≤◌, ℕ, ◌+◌, List, length, slice_index}
use Rattle.tk_base.specs.declared.access.Width.{Width}
use Rattle.tk_base.specs.Access.{width_bytes}
use Rattle.tk_base.specs.Bus.{put, written}

-- a value that is put at a place is, seen by places, written there; there are as many bytes as before
pub record IsPut (xs : List ℕ) (at : ℕ) (width : Width) (value : ℕ) : Type 0 where
  pub each : (k : ℕ) → slice_index (put xs at width value) k ≡ written (λ a. slice_index xs a) at width value k
  pub bytes : (λ a. slice_index (put xs at width value) a) ≡ written (λ a. slice_index xs a) at width value
  pub length : length (put xs at width value) ≡ length xs

-- this holds of every store that lies in the list
abbrev pub AStoreIsPut : Type 0
AStoreIsPut =
    (xs : List ℕ) (at : ℕ) (width : Width) (value : ℕ) → at + width_bytes width ≤ length xs → IsPut xs at width value
