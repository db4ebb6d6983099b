-- The shares of RAM that slots have where there are time partitions.
use Rattle.std.proofs.Common.{◌≡◌, ◌≤◌, ℕ, ◌*◌, ◌/◌, ◌%◌, arith}
use Rattle.std.proofs.Math.Nat.{mul_assoc, mul-le-mul_right}
use Rattle.tk_base.specs.declared.limits.TheConstants.{RAM_UNIT, SLOT_COUNT}
use Rattle.app_placement.specs.Placement.{share_start}
use Rattle.app_placement.specs.Parts.{share}

-- all shares together are no more than RAM
pub shares_fit : (ram slot : ℕ) → slot ≤ SLOT_COUNT → slot * share ram ≤ ram
shares_fit ram slot few = omega (arith, mul-le-mul_right {m = slot} {n = SLOT_COUNT} (share ram) few)

-- each starts at a multiple of 8
pub share_aligned : (ram slot : ℕ) → share_start ram slot % 8 ≡ 0
share_aligned ram slot = omega (arith, mul_assoc slot (ram / SLOT_COUNT / RAM_UNIT) RAM_UNIT)
