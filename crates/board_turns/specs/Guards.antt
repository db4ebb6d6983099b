-- For whom the registers are set. Only proofs use this.
use Rattle.std.specs.Prelude.{◌≡◌, ◌≢◌, ℕ, Bool, true, false, Some}
use Rattle.process_layout.specs.Bounds.{Bounds}
use Rattle.syscall_abi.specs.declared.form.CallForm.{CallForm}
use Rattle.syscall_abi.specs.declared.form.CallForm.TheVariants.{Memop, Exit}
use Rattle.board_memory.specs.Registers.{Protect}
use Rattle.grant_enter.specs.Homes.{Homes, own_of}
use Rattle.board_turns.specs.declared.guard.ActivePmp.{ActivePmp}

-- where the registers are set for a slot, they protect its process as its layout is
pub record GuardsOnly (guard : ActivePmp) (home : Homes) : Type 0 where
  pub protects : (slot : ℕ) → guard.slot ≡ Some slot → Protect guard.pmp (own_of home slot).layout

-- they are set for this slot, and protect its process
pub record IsSetFor (slot : ℕ) (guard : ActivePmp) (home : Homes) : Type 0 where
  pub slot_is : guard.slot ≡ Some slot
  pub protects : Protect guard.pmp (own_of home slot).layout

-- where they are set for another slot than this, they protect its process as its layout is
pub record GuardsOthers (slot : ℕ) (guard : ActivePmp) (home : Homes) : Type 0 where
  pub protects : (other : ℕ) → other ≢ slot → guard.slot ≡ Some other → Protect guard.pmp (own_of home other).layout

-- whether a call may move what its process may access: a memop, which moves the break, or an exit, by which the process
-- starts again
abbrev pub may_move : CallForm → Bool
may_move (Memop operation argument) = true
may_move (Exit kind code) = true
may_move form = false

-- a layout is another one, but for the mark: so the same may be accessed
abbrev pub DiffersInMark : Bounds → Bounds → Type 0
DiffersInMark e f = f ≡ record e { mark = f.mark }
