-- Quiet turns of a process with what is its own. Only proofs use this.
use Rattle.std.specs.Prelude.{◌≡◌, ◌≢◌, ◌<◌, ℕ, List}
use Rattle.rv32_model.specs.declared.turn_end.TurnEnd.{TurnEnd}
use Rattle.rv32_model.specs.declared.turn_end.TurnEnd.TheVariants.{Went}
use Rattle.kernel_model.specs.Record.{instruction}
use Rattle.kernel_model.specs.Stretch.{AllGo, after_instructions}
use Rattle.kernel_calls.specs.Residents.{Resident, record_of}

-- So many turns of a process, of at most so many, lead from it to another, whatever its storage is and whichever
-- buttons are pressed: each only executes an instruction. Where they are fewer, the next instruction makes a system
-- call or is denied. Where an end is told that is not that of one that goes, it is that instruction's.
pub record Quietly (k most : ℕ) (end : TurnEnd) (flash : List ℕ) (old new : Resident) : Type 0 where
  pub go : (pressed : ℕ) (storage : List ℕ) → AllGo k (record_of flash pressed (old, storage))
  pub leads : (pressed : ℕ) (storage : List ℕ)
      → record_of flash pressed (new, storage) ≡ after_instructions k (record_of flash pressed (old, storage))
  pub stops : k < most → (pressed : ℕ) (storage : List ℕ)
      → (instruction (record_of flash pressed (new, storage))).end ≢ Went
  pub ends : end ≢ Went → (pressed : ℕ) (storage : List ℕ)
      → (instruction (record_of flash pressed (new, storage))).end ≡ end
