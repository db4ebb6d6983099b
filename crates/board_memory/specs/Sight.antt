-- What a process reaches.
use Rattle.std.specs.Prelude.{ℕ, length}
use Rattle.board_memory.specs.declared.sight.Sight.{Sight}
use Rattle.board_memory.specs.Bytes.{IsCode, IsData, StoresLieIn}
use Rattle.board_memory.specs.Known.{AreKnown}

-- What may be read and written without a look for a rule is right, beside RAM of so many bytes, in which every store
-- lies that the registers permit.
pub record IsSight (size : ℕ) (s : Sight) : Type 0 where
  pub stores : StoresLieIn size s.pmp.now
  pub fetches : IsCode s.flash.now s.pmp.now s.code_start s.code.now
  pub data_near : IsData size s.pmp.now s.near.start s.near.size
  pub at_hand : AreKnown s.flash.now s.code_start (length s.code.now) s.known.now
