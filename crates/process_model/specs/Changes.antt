-- Which of a process's own bytes something changes. The causes are this board's own rule, of TRD 104, "Yield" and
-- "Read-Write Allow".
use Rattle.std.specs.Prelude.{◌≡◌, ◌⊎◌, ◌≤◌, ◌<◌, ℕ, ◌+◌, ◌-◌, IsTrue, List, length, slice_index, Some}
use Rattle.std.specs.List.{list_any}
use Rattle.tk_base.specs.Regs.{Registers}
use Rattle.rv32_model.specs.declared.turn_end.TurnEnd.TheVariants.{Went}
use Rattle.rv32_model.specs.Laws.{stores_at}
use Rattle.tk_base.specs.declared.kinds.PairKind.{PairKind}
use Rattle.tk_base.specs.Kinds.{is_writable}
use Rattle.process_model.specs.Own.{Own, kernel_break_of}
use Rattle.process_model.specs.Instruction.{instruction_of, with_write}
use Rattle.process_model.specs.Handed.{HoldsInPlace, own_entering, handing, held}
use Rattle.process_model.specs.Flag.{flag_place, with_flag}
use Rattle.process_model.specs.Served.{with_written}

-- an address at which a byte of the process's own lies: from the start of its block on, below its kernel break
abbrev pub IsOwnAddress : ℕ → Own → Type 0
IsOwnAddress at own = (own.layout.start ≤ at) × (at < kernel_break_of own)

-- the byte there
abbrev pub own_byte : Own → ℕ → ℕ
own_byte own at = slice_index own.ram (at - own.layout.start)

-- a process's own as it always is: there are as many bytes as the layout says, and each buffer that it has allowed lies
-- where it may be allowed
pub record IsWhole (own : Own) : Type 0 where
  pub bytes : length own.ram ≡ kernel_break_of own - own.layout.start
  pub buffers : HoldsInPlace own

-- each byte that is the process's own before and after is as it was, or there is a cause at its address
abbrev pub ChangesAt : (ℕ → Type 0) → Own → Own → Type 0
ChangesAt Cause own o = (at : ℕ) → IsOwnAddress at own → IsOwnAddress at o
    → (own_byte o at ≡ own_byte own at) ⊎ Cause at

-- each is as it was
abbrev pub KeepsBytes : Own → Own → Type 0
KeepsBytes own o = (at : ℕ) → IsOwnAddress at own → IsOwnAddress at o → own_byte o at ≡ own_byte own at

-- an address in a buffer
abbrev pub IsInside : ℕ × ℕ → ℕ → Type 0
IsInside buffer at = (buffer.0 ≤ at) × (at < buffer.0 + buffer.1)

-- What changes bytes: an instruction that goes those that a store covers which it lists; a yield its
-- flag; a driver those inside the buffer that it writes, of a kind that it may write. To enter a driver, or to hand it
-- a pair, changes none.
pub record OnlyWritesChangeBytes : Type 0 where
  pub instruction : (own : Own) (seen : ℕ → ℕ) (regs : Registers) →
      let t = instruction_of own seen regs in
      ChangesAt (λ at. (t.end ≡ Went) × IsTrue (list_any (stores_at at) t.accesses)) own (with_write own t)
  pub flag : (place byte : ℕ) (own : Own)
      → ChangesAt (λ at. flag_place place own ≡ Some at) own (with_flag place byte own)
  pub written : (kind : PairKind) (driver number offset : ℕ) (bytes : List ℕ) (own : Own) →
      IsTrue (is_writable kind) → IsWhole own →
      ChangesAt (IsInside (held kind driver number own)) own (with_written kind driver number offset bytes own)
  pub entering : (driver : ℕ) (own : Own) → KeepsBytes own (own_entering driver own)
  pub handing : (kind : PairKind) (driver number : ℕ) (pair : ℕ × ℕ) (own : Own) →
      KeepsBytes own (handing kind driver number pair own)
