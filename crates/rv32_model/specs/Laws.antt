-- What holds of the two instruction tables and of every turn. The tables are those of the RISC-V unprivileged manual,
-- "RV32/64G Instruction Set Listings" and "RVC Instruction Set Listings".
use Rattle.std.specs.Prelude.{◌≡◌, ◌≢◌, ◌⊎◌, ℕ, ◌+◌, ◌%◌, ◌≤◌, Bool, true, false, ◌&&◌, nat_le, nat_lt, [], length}
use Rattle.std.specs.Prelude.{List, Option, None, Some, Ok, IfSome, IsTrue, filter, All}
use Rattle.std.specs.List.{list_any}
use Rattle.tk_base.specs.declared.access.Access.{Access}
use Rattle.tk_base.specs.declared.access.Access.TheVariants.{Fetch, Load, Store}
use Rattle.tk_base.specs.declared.access.Width.{Width}
use Rattle.tk_base.specs.declared.access.Width.TheVariants.{Half}
use Rattle.tk_base.specs.declared.access.Rule.{Rule}
use Rattle.tk_base.specs.declared.access.Rule.TheVariants.{Breakpoint, Illegal}
use Rattle.tk_base.specs.declared.access.Denial.{Denial}
use Rattle.tk_base.specs.Regs.{Registers, register}
use Rattle.tk_base.specs.Access.{width_bytes, misaligned_first}
use Rattle.tk_base.specs.Bus.{number_at}
use Rattle.rv32_model.specs.declared.instr.Instr.{Instr}
use Rattle.rv32_model.specs.declared.instr.Instr.TheVariants as instrs
use Rattle.rv32_model.specs.declared.turn_end.TurnEnd.TheVariants.{Call, Trap, Went}
use Rattle.rv32_model.specs.Instructions.{row_fits, instruction_table}
use Rattle.rv32_model.specs.Compressed.{compressed_table, fits_parcel}
use Rattle.rv32_model.specs.UserTurn.{MemoryAccess, UserTurn, user_turn, bytes_after, denied_at, fetched, instr_of}
use Rattle.rv32_model.specs.UserTurn.{load_width, touch_of, w32_of}

-- of some rows, each tested alone, one fits at most
abbrev pub FitsOne : {A : Type 0} → (A → Bool) → List A → Type 0
FitsOne fits rows = length (filter fits rows) ≤ 1

-- no word fits two rows of the table
abbrev pub NoWordFitsTwoRows : Type 0
NoWordFitsTwoRows = (word : ℕ) → FitsOne (row_fits word) instruction_table

-- no parcel fits two rows of the table of compressed instructions
abbrev pub NoParcelFitsTwoRows : Type 0
NoParcelFitsTwoRows = (parcel : ℕ) → FitsOne (fits_parcel parcel) compressed_table

-- what denies the accesses of a process, and the bytes that it sees
abbrev pub Denies : Type 0
Denies = Access → ℕ → Width → Option Rule

-- an access is permitted
abbrev pub IsAllowed : Denies → MemoryAccess → Type 0
IsAllowed denies t = denies t.access t.address t.width ≡ None

-- each access that a turn lists is permitted
abbrev pub AccessesArePermitted : Type 0
AccessesArePermitted =
    (denies : Denies) (bytes : ℕ → ℕ) (regs : Registers)
    → All (IsAllowed denies) (user_turn denies bytes regs).accesses

-- an access is a fetch, or is at a multiple of its width
abbrev pub IsAligned : MemoryAccess → Type 0
IsAligned t = t.access ≢ Fetch → t.address % width_bytes t.width ≡ 0

-- each load and store that a turn lists is at a multiple of its width
abbrev pub DataIsAligned : Type 0
DataIsAligned =
    (denies : Denies) (bytes : ℕ → ℕ) (regs : Registers) → All IsAligned (user_turn denies bytes regs).accesses

-- A parcel that may not be fetched: the one at pc, or the one after it, where that at pc may be fetched and is the
-- first
-- half of an instruction of 32 bits ("Base Instruction-Length Encoding").
abbrev pub IsDueParcel : Denies → (ℕ → ℕ) → ℕ → Denial → Type 0
IsDueParcel denies bytes pc d =
    (d.access ≡ Fetch) × (denies Fetch d.address Half ≡ Some d.rule)
    × ((d.address ≡ pc)
    ⊎ ((d.address ≡ w32_of (pc + 2)) × (denies Fetch pc Half ≡ None) × (number_at bytes pc Half % 4 ≡ 3)))

-- a load or a store of a width at an address that is denied it, by the rule that denies it
abbrev pub IsDueData : Denies → Access → ℕ → Width → Denial → Type 0
IsDueData denies access at width d =
    (d.access ≡ access) × (d.address ≡ at) × (misaligned_first denies access at width ≡ Some d.rule)

-- What an instruction is denied for: no row fits it; it is EBREAK; it loads or stores what it may not. Every other one
-- is denied nothing.
abbrev pub IsDueOf : Denies → Registers → Denial → Option Instr → Type 0
IsDueOf denies regs d None = d ≡ denied_at Fetch regs.pc Illegal
IsDueOf denies regs d (Some instrs.Ebreak) = d ≡ denied_at Fetch regs.pc Breakpoint
IsDueOf denies regs d (Some (instrs.Load kind rd rs1 offset)) =
    IsDueData denies Load (w32_of (register regs rs1 + offset)) (load_width kind) d
IsDueOf denies regs d (Some (instrs.Store width rs1 rs2 offset)) =
    IsDueData denies Store (w32_of (register regs rs1 + offset)) width d
IsDueOf denies regs d (Some other) = ⊥

-- the instruction at pc, which may be fetched
pub record IsInstrAt (denies : Denies) (bytes : ℕ → ℕ) (pc : ℕ) (instr : Option Instr) : Type 0 where
  pub word : ℕ
  pub fetch : fetched denies bytes pc ≡ Ok word
  pub means : instr_of word ≡ instr

-- A denial is due: of a parcel that may not be fetched, or of the instruction at pc.
abbrev pub IsDue : Denies → (ℕ → ℕ) → Registers → Denial → Type 0
IsDue denies bytes regs d =
    IsDueParcel denies bytes regs.pc d
    ⊎ ((instr : Option Instr) × IsInstrAt denies bytes regs.pc instr × IsDueOf denies regs d instr)

-- so is the one of each denied turn
abbrev pub DenialsAreDue : Type 0
DenialsAreDue =
    (denies : Denies) (bytes : ℕ → ℕ) (regs : Registers) (denial : Denial)
    → (user_turn denies bytes regs).end ≡ Trap denial → IsDue denies bytes regs denial

-- a turn that ends in a call is one of ECALL, leaves the registers, and writes nothing
abbrev pub CallsAreOfEcall : Type 0
CallsAreOfEcall =
    (denies : Denies) (bytes : ℕ → ℕ) (regs : Registers) →
    let t = user_turn denies bytes regs in
    t.end ≡ Call → IsInstrAt denies bytes regs.pc (Some instrs.Ecall) × (t.regs ≡ regs) × (t.write ≡ None)

-- a turn that is denied, and leaves some bytes, changes neither registers nor bytes, and lists no access
abbrev pub ChangesNothingDenied : Registers → (ℕ → ℕ) → UserTurn → (ℕ → ℕ) → Denial → Type 0
ChangesNothingDenied regs bytes t left denial =
    t.end ≡ Trap denial → (t.regs ≡ regs) × (left ≡ bytes) × (t.accesses ≡ [])

-- so it is with every turn
abbrev pub DeniedTurnsChangeNothing : Type 0
DeniedTurnsChangeNothing =
    (denies : Denies) (bytes : ℕ → ℕ) (regs : Registers) (denial : Denial)
    → ChangesNothingDenied regs bytes (user_turn denies bytes regs) (bytes_after denies bytes regs) denial

-- whether an access is a store
abbrev pub is_store : Access → Bool
is_store Store = true
is_store other = false

-- whether an access is a store that covers the byte at an address
abbrev pub stores_at : ℕ → MemoryAccess → Bool
stores_at at t = is_store t.access && (nat_le t.address at && nat_lt at (t.address + width_bytes t.width))

-- of some accesses, and the bytes before and after them: a byte that no store among them covers is as it was
abbrev pub WritesByStores : List MemoryAccess → (ℕ → ℕ) → (ℕ → ℕ) → ℕ → Type 0
WritesByStores accesses bytes left at = list_any (stores_at at) accesses ≡ false → left at ≡ bytes at

-- so it is in every turn
abbrev pub OnlyStoresWrite : Type 0
OnlyStoresWrite =
    (denies : Denies) (bytes : ℕ → ℕ) (regs : Registers) (at : ℕ)
    → WritesByStores (user_turn denies bytes regs).accesses bytes (bytes_after denies bytes regs) at

-- what a turn writes it may store
abbrev pub MayWrite : Denies → (ℕ → ℕ) → Registers → Type 0
MayWrite denies bytes regs = IfSome (user_turn denies bytes regs).write (λ w. denies Store w.address w.width ≡ None)

-- this holds of every turn
abbrev pub WritesArePermitted : Type 0
WritesArePermitted = (denies : Denies) (bytes : ℕ → ℕ) (regs : Registers) → MayWrite denies bytes regs

-- a turn that writes goes, and what it writes is covered by a store that it lists
abbrev pub WritesAreListed : Type 0
WritesAreListed =
    (denies : Denies) (bytes : ℕ → ℕ) (regs : Registers) →
    let t = user_turn denies bytes regs in
    IfSome t.write (λ w. (t.end ≡ Went) × ((at : ℕ) → IsTrue (stores_at at (touch_of Store w.address w.width))
    → IsTrue (list_any (stores_at at) t.accesses)))

-- Two boards that look alike to a process: they deny the same, and have the same numbers where it may fetch and load.
pub record LookAlike (denies others : Denies) (bytes other_bytes : ℕ → ℕ) : Type 0 where
  pub fetches : (at : ℕ) → denies Fetch at Half ≡ others Fetch at Half
  pub accesses : (access : Access) (at : ℕ) (width : Width)
      → misaligned_first denies access at width ≡ misaligned_first others access at width
  pub parcels : (at : ℕ) → denies Fetch at Half ≡ None → number_at bytes at Half ≡ number_at other_bytes at Half
  pub loads : (at : ℕ) (width : Width) → misaligned_first denies Load at width ≡ None
      → number_at bytes at width ≡ number_at other_bytes at width

-- two turns are the same: the registers, what is written, the accesses and the end
abbrev pub IsTheSameTurn : UserTurn → UserTurn → Type 0
IsTheSameTurn t u = t ≡ u

-- a turn sees nothing but what it may access: the same turn follows from what looks alike
abbrev pub SeesOnlyPermitted : Type 0
SeesOnlyPermitted =
    (denies others : Denies) (bytes other_bytes : ℕ → ℕ) (regs : Registers)
    → LookAlike denies others bytes other_bytes
    → IsTheSameTurn (user_turn denies bytes regs) (user_turn others other_bytes regs)
