-- One turn of a process in user mode: RISC-V unprivileged manual, the chapters "RV32I Base Integer
-- Instruction Set" and "M Standard Extension for Integer Multiplication and Division"; exceptions as in
-- the privileged manual, "Machine Cause Register".
use Rattle.std.specs.Prelude.{ℕ, ◌+◌, ◌-◌, ◌*◌, ◌/◌, ◌%◌, ◌^◌, ◌==◌, Bool, not, nat_lt, if◌then◌else◌, List, [], ◌∷◌}
use Rattle.std.specs.Prelude.{◌++◌, Option, None, Some, Result, Ok, Err, ℤ, pos, ◌*ℤ◌, int_lt, bit_and, bit_or, bit_xor}
use Rattle.std.specs.Int.{cast_signed, cast_unsigned, w32, w64, int_shr}
use Rattle.std.specs.Int.RustNames.{int_div, int_rem}
use Rattle.tk_base.specs.declared.access.Access.{Access}
use Rattle.tk_base.specs.declared.access.Access.TheVariants.{Fetch, Load, Store}
use Rattle.tk_base.specs.declared.access.Width.{Width}
use Rattle.tk_base.specs.declared.access.Width.TheVariants.{Byte, Half, Word}
use Rattle.tk_base.specs.declared.access.Rule.{Rule}
use Rattle.tk_base.specs.declared.access.Rule.TheVariants.{Illegal, Breakpoint}
use Rattle.tk_base.specs.declared.access.Denial.{Denial}
use Rattle.tk_base.specs.Regs.{Registers}
use Rattle.tk_base.specs.Access.{misaligned_first}
use Rattle.tk_base.specs.Bits.{bit_of}
use Rattle.tk_base.specs.Bus.{number_at, written}
use Rattle.tk_base.specs.Regs.{register, with_register}
use Rattle.rv32_model.specs.declared.instr.Op.{Op}
use Rattle.rv32_model.specs.declared.instr.Op.TheVariants as ops
use Rattle.rv32_model.specs.declared.instr.BranchTest.{BranchTest}
use Rattle.rv32_model.specs.declared.instr.BranchTest.TheVariants.{Beq, Bne, Blt, Bge, Bltu, Bgeu}
use Rattle.rv32_model.specs.declared.instr.LoadKind.{LoadKind}
use Rattle.rv32_model.specs.declared.instr.LoadKind.TheVariants.{Lb, Lh, Lw, Lbu, Lhu}
use Rattle.rv32_model.specs.declared.instr.Instr.{Instr}
use Rattle.rv32_model.specs.declared.instr.Instr.TheVariants as instrs
use Rattle.rv32_model.specs.declared.turn_end.TurnEnd.{TurnEnd}
use Rattle.rv32_model.specs.declared.turn_end.TurnEnd.TheVariants.{Went, Call, Trap}
use Rattle.rv32_model.specs.Instructions.{decoding, sign_extended}
use Rattle.rv32_model.specs.Compressed.{decoding16}

-- one access of a turn
pub record MemoryAccess : Type 0 where
  pub access : Access
  pub address : ℕ
  pub width : Width

-- what a turn writes: the lowest bytes of a value
pub record Write : Type 0 where
  pub address : ℕ
  pub width : Width
  pub value : ℕ

-- what a turn leaves: the registers, at most one write, the accesses that it made, and how it ended
pub record UserTurn : Type 0 where
  pub regs : Registers
  pub write : Option Write
  pub accesses : List MemoryAccess
  pub end : TurnEnd

-- the bytes after a turn
abbrev pub after_write : Option Write → (ℕ → ℕ) → ℕ → ℕ
after_write None bytes = bytes
after_write (Some w) bytes = written bytes w.address w.width w.value

-- the bytes after a turn, by what it leaves
abbrev pub bytes_left : UserTurn → (ℕ → ℕ) → ℕ → ℕ
bytes_left turn bytes = after_write turn.write bytes

-- values are modulo 2^32
abbrev pub w32_of : ℕ → ℕ
w32_of n = n % 2 ^ 32

-- a denial of an access at an address, by a rule
abbrev pub denied_at : Access → ℕ → Rule → Denial
denied_at access address rule = record { access = access; address = address; rule = rule }

-- A denied turn has no effect on registers or bytes, and lists no access.
abbrev pub trapped : Registers → Denial → UserTurn
trapped regs denial = record { regs = regs; write = None; accesses = []; end = Trap denial }

-- what a parcel's fetch gives
abbrev pub judged_parcel : ℕ → Option Rule → ℕ → Result ℕ Denial
judged_parcel at None n = Ok n
judged_parcel at (Some rule) n = Err (denied_at Fetch at rule)

-- the parcel of 16 bits at an address
abbrev pub parcel_at : (Access → ℕ → Width → Option Rule) → (ℕ → ℕ) → ℕ → Result ℕ Denial
parcel_at denies bytes at = judged_parcel at (denies Fetch at Half) (number_at bytes at Half)

-- a word by its first parcel and what fetching the second one came to
abbrev pub with_second : ℕ → Result ℕ Denial → Result ℕ Denial
with_second first (Ok second) = Ok (first + 65536 * second)
with_second first (Err denial) = Err denial

-- Low bits 11 mean an instruction of 32 bits, whose second parcel is at pc + 2; others one of 16
-- ("Base Instruction-Length Encoding").
abbrev pub with_first : (Access → ℕ → Width → Option Rule) → (ℕ → ℕ) → ℕ → Result ℕ Denial → Result ℕ Denial
with_first denies bytes pc (Ok first) =
    if first % 4 == 3 then with_second first (parcel_at denies bytes (w32_of (pc + 2))) else Ok first
with_first denies bytes pc (Err denial) = Err denial

-- the bits of the instruction at pc; a denied fetch names the first parcel that is denied
unfoldable pub fetched : (Access → ℕ → Width → Option Rule) → (ℕ → ℕ) → ℕ → Result ℕ Denial
fetched denies bytes pc = with_first denies bytes pc (parcel_at denies bytes pc)

-- the instruction of a word, by the 32-bit table where its two lowest bits are set, else by the compressed one
unfoldable pub instr_of : ℕ → Option Instr
instr_of word = if word % 4 == 3 then decoding word else decoding16 word

-- the address of the instruction after one of a length
abbrev pub link : ℕ → Registers → ℕ
link length regs = w32_of (regs.pc + length)

-- an access that is made, of a width at an address
abbrev pub touch_of : Access → ℕ → Width → MemoryAccess
touch_of access address width = record { access = access; address = address; width = width }

-- the accesses that fetch an instruction: each parcel is one of its own
abbrev pub fetches : ℕ → Registers → List MemoryAccess
fetches length regs =
    touch_of Fetch regs.pc Half ∷ (if length == 2 then [] else touch_of Fetch (w32_of (regs.pc + 2)) Half ∷ [])

-- a turn that leaves these registers and goes on at an address, and accesses nothing but its instruction
abbrev pub going_on_at : ℕ → Registers → Registers → ℕ → UserTurn
going_on_at length regs after to =
    record { regs = record after { pc = to }; write = None; accesses = fetches length regs; end = Went }

-- an instruction that only sets a register
abbrev pub computed : ℕ → Registers → ℕ → ℕ → UserTurn
computed length regs rd value = going_on_at length regs (with_register regs rd value) (link length regs)

-- a jump that sets a register to the address of the instruction after it
abbrev pub jumped : ℕ → Registers → ℕ → ℕ → UserTurn
jumped length regs rd to = going_on_at length regs (with_register regs rd (link length regs)) to

-- a value as a signed number
abbrev pub signed : ℕ → ℤ
signed n = cast_signed w32 n

-- What an operation gives. A comparison gives 1 where it is so, else 0; shifts use the lowest 5 bits; MULH and its like
-- give the upper 32 bits of a product of 64; division rounds towards zero, and a zero divisor gives a quotient of all
-- ones and the dividend as the remainder.
abbrev pub operation : Op → ℕ → ℕ → ℕ
operation ops.Add x y = w32_of (x + y)
operation ops.Sub x y = w32_of (x + (2 ^ 32 - y))
operation ops.Sll x y = w32_of (x * 2 ^ (y % 32))
operation ops.Slt x y = bit_of (int_lt (signed x) (signed y))
operation ops.Sltu x y = bit_of (nat_lt x y)
operation ops.Xor x y = bit_xor x y
operation ops.Srl x y = x / 2 ^ (y % 32)
operation ops.Sra x y = cast_unsigned w32 (int_shr (signed x) (y % 32))
operation ops.Or x y = bit_or x y
operation ops.And x y = bit_and x y
operation ops.Mul x y = w32_of (x * y)
operation ops.Mulh x y = cast_unsigned w64 (signed x *ℤ signed y) / 2 ^ 32
operation ops.Mulhsu x y = cast_unsigned w64 (signed x *ℤ pos y) / 2 ^ 32
operation ops.Mulhu x y = x * y / 2 ^ 32
operation ops.Div x y = if y == 0 then 2 ^ 32 - 1 else cast_unsigned w32 (int_div (signed x) (signed y))
operation ops.Divu x y = if y == 0 then 2 ^ 32 - 1 else x / y
operation ops.Rem x y = if y == 0 then x else cast_unsigned w32 (int_rem (signed x) (signed y))
operation ops.Remu x y = if y == 0 then x else x % y

-- whether a branch is taken
abbrev pub is_taken : BranchTest → ℕ → ℕ → Bool
is_taken Beq x y = x == y
is_taken Bne x y = not (x == y)
is_taken Blt x y = int_lt (signed x) (signed y)
is_taken Bge x y = not (int_lt (signed x) (signed y))
is_taken Bltu x y = nat_lt x y
is_taken Bgeu x y = not (nat_lt x y)

-- the width of a load
abbrev pub load_width : LoadKind → Width
load_width Lb = Byte
load_width Lh = Half
load_width Lw = Word
load_width Lbu = Byte
load_width Lhu = Half

-- what a load gives of the number that was read
abbrev pub loaded : LoadKind → ℕ → ℕ
loaded Lb n = sign_extended 8 (n % 2 ^ 8)
loaded Lh n = sign_extended 16 (n % 2 ^ 16)
loaded Lw n = n
loaded Lbu n = n % 2 ^ 8
loaded Lhu n = n % 2 ^ 16

-- the turn of a load that read a number, or that is denied by a rule
abbrev pub after_load : ℕ → Registers → LoadKind → ℕ → ℕ → ℕ → Option Rule → UserTurn
after_load length regs kind rd at number None = record (computed length regs rd (loaded kind number)) {
  accesses = fetches length regs ++ (touch_of Load at (load_width kind) ∷ []);
}
after_load length regs kind rd at number (Some rule) = trapped regs (denied_at Load at rule)

-- the turn of a store, or of one that is denied by a rule
abbrev pub after_store : ℕ → Registers → Width → ℕ → ℕ → Option Rule → UserTurn
after_store length regs width at value None = record (going_on_at length regs regs (link length regs)) {
  write = Some (record { address = at; width = width; value = value });
  accesses = fetches length regs ++ (touch_of Store at width ∷ []);
}
after_store length regs width at value (Some rule) = trapped regs (denied_at Store at rule)

-- the effect of a branch by an instruction of a length in bytes
abbrev pub branch_effect : ℕ → Registers → BranchTest → ℕ → ℕ → ℕ → UserTurn
branch_effect length regs test rs1 rs2 offset =
    going_on_at length regs regs
    (if is_taken test (register regs rs1) (register regs rs2) then w32_of (regs.pc + offset) else link length regs)

-- the effect of a load from an address, and of a store at one, by an instruction of a length in bytes
abbrev pub load_effect : (Access → ℕ → Width → Option Rule) → (ℕ → ℕ) → ℕ → Registers → LoadKind → ℕ → ℕ → UserTurn
load_effect denies bytes length regs kind rd at =
    after_load length regs kind rd at (number_at bytes at (load_width kind))
    (misaligned_first denies Load at (load_width kind))

-- the turn of a store: misaligned is tested before permission
abbrev pub store_effect : (Access → ℕ → Width → Option Rule) → ℕ → Registers → Width → ℕ → ℕ → UserTurn
store_effect denies length regs width at value =
    after_store length regs width at value (misaligned_first denies Store at width)

-- the effect of an instruction of a length in bytes
abbrev pub effect : (Access → ℕ → Width → Option Rule) → (ℕ → ℕ) → ℕ → Instr → Registers → UserTurn
effect denies bytes length (instrs.Lui rd imm) regs = computed length regs rd imm
effect denies bytes length (instrs.Auipc rd imm) regs = computed length regs rd (w32_of (regs.pc + imm))
effect denies bytes length (instrs.Jal rd offset) regs = jumped length regs rd (w32_of (regs.pc + offset))
effect denies bytes length (instrs.Jalr rd rs1 offset) regs =
    jumped length regs rd (w32_of (register regs rs1 + offset) / 2 * 2)
effect denies bytes length (instrs.Branch test rs1 rs2 offset) regs = branch_effect length regs test rs1 rs2 offset
effect denies bytes length (instrs.Load kind rd rs1 offset) regs =
    load_effect denies bytes length regs kind rd (w32_of (register regs rs1 + offset))
effect denies bytes length (instrs.Store width rs1 rs2 offset) regs =
    store_effect denies length regs width (w32_of (register regs rs1 + offset)) (register regs rs2)
effect denies bytes length (instrs.OpImm op rd rs1 imm) regs =
    computed length regs rd (operation op (register regs rs1) imm)
effect denies bytes length (instrs.Op op rd rs1 rs2) regs =
    computed length regs rd (operation op (register regs rs1) (register regs rs2))
effect denies bytes length instrs.Fence regs = going_on_at length regs regs (link length regs)
effect denies bytes length instrs.Ecall regs =
    record { regs = regs; write = None; accesses = fetches length regs; end = Call }
effect denies bytes length instrs.Ebreak regs = trapped regs (denied_at Fetch regs.pc Breakpoint)

-- what no row fits is illegal
unfoldable pub executed : (Access → ℕ → Width → Option Rule) → (ℕ → ℕ) → ℕ → Option Instr → Registers → UserTurn
executed denies bytes length (Some instr) regs = effect denies bytes length instr regs
executed denies bytes length None regs = trapped regs (denied_at Fetch regs.pc Illegal)

-- the turn by what fetching came to: the instruction, whose length in bytes its two lowest bits tell, or a denial
unfoldable pub on_word : (Access → ℕ → Width → Option Rule) → (ℕ → ℕ) → Result ℕ Denial → Registers → UserTurn
on_word denies bytes (Ok word) regs = executed denies bytes (if word % 4 == 3 then 4 else 2) (instr_of word) regs
on_word denies bytes (Err denial) regs = trapped regs denial

-- one turn, over what is denied and the bytes
unfoldable pub user_turn : (Access → ℕ → Width → Option Rule) → (ℕ → ℕ) → Registers → UserTurn
user_turn denies bytes regs = on_word denies bytes (fetched denies bytes regs.pc) regs

-- the bytes that it leaves
abbrev pub bytes_after : (Access → ℕ → Width → Option Rule) → (ℕ → ℕ) → Registers → ℕ → ℕ
bytes_after denies bytes regs = bytes_left (user_turn denies bytes regs) bytes
