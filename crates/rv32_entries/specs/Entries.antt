-- What an entry tells: the instruction that was decoded, and its length in bytes.
use Rattle.std.specs.Prelude.{◌≡◌, ℕ, ◌+◌, ◌*◌, ◌%◌, ◌^◌, Bool, true, false, if◌then◌else◌, Option, None, Some}
use Rattle.tk_base.specs.declared.access.Width.TheVariants as widths
use Rattle.rv32_model.specs.declared.instr.Op.TheVariants as ops
use Rattle.rv32_model.specs.declared.instr.BranchTest.TheVariants as tests
use Rattle.rv32_model.specs.declared.instr.LoadKind.TheVariants as loads
use Rattle.rv32_model.specs.declared.instr.Instr.{Instr}
use Rattle.rv32_model.specs.declared.instr.Instr.TheVariants as instrs
use Rattle.rv32_entries.specs.declared.entry.Entry.{Entry}
use Rattle.rv32_entries.specs.declared.entry.Entry.TheVariants as entries
use Rattle.rv32_entries.specs.Registers.{index_of, target_index}

-- the offset of so many parcels, modulo 2^32
abbrev pub offset_of : ℕ → ℕ
offset_of half = half * 2 % 2 ^ 32

-- the instruction; none where nothing is known
abbrev pub entry_instr : Entry → Option Instr
entry_instr entries.Cold = None
entry_instr (entries.Lui rd imm) = Some (instrs.Lui (target_index rd) imm)
entry_instr (entries.Auipc rd imm) = Some (instrs.Auipc (target_index rd) imm)
entry_instr (entries.Jal rd half) = Some (instrs.Jal (target_index rd) (offset_of half))
entry_instr (entries.J half) = Some (instrs.Jal 0 (offset_of half))
entry_instr (entries.Jalr rd rs1 offset) = Some (instrs.Jalr (target_index rd) (index_of rs1) offset)
entry_instr (entries.Jr rs1 offset) = Some (instrs.Jalr 0 (index_of rs1) offset)
entry_instr (entries.Beq rs1 rs2 half) = Some (instrs.Branch tests.Beq (index_of rs1) (index_of rs2) (offset_of half))
entry_instr (entries.Bne rs1 rs2 half) = Some (instrs.Branch tests.Bne (index_of rs1) (index_of rs2) (offset_of half))
entry_instr (entries.Blt rs1 rs2 half) = Some (instrs.Branch tests.Blt (index_of rs1) (index_of rs2) (offset_of half))
entry_instr (entries.Bge rs1 rs2 half) = Some (instrs.Branch tests.Bge (index_of rs1) (index_of rs2) (offset_of half))
entry_instr (entries.Bltu rs1 rs2 half) = Some (instrs.Branch tests.Bltu (index_of rs1) (index_of rs2) (offset_of half))
entry_instr (entries.Bgeu rs1 rs2 half) = Some (instrs.Branch tests.Bgeu (index_of rs1) (index_of rs2) (offset_of half))
entry_instr (entries.Lb rd rs1 offset) = Some (instrs.Load loads.Lb (target_index rd) (index_of rs1) offset)
entry_instr (entries.Lh rd rs1 offset) = Some (instrs.Load loads.Lh (target_index rd) (index_of rs1) offset)
entry_instr (entries.Lw rd rs1 offset) = Some (instrs.Load loads.Lw (target_index rd) (index_of rs1) offset)
entry_instr (entries.Lbu rd rs1 offset) = Some (instrs.Load loads.Lbu (target_index rd) (index_of rs1) offset)
entry_instr (entries.Lhu rd rs1 offset) = Some (instrs.Load loads.Lhu (target_index rd) (index_of rs1) offset)
entry_instr (entries.Sb rs1 rs2 offset) = Some (instrs.Store widths.Byte (index_of rs1) (index_of rs2) offset)
entry_instr (entries.Sh rs1 rs2 offset) = Some (instrs.Store widths.Half (index_of rs1) (index_of rs2) offset)
entry_instr (entries.Sw rs1 rs2 offset) = Some (instrs.Store widths.Word (index_of rs1) (index_of rs2) offset)
entry_instr (entries.Addi rd rs1 imm) = Some (instrs.OpImm ops.Add (target_index rd) (index_of rs1) imm)
entry_instr (entries.Slti rd rs1 imm) = Some (instrs.OpImm ops.Slt (target_index rd) (index_of rs1) imm)
entry_instr (entries.Sltiu rd rs1 imm) = Some (instrs.OpImm ops.Sltu (target_index rd) (index_of rs1) imm)
entry_instr (entries.Xori rd rs1 imm) = Some (instrs.OpImm ops.Xor (target_index rd) (index_of rs1) imm)
entry_instr (entries.Ori rd rs1 imm) = Some (instrs.OpImm ops.Or (target_index rd) (index_of rs1) imm)
entry_instr (entries.Andi rd rs1 imm) = Some (instrs.OpImm ops.And (target_index rd) (index_of rs1) imm)
entry_instr (entries.Slli rd rs1 imm) = Some (instrs.OpImm ops.Sll (target_index rd) (index_of rs1) imm)
entry_instr (entries.Srli rd rs1 imm) = Some (instrs.OpImm ops.Srl (target_index rd) (index_of rs1) imm)
entry_instr (entries.Srai rd rs1 imm) = Some (instrs.OpImm ops.Sra (target_index rd) (index_of rs1) imm)
entry_instr (entries.Add rd rs1 rs2) = Some (instrs.Op ops.Add (target_index rd) (index_of rs1) (index_of rs2))
entry_instr (entries.Sub rd rs1 rs2) = Some (instrs.Op ops.Sub (target_index rd) (index_of rs1) (index_of rs2))
entry_instr (entries.Sll rd rs1 rs2) = Some (instrs.Op ops.Sll (target_index rd) (index_of rs1) (index_of rs2))
entry_instr (entries.Slt rd rs1 rs2) = Some (instrs.Op ops.Slt (target_index rd) (index_of rs1) (index_of rs2))
entry_instr (entries.Sltu rd rs1 rs2) = Some (instrs.Op ops.Sltu (target_index rd) (index_of rs1) (index_of rs2))
entry_instr (entries.Xor rd rs1 rs2) = Some (instrs.Op ops.Xor (target_index rd) (index_of rs1) (index_of rs2))
entry_instr (entries.Srl rd rs1 rs2) = Some (instrs.Op ops.Srl (target_index rd) (index_of rs1) (index_of rs2))
entry_instr (entries.Sra rd rs1 rs2) = Some (instrs.Op ops.Sra (target_index rd) (index_of rs1) (index_of rs2))
entry_instr (entries.Or rd rs1 rs2) = Some (instrs.Op ops.Or (target_index rd) (index_of rs1) (index_of rs2))
entry_instr (entries.And rd rs1 rs2) = Some (instrs.Op ops.And (target_index rd) (index_of rs1) (index_of rs2))
entry_instr (entries.Mul rd rs1 rs2) = Some (instrs.Op ops.Mul (target_index rd) (index_of rs1) (index_of rs2))
entry_instr (entries.Mulh rd rs1 rs2) = Some (instrs.Op ops.Mulh (target_index rd) (index_of rs1) (index_of rs2))
entry_instr (entries.Mulhsu rd rs1 rs2) = Some (instrs.Op ops.Mulhsu (target_index rd) (index_of rs1) (index_of rs2))
entry_instr (entries.Mulhu rd rs1 rs2) = Some (instrs.Op ops.Mulhu (target_index rd) (index_of rs1) (index_of rs2))
entry_instr (entries.Div rd rs1 rs2) = Some (instrs.Op ops.Div (target_index rd) (index_of rs1) (index_of rs2))
entry_instr (entries.Divu rd rs1 rs2) = Some (instrs.Op ops.Divu (target_index rd) (index_of rs1) (index_of rs2))
entry_instr (entries.Rem rd rs1 rs2) = Some (instrs.Op ops.Rem (target_index rd) (index_of rs1) (index_of rs2))
entry_instr (entries.Remu rd rs1 rs2) = Some (instrs.Op ops.Remu (target_index rd) (index_of rs1) (index_of rs2))
entry_instr entries.Fence = Some instrs.Fence
entry_instr (entries.Li rd imm) = Some (instrs.OpImm ops.Add (target_index rd) 0 imm)
entry_instr entries.Nop = Some (instrs.OpImm ops.Add 0 0 0)
entry_instr entries.Ecall = Some instrs.Ecall
entry_instr (entries.CLui rd imm) = Some (instrs.Lui (target_index rd) imm)
entry_instr (entries.CJal rd half) = Some (instrs.Jal (target_index rd) (offset_of half))
entry_instr (entries.CJ half) = Some (instrs.Jal 0 (offset_of half))
entry_instr (entries.CJalr rd rs1 offset) = Some (instrs.Jalr (target_index rd) (index_of rs1) offset)
entry_instr (entries.CJr rs1 offset) = Some (instrs.Jalr 0 (index_of rs1) offset)
entry_instr (entries.CBeqz rs1 half) = Some (instrs.Branch tests.Beq (index_of rs1) 0 (offset_of half))
entry_instr (entries.CBnez rs1 half) = Some (instrs.Branch tests.Bne (index_of rs1) 0 (offset_of half))
entry_instr (entries.CLw rd rs1 offset) = Some (instrs.Load loads.Lw (target_index rd) (index_of rs1) offset)
entry_instr (entries.CSw rs1 rs2 offset) = Some (instrs.Store widths.Word (index_of rs1) (index_of rs2) offset)
entry_instr entries.CNop = Some (instrs.OpImm ops.Add 0 0 0)
entry_instr (entries.CLi rd imm) = Some (instrs.OpImm ops.Add (target_index rd) 0 imm)
entry_instr (entries.CAddi rd rs1 imm) = Some (instrs.OpImm ops.Add (target_index rd) (index_of rs1) imm)
entry_instr (entries.CAndi rd rs1 imm) = Some (instrs.OpImm ops.And (target_index rd) (index_of rs1) imm)
entry_instr (entries.CSlli rd rs1 imm) = Some (instrs.OpImm ops.Sll (target_index rd) (index_of rs1) imm)
entry_instr (entries.CSrli rd rs1 imm) = Some (instrs.OpImm ops.Srl (target_index rd) (index_of rs1) imm)
entry_instr (entries.CSrai rd rs1 imm) = Some (instrs.OpImm ops.Sra (target_index rd) (index_of rs1) imm)
entry_instr (entries.CMv rd rs2) = Some (instrs.Op ops.Add (target_index rd) 0 (index_of rs2))
entry_instr (entries.CAdd rd rs1 rs2) = Some (instrs.Op ops.Add (target_index rd) (index_of rs1) (index_of rs2))
entry_instr (entries.CSub rd rs1 rs2) = Some (instrs.Op ops.Sub (target_index rd) (index_of rs1) (index_of rs2))
entry_instr (entries.CXor rd rs1 rs2) = Some (instrs.Op ops.Xor (target_index rd) (index_of rs1) (index_of rs2))
entry_instr (entries.COr rd rs1 rs2) = Some (instrs.Op ops.Or (target_index rd) (index_of rs1) (index_of rs2))
entry_instr (entries.CAnd rd rs1 rs2) = Some (instrs.Op ops.And (target_index rd) (index_of rs1) (index_of rs2))

-- its length in bytes
abbrev pub entry_length : Entry → ℕ
entry_length entries.Cold = 0
entry_length (entries.Lui rd imm) = 4
entry_length (entries.Auipc rd imm) = 4
entry_length (entries.Jal rd half) = 4
entry_length (entries.J half) = 4
entry_length (entries.Jalr rd rs1 offset) = 4
entry_length (entries.Jr rs1 offset) = 4
entry_length (entries.Beq rs1 rs2 half) = 4
entry_length (entries.Bne rs1 rs2 half) = 4
entry_length (entries.Blt rs1 rs2 half) = 4
entry_length (entries.Bge rs1 rs2 half) = 4
entry_length (entries.Bltu rs1 rs2 half) = 4
entry_length (entries.Bgeu rs1 rs2 half) = 4
entry_length (entries.Lb rd rs1 offset) = 4
entry_length (entries.Lh rd rs1 offset) = 4
entry_length (entries.Lw rd rs1 offset) = 4
entry_length (entries.Lbu rd rs1 offset) = 4
entry_length (entries.Lhu rd rs1 offset) = 4
entry_length (entries.Sb rs1 rs2 offset) = 4
entry_length (entries.Sh rs1 rs2 offset) = 4
entry_length (entries.Sw rs1 rs2 offset) = 4
entry_length (entries.Addi rd rs1 imm) = 4
entry_length (entries.Slti rd rs1 imm) = 4
entry_length (entries.Sltiu rd rs1 imm) = 4
entry_length (entries.Xori rd rs1 imm) = 4
entry_length (entries.Ori rd rs1 imm) = 4
entry_length (entries.Andi rd rs1 imm) = 4
entry_length (entries.Slli rd rs1 imm) = 4
entry_length (entries.Srli rd rs1 imm) = 4
entry_length (entries.Srai rd rs1 imm) = 4
entry_length (entries.Add rd rs1 rs2) = 4
entry_length (entries.Sub rd rs1 rs2) = 4
entry_length (entries.Sll rd rs1 rs2) = 4
entry_length (entries.Slt rd rs1 rs2) = 4
entry_length (entries.Sltu rd rs1 rs2) = 4
entry_length (entries.Xor rd rs1 rs2) = 4
entry_length (entries.Srl rd rs1 rs2) = 4
entry_length (entries.Sra rd rs1 rs2) = 4
entry_length (entries.Or rd rs1 rs2) = 4
entry_length (entries.And rd rs1 rs2) = 4
entry_length (entries.Mul rd rs1 rs2) = 4
entry_length (entries.Mulh rd rs1 rs2) = 4
entry_length (entries.Mulhsu rd rs1 rs2) = 4
entry_length (entries.Mulhu rd rs1 rs2) = 4
entry_length (entries.Div rd rs1 rs2) = 4
entry_length (entries.Divu rd rs1 rs2) = 4
entry_length (entries.Rem rd rs1 rs2) = 4
entry_length (entries.Remu rd rs1 rs2) = 4
entry_length entries.Fence = 4
entry_length (entries.Li rd imm) = 4
entry_length entries.Nop = 4
entry_length entries.Ecall = 4
entry_length (entries.CLui rd imm) = 2
entry_length (entries.CJal rd half) = 2
entry_length (entries.CJ half) = 2
entry_length (entries.CJalr rd rs1 offset) = 2
entry_length (entries.CJr rs1 offset) = 2
entry_length (entries.CBeqz rs1 half) = 2
entry_length (entries.CBnez rs1 half) = 2
entry_length (entries.CLw rd rs1 offset) = 2
entry_length (entries.CSw rs1 rs2 offset) = 2
entry_length entries.CNop = 2
entry_length (entries.CLi rd imm) = 2
entry_length (entries.CAddi rd rs1 imm) = 2
entry_length (entries.CAndi rd rs1 imm) = 2
entry_length (entries.CSlli rd rs1 imm) = 2
entry_length (entries.CSrli rd rs1 imm) = 2
entry_length (entries.CSrai rd rs1 imm) = 2
entry_length (entries.CMv rd rs2) = 2
entry_length (entries.CAdd rd rs1 rs2) = 2
entry_length (entries.CSub rd rs1 rs2) = 2
entry_length (entries.CXor rd rs1 rs2) = 2
entry_length (entries.COr rd rs1 rs2) = 2
entry_length (entries.CAnd rd rs1 rs2) = 2

-- whether an instruction that went, went on with the one behind it, and no jump or branch tells where
abbrev pub goes_straight : Instr → Bool
goes_straight (instrs.Lui rd imm) = true
goes_straight (instrs.Auipc rd imm) = true
goes_straight (instrs.Jal rd offset) = false
goes_straight (instrs.Jalr rd rs1 offset) = false
goes_straight (instrs.Branch test rs1 rs2 offset) = false
goes_straight (instrs.Load kind rd rs1 offset) = true
goes_straight (instrs.Store width rs1 rs2 offset) = true
goes_straight (instrs.OpImm op rd rs1 imm) = true
goes_straight (instrs.Op op rd rs1 rs2) = true
goes_straight instrs.Fence = true
goes_straight instrs.Ecall = false
goes_straight instrs.Ebreak = false

-- the bytes that an instruction of a length needs: its own, and the first parcel of the next one where it goes straight
abbrev pub reach_of : Option Instr → ℕ → ℕ
reach_of None length = 0
reach_of (Some instr) length = if goes_straight instr then length + 2 else length

abbrev pub entry_reach : Entry → ℕ
entry_reach entry = reach_of (entry_instr entry) (entry_length entry)

-- by how much a jump or a branch goes on from its own address, modulo 2^32
abbrev pub distance : Instr → ℕ
distance (instrs.Lui rd imm) = 0
distance (instrs.Auipc rd imm) = 0
distance (instrs.Jal rd offset) = offset
distance (instrs.Jalr rd rs1 offset) = 0
distance (instrs.Branch test rs1 rs2 offset) = offset
distance (instrs.Load kind rd rs1 offset) = 0
distance (instrs.Store width rs1 rs2 offset) = 0
distance (instrs.OpImm op rd rs1 imm) = 0
distance (instrs.Op op rd rs1 rs2) = 0
distance instrs.Fence = 0
distance instrs.Ecall = 0
distance instrs.Ebreak = 0

-- a jump or a branch is by whole parcels
abbrev pub HopsByParcels : Instr → Type 0
HopsByParcels instr = distance instr % 2 ≡ 0
