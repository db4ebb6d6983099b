-- Only proofs use this, and contracts of functions that do a part: names of parts of what happens to a process, and of
-- what is shown of it.
use Rattle.std.specs.Prelude.{ℕ, ◌+◌, ◌%◌, ◌^◌, ◌&&◌, nat_le, Bool, false, if◌then◌else◌, List, [], ◌∷◌, replicate}
use Rattle.std.specs.Prelude.{take, Option, Some, codes}
use Rattle.std.specs.Prelude.{option_map, unwrap_or}
use Rattle.tk_base.specs.Regs.{Registers, with_register}
use Rattle.syscall_abi.specs.Reply.{with_words}
use Rattle.tk_base.specs.declared.access.Denial.{Denial}
use Rattle.process_record.specs.declared.process.Process.{Process}
use Rattle.process_record.specs.declared.process.State.TheVariants.{Faulted}
use Rattle.process_record.specs.declared.summary.SlotLine.{SlotLine}
use Rattle.process_record.specs.Lines.{state_word}
use Rattle.process_record.specs.Process.{after_call, after_end}

-- all registers 0, and pc
abbrev pub cleared : ℕ → Registers
cleared pc = record { x = replicate 32 0; pc = pc }

-- the registers of a start by the entry, and the first address after the header and the protected bytes
abbrev pub regs_from : ℕ → ℕ → ℕ → ℕ → ℕ → Registers
regs_from entry protected ram length brk =
    with_words 10 (protected ∷ ram ∷ length ∷ brk ∷ []) (with_register (cleared entry) 2 ram)

-- the registers with pc past an `ecall`
abbrev pub past_call : Registers → Registers
past_call regs = record regs { pc = (regs.pc + 4) % 2 ^ 32 }

-- an operator holds a process, or lets it go: one that is held has no turns
abbrev pub with_held : Bool → Process → Process
with_held held p = record p { held = held }

-- a byte of a name: what is no visible character of ASCII is shown as `?`
abbrev pub glyph : ℕ → ℕ
glyph b = if nat_le 0x21 b && nat_le b 0x7e then b else 63

-- the first 32 bytes of a package name; none where there is no name
abbrev pub short_name : Option (List ℕ) → List ℕ
short_name name = unwrap_or (option_map (take 32) name) []

-- it ends itself, with pc past its `ecall`
abbrev pub after_exit : Process → ℕ → Process
after_exit p code = after_end (after_call p) code

-- a denial is recorded, and the process stops, held no more
abbrev pub after_fault : Process → Denial → Process
after_fault p denial = record p { state = Faulted; held = false; denial = Some denial }

-- the state of a process in one word
abbrev pub line_word : SlotLine → List ℕ
line_word line = if line.held then codes "stopped" else state_word line.state line.wait
