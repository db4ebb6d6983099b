-- What contracts see of the memory of all processes: flash, and by slot what is a process's own. A process has its
-- block and its grants as in Levy et al., SOSP 2017, section 4.
use Rattle.std.specs.Prelude.{◌≡◌, ◌≢◌, ◌≤◌, ℕ, zero, suc, ◌-◌, ◌==◌, ◌&&◌, if◌then◌else◌, false, List, [], length}
use Rattle.std.specs.Prelude.{slice_index_or, slice_set, Bool, Option, None, Some}
use Rattle.std.specs.List.{AllByRecursion}
use Rattle.tk_base.specs.declared.process.ProcessId.{ProcessId}
use Rattle.tk_base.specs.Regs.{Registers}
use Rattle.rv32_model.specs.declared.turn_end.TurnEnd.{TurnEnd}
use Rattle.rv32_model.specs.declared.turn_end.TurnEnd.TheVariants.{Went}
use Rattle.upcall_queue.specs.Pending.{empty}
use Rattle.process_layout.specs.LayoutView.{LayoutView}
use Rattle.process_layout.specs.Bounds.{bounds_of}
use Rattle.process_layout.specs.Ordered.{IsOrdered}
use Rattle.grant_model.specs.Encoding.{encode_grants, IsSound}
use Rattle.process_model.specs.declared.place.Footprint.{Footprint}
use Rattle.process_model.specs.Own.{Own, kernel_break_of, layout_of}
use Rattle.process_model.specs.Flash.{HasObject}
use Rattle.process_model.specs.Instruction.{Sees, instruction_of, with_write}
use Rattle.process_seat.specs.Places.{FitsMemory}

-- the bytes of flash, and what is a process's own in each slot, slot 0 first
pub record Homes : Type 0 where
  pub flash : List ℕ
  pub owns : List Own

-- what stands for a slot in which no process was placed: none lives there
abbrev pub nobody : Own
nobody = record {
  object = record { address = 0; size = 0 };
  layout = record { flash_start = 0; flash_end = 0; start = 0; end = 0; brk = 0; mark = 0 };
  ram = [];
  grants = [];
  inbox = empty;
  life = 0;
  lives = false;
}

-- what is the own of the process in a slot
abbrev pub own_of : Homes → ℕ → Own
own_of home slot = slice_index_or home.owns slot nobody

-- the same with another own in a slot
abbrev pub with_own : Homes → ℕ → Own → Homes
with_own home slot own = record home { owns = slice_set home.owns slot own }

-- the process that lives in a slot, if one does
abbrev pub living : ℕ → Option Own → Option ProcessId
living slot None = None
living slot (Some own) = if own.lives then Some (record { slot = slot; life = own.life }) else None

-- whether what stands in a slot lives, in that life
abbrev pub is_life : ℕ → Option Own → Bool
is_life life None = false
is_life life (Some own) = own.lives && own.life == life

-- nothing but what is in one slot may differ
abbrev pub ChangesOnly : ℕ → Homes → Homes → Type 0
ChangesOnly slot old new = new ≡ with_own old slot (own_of new slot)

-- where a process may begin its first life: it lies in flash and RAM, and has no grants yet
pub record CanMoveIn (flash ram : ℕ) (f : Footprint) : Type 0 where
  pub settled : FitsMemory flash ram f.layout
  pub object : HasObject flash f.object (bounds_of f.layout)
  pub no_grants : f.layout.kernel_break ≡ f.layout.end

-- A process's own memory as it always lies: its parts in their order, the bytes below the kernel break and those of its
-- grants as many as the layout says, its accessible flash below its block.
pub record IsInPlace (own : Own) : Type 0 where
  pub ordered : IsOrdered (layout_of own)
  pub apart : own.layout.flash_end ≤ own.layout.start
  pub ram : length own.ram ≡ kernel_break_of own - own.layout.start
  pub kernel : length (encode_grants own.grants) ≡ own.layout.end - kernel_break_of own
  pub sound : AllByRecursion IsSound own.grants

-- one block ends before another begins
abbrev pub EndsBefore : LayoutView → LayoutView → Type 0
EndsBefore a b = a.end ≤ b.start

abbrev pub FootprintBefore : Footprint → Footprint → Type 0
FootprintBefore a b = EndsBefore a.layout b.layout

-- An instruction of a process: whatever bytes stand where it may not look, it is the one that its own bytes give, and
-- of memory it leaves what it writes to its own RAM.
abbrev pub MakesInstruction : List ℕ → Own → Registers → Own → Registers → TurnEnd → Type 0
MakesInstruction flash own regs own_after regs_after end =
    (seen : ℕ → ℕ) → Sees flash own seen →
    let t = instruction_of own seen regs in
    (own_after ≡ with_write own t) × (regs_after ≡ t.regs) × (end ≡ t.end)

-- So many instructions of a process, each of which goes, lead from its own and its registers to others. As always its
-- own lies in its place; and each instruction is the one that its own bytes give.
unfoldable pub MakesAll : ℕ → List ℕ → Own → Registers → Own → Registers → Type 0
MakesAll zero flash own regs own_after regs_after = (own_after ≡ own) × (regs_after ≡ regs)
MakesAll (suc k) flash own regs own_after regs_after =
    IsInPlace own
    × ((seen : ℕ → ℕ) → Sees flash own seen →
    let t = instruction_of own seen regs in
    (t.end ≡ Went) × MakesAll k flash (with_write own t) t.regs own_after regs_after)

-- the next instruction of a process does not go, and ends so: it makes a system call or is denied
abbrev pub IsStopped : List ℕ → Own → Registers → TurnEnd → Type 0
IsStopped flash own regs end =
    (end ≢ Went)
    × IsInPlace own
    × ((seen : ℕ → ℕ) → Sees flash own seen → (instruction_of own seen regs).end ≡ end)
