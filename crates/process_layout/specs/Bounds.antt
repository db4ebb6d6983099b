-- Where a process's memory lies, but for the kernel break, which the process's grants tell (TRD 104, "Memop"; Levy et
-- al., SOSP 2017, section 4). Roundings are this board's own rule.
use Rattle.std.specs.Prelude.{ℕ, Bool, ◌&&◌, nat_le}
use Rattle.tk_base.specs.Numbers.{rounded_up}
use Rattle.process_layout.specs.LayoutView.{LayoutView}

-- A process's accessible flash is from flash_start up to flash_end, its block of RAM from start up to end, and its
-- accessible RAM from start up to brk; the RAM buffers that it allowed end at mark or before.
pub record Bounds : Type 0 where
  pub flash_start : ℕ
  pub flash_end : ℕ
  pub start : ℕ
  pub end : ℕ
  pub brk : ℕ
  pub mark : ℕ

-- whether the break may be moved (TRD 104, "Memop", brk): rounded up to a multiple of 4 it lies in the block, not above
-- the kernel break and not below the end of an allowed buffer
abbrev pub permits_break : Bounds → ℕ → ℕ → Bool
permits_break e kernel_break new =
    nat_le e.start (rounded_up new) && nat_le (rounded_up new) kernel_break && nat_le e.mark (rounded_up new)

-- the bounds of a layout
abbrev pub bounds_of : LayoutView → Bounds
bounds_of e = record {
  flash_start = e.flash_start;
  flash_end = e.flash_end;
  start = e.start;
  end = e.end;
  brk = e.brk;
  mark = e.mark;
}

-- the layout that has these bounds and a kernel break
abbrev pub layout_within : Bounds → ℕ → LayoutView
layout_within b kernel_break = record {
  flash_start = b.flash_start;
  flash_end = b.flash_end;
  start = b.start;
  end = b.end;
  brk = b.brk;
  kernel_break = kernel_break;
  mark = b.mark;
}
