-- How the memory of a process is laid out (TRD 104, "Memop"; Levy et al., SOSP 2017, section 4): its accessible flash,
-- and its block of RAM with the mark, the break and the kernel break. Roundings are this board's own rule.
use Rattle.std.specs.Prelude.{ℕ, ◌+◌}
use Rattle.tk_base.specs.Numbers.{rounded_up}

-- Where a process's memory lies. Its accessible flash is from flash_start up to flash_end and its
-- accessible RAM from start up to brk; its grants are from kernel_break up to end (Levy et al.,
-- SOSP 2017); the RAM buffers that it allowed end at mark or before.
pub record LayoutView : Type 0 where
  pub flash_start : ℕ
  pub flash_end : ℕ
  pub start : ℕ
  pub end : ℕ
  pub brk : ℕ
  pub kernel_break : ℕ
  pub mark : ℕ

-- where the memory of a process lies with its first break: there are no grants and no buffers (TRD 104, "Exit";
-- Levy et al., SOSP 2017)
abbrev pub with_break : ℕ → LayoutView → LayoutView
with_break brk e = record e { brk = brk; kernel_break = e.end; mark = e.start }

-- the first break of a process whose block starts at an address: past its least RAM, rounded up to a multiple of 4
abbrev pub first_break : ℕ → ℕ → ℕ
first_break start minimum_ram = rounded_up (start + minimum_ram)

-- where it lies at the process's start, by the ends of its accessible flash and of its block, with its first break:
-- there are no grants and no buffers
abbrev pub extents_at_start : ℕ → ℕ → ℕ → ℕ → ℕ → LayoutView
extents_at_start flash_start flash_end start end minimum_ram = record {
  flash_start = flash_start;
  flash_end = flash_end;
  start = start;
  end = end;
  brk = first_break start minimum_ram;
  kernel_break = end;
  mark = start;
}
