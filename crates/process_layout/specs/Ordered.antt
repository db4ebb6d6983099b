use Rattle.std.specs.Prelude.{◌≡◌, ◌%◌, ◌≤◌}
use Rattle.process_layout.specs.LayoutView.{LayoutView}

-- The places of a process's memory (Levy et al., SOSP 2017) stand in their order. The block, the break and the
-- kernel break lie at multiples of 4, as the protection registers need them (RISC-V privileged manual, "Physical
-- Memory Protection").
pub record IsOrdered (e : LayoutView) : Type 0 where
  pub flash : e.flash_start ≤ e.flash_end
  pub block : e.start ≤ e.brk
  pub grants : e.brk ≤ e.kernel_break
  pub end : e.kernel_break ≤ e.end
  pub buffers : e.mark ≤ e.brk
  pub start_aligned : e.start % 4 ≡ 0
  pub end_aligned : e.end % 4 ≡ 0
  pub brk_aligned : e.brk % 4 ≡ 0
  pub kernel_break_aligned : e.kernel_break % 4 ≡ 0
