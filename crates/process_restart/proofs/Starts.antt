-- A process that starts again as the header of its object says.
use Rattle.std.proofs.Common.{◌≡◌, ℕ, ◌-◌, List, ap, ◌∙◌}
use Rattle.tbf_headers.specs.declared.app.AppStart.{AppStart}
use Rattle.process_layout.specs.LayoutView.{LayoutView, first_break}
use Rattle.process_model.specs.Own.{Own, layout_of, own_restarted}
use Rattle.process_record.specs.declared.process.Process.{Process}
use Rattle.process_record.specs.Process.{restarted, restarted_with_regs}
use Rattle.process_record.specs.Parts.{regs_from}
use Rattle.process_restart.specs.Own.{StartsAs}
use Rattle.process_restart.specs.Restarts.{StartsAgain}

pub starts_again : (object : List ℕ) (p q : Process) (own own_after : Own) (s : AppStart) (e : LayoutView) (brk : ℕ)
    → StartsAs object p.object.address s → e ≡ layout_of own → brk ≡ first_break e.start s.minimum_ram
    → q ≡ restarted_with_regs p (regs_from s.entry s.after_protected e.start (e.end - e.start) brk)
    → own_after ≡ own_restarted brk own → StartsAgain object (p, own) (q, own_after)
starts_again object p q own own_after s e brk k place at is left =
    let first = first_break own.layout.start k.m.minimum_ram in
    let brk_is : brk ≡ first =
    at ∙ ap (λ (x : AppStart). first_break e.start x.minimum_ram) k.is
    ∙ ap (λ (x : LayoutView). first_break x.start k.m.minimum_ram) place in
    record {
      h = k.h;
      m = k.m;
      read = k.read;
      main = k.main;
      process = is ∙ ap (λ (x : AppStart). restarted_with_regs p
          (regs_from x.entry x.after_protected e.start (e.end - e.start) brk)) k.is
          ∙ ap (λ (x : LayoutView). restarted p k.h k.m x.start (x.end - x.start) brk) place
          ∙ ap (restarted p k.h k.m own.layout.start (own.layout.end - own.layout.start)) brk_is;
      own = left ∙ ap (λ (n : ℕ). own_restarted n own) brk_is;
    }
