-- What a start of a process anew leaves of it, by the header of its object (TRD 104, "Exit"; Tock Binary Format, "Main"
-- and "Program").
use Rattle.std.specs.Prelude.{◌≡◌, ℕ, ◌-◌, List, Some, Ok}
use Rattle.tbf_headers.specs.declared.program.Main.{Main}
use Rattle.tbf_headers.specs.Meaning.{Meaning, header_reading}
use Rattle.process_layout.specs.LayoutView.{first_break}
use Rattle.process_model.specs.Own.{Own, own_restarted}
use Rattle.process_record.specs.declared.process.Process.{Process}
use Rattle.process_record.specs.Process.{restarted}

-- A process with these bytes as its object, and what is its own, start again: the header is read and says where; the
-- break is the first one, the registers are those of a start, and the next life begins.
pub record StartsAgain (object : List ℕ) (before : Process × Own) (after : Process × Own) : Type 0 where
  pub h : Meaning
  pub m : Main
  pub read : header_reading object ≡ Ok h
  pub main : h.main ≡ Some m
  pub process :
      let e = before.1.layout in
      after.0 ≡ restarted before.0 h m e.start (e.end - e.start) (first_break e.start m.minimum_ram)
  pub own : after.1 ≡ own_restarted (first_break before.1.layout.start m.minimum_ram) before.1
