-- A process with what it has beside (Levy et al., SOSP 2017, section 4).
use Rattle.std.specs.Prelude.{ℕ, List}
use Rattle.process_model.specs.Own.{Own}
use Rattle.process_model.specs.Flash.{object_in}
use Rattle.process_record.specs.declared.process.Process.{Process}
use Rattle.kernel_model.specs.Record.{Record}

-- what the kernel's calls neither read nor change of a record: the bytes of its storage, and a mask of the buttons that
-- are pressed
pub record Beside : Type 0 where
  pub storage : List ℕ
  pub pressed : ℕ

-- the record that flash, a process, what is its own and what it has beside show
abbrev pub record_in : List ℕ → Process → Own → Beside → Record
record_in flash process own beside = record {
  process = process;
  object = object_in flash process.object;
  own = own;
  storage = beside.storage;
  pressed = beside.pressed;
}
