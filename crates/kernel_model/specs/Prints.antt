-- That each printed byte is one of the buffer that its process then held (TRD 104, "Read-Only Allow"), or of the line
-- of a process that an operator lists.
use Rattle.std.specs.Prelude.{◌≡◌, ◌<◌, ℕ, ◌+◌, true, false, List, length, slice_get, slice_index, All, None, Some}
use Rattle.std.specs.Prelude.{IfSome}
use Rattle.std.specs.Prelude.{is_some}
use Rattle.tk_base.specs.declared.access.Access.TheVariants.{Load}
use Rattle.tk_base.specs.declared.access.Width.TheVariants.{Byte}
use Rattle.tk_base.specs.declared.process.Choice.{Choice}
use Rattle.grant_values.specs.declared.console.WaitingWrite.{WaitingWrite}
use Rattle.tk_base.specs.declared.kinds.PairKind.TheVariants.{ReadOnly}
use Rattle.process_model.specs.Handed.{held}
use Rattle.process_model.specs.Permission.{denied}
use Rattle.process_model.specs.Served.{bytes_at}
use Rattle.driver_model.specs.Console.{console, console_writes}
use Rattle.driver_model.specs.Requests.{request_in}
use Rattle.kernel_model.specs.Record.{Record}
use Rattle.kernel_model.specs.Turn.{Act, Event, is_act}
use Rattle.kernel_model.specs.Record.{flash_of}
use Rattle.kernel_model.specs.World.{World, Label, labels, listed}
use Rattle.kernel_model.specs.Replay.{after_all}
use Rattle.kernel_model.specs.Wholes.{AllHaveWholeOwns}

-- Bytes are those of the write of a process that lives and has one waiting: byte k of them is the byte, at the offset
-- that was taken so far and k, of the read-only buffer 1 that it holds of the console.
pub record AreOfItsBuffer (bytes : List ℕ) (r : Record) : Type 0 where
  pub lives : r.own.lives ≡ true
  pub write : WaitingWrite
  pub waits : request_in console_writes r.own ≡ Some write
  pub each : (k : ℕ) → k < length bytes →
      (write.taken + k < (held ReadOnly console 1 r.own).1)
      × (slice_index bytes k
      ≡ slice_index (bytes_at (flash_of r) r.own (held ReadOnly console 1 r.own)) (write.taken + k))

-- what is printed for a process by what happens to it: by an operator's act the line of a list, of its slot; else bytes
-- of the buffer that it holds
abbrev pub IsPrintedBy : Event → ℕ → List ℕ → Record → Type 0
IsPrintedBy (Act verb) slot bytes r = bytes ≡ listed verb slot r
IsPrintedBy other slot bytes r = AreOfItsBuffer bytes r

-- what a step prints, it prints of the buffer that the process of that slot held before the step, or as its line in a
-- list
abbrev pub PrintsItsBuffer : World → Label → Type 0
PrintsItsBuffer w label = 0 < length label.printed →
    let there = slice_get w.records label.slot in
    (is_some there ≡ true) × IfSome there (IsPrintedBy label.event label.slot label.printed)

-- so it is in each step after any choices; of a process that has ended nothing is printed but its line in a list
abbrev pub PrintsAreOfBuffers : Type 0
PrintsAreOfBuffers = (w : World) (choices : List Choice) (choice : Choice) →
    let v = after_all w choices in All (PrintsItsBuffer v) (labels v choice)

-- a process could load each of so many bytes from a place of its buffer on
abbrev pub CouldLoad : Record → ℕ → ℕ → Type 0
CouldLoad r from count = (k : ℕ) → k < count →
    denied r.own.layout Load ((held ReadOnly console 1 r.own).0 + (from + k)) Byte ≡ None

-- what a step prints for a process, but as its line in a list, the process of that slot could load where it stood
-- before the step
abbrev pub PrintsWhatItCouldLoad : World → Label → Type 0
PrintsWhatItCouldLoad w label =
    is_act label.event ≡ false →
    IfSome (slice_get w.records label.slot) (λ r.
    IfSome (request_in console_writes r.own) (λ write. CouldLoad r write.taken (length label.printed)))

-- so it is in each step after any choices, from a world in which what is the processes' own is whole
abbrev pub PrintsCouldBeLoaded : Type 0
PrintsCouldBeLoaded = (w : World) (choices : List Choice) (choice : Choice) → AllHaveWholeOwns w →
    let v = after_all w choices in All (PrintsWhatItCouldLoad v) (labels v choice)
