-- That a write to the console completes truly (Tock's driver 0x1): its upcall tells how many bytes were printed for it,
-- and these are the first bytes of the buffer that its process has allowed (TRD 104, "Read-Only Allow").
use Rattle.std.specs.Prelude.{◌≡◌, ◌≤◌, ℕ, ◌==◌, ◌&&◌, Bool, true, false, not, if◌then◌else◌, List, [], ◌∷◌, length}
use Rattle.std.specs.Prelude.{min}
use Rattle.std.specs.Prelude.{slice_get, take, Option, None, Some, is_some, option_and_then, option_map}
use Rattle.std.specs.List.{flat_map, list_any}
use Rattle.tk_base.specs.declared.kinds.PairKind.TheVariants.{ReadOnly}
use Rattle.tk_base.specs.declared.process.Choice.{Choice}
use Rattle.grant_values.specs.declared.console.WaitingWrite.{WaitingWrite}
use Rattle.process_model.specs.Handed.{held}
use Rattle.process_model.specs.Served.{bytes_at, own_scheduled}
use Rattle.driver_model.specs.Console.{console, console_writes}
use Rattle.driver_model.specs.Requests.{waiting_in, with_request}
use Rattle.kernel_model.specs.Choices.{Throughout, labels_of_all}
use Rattle.kernel_model.specs.Record.{Record, flash_of}
use Rattle.kernel_model.specs.Replay.{after_all}
use Rattle.kernel_model.specs.Turn.{Event, WriteDone, is_act}
use Rattle.kernel_model.specs.Wholes.{AllHaveWholeOwns}
use Rattle.kernel_model.specs.World.{Label, World, after, labels}

-- the write of the process in a slot that waits, if there is a process and one waits
abbrev pub write_in : ℕ → World → Option WaitingWrite
write_in slot w = option_and_then (λ r. waiting_in console_writes r.own) (slice_get w.records slot)

-- the bytes of the read-only buffer 1 that it holds of the console
abbrev pub write_bytes : Record → List ℕ
write_bytes r = bytes_at (flash_of r) r.own (held ReadOnly console 1 r.own)

-- the bytes that a label tells were printed of the writes of the process in a slot: what an operator lists is of none
abbrev pub written_in : ℕ → Label → List ℕ
written_in slot label = if label.slot == slot && not (is_act label.event) then label.printed else []

-- and all that some choices print of them, in order
abbrev pub written_by : ℕ → World → List Choice → List ℕ
written_by slot w choices = flat_map (written_in slot) (labels_of_all w choices)

-- whether a process is told that its write completed
abbrev pub is_done : Event → Bool
is_done WriteDone = true
is_done other = false

-- and whether a label tells the process in a slot so
abbrev pub completes : ℕ → Label → Bool
completes slot label = label.slot == slot && is_done label.event

-- a write of the process in a slot waits after each of some choices
abbrev pub StillWaits : ℕ → World → List Choice → Type 0
StillWaits slot = Throughout (λ v choice. is_some (write_in slot (after v choice)) ≡ true)

-- its buffer has these bytes as each of some choices is made
abbrev pub BufferStays : ℕ → List ℕ → World → List Choice → Type 0
BufferStays slot bytes = Throughout (λ v choice. option_map write_bytes (slice_get v.records slot) ≡ Some bytes)

-- A write of so many bytes that completes when so many were printed of it, from its process as it is before that to the
-- process as it is after: upcall 1 is scheduled, whose first argument is how many were printed, and the write waits no
-- more; no more were printed than it asked for, and at least the lesser of that and of what the buffer has that is held
-- then; and the step in which it completes prints nothing of it.
pub record CompletesTruly (asked printed : ℕ) (last : List ℕ) (r s : Record) : Type 0 where
  pub tells : s ≡ record r {
    own = own_scheduled console 1 (printed ∷ 0 ∷ 0 ∷ []) (with_request console_writes None r.own);
  }
  pub no_more : printed ≤ asked
  pub all : min asked (held ReadOnly console 1 r.own).1 ≤ printed
  pub silent : last ≡ []

-- Of a write that begins in a step, and waits after each of some choices: what these print of it are the first bytes of
-- its buffer, in order, if that stays as it is; and if the next step tells its process that it completed, it does so
-- truly.
pub record WritesTruly (v : World) (choices : List Choice) (slot : ℕ) (write : WaitingWrite) : Type 0 where
  pub prefix : (bytes : List ℕ) → BufferStays slot bytes v choices →
      written_by slot v choices ≡ take (length (written_by slot v choices)) bytes
  pub ends : (choice : Choice) (r s : Record) →
      let u = after_all v choices in
      slice_get u.records slot ≡ Some r → slice_get (after u choice).records slot ≡ Some s →
      list_any (completes slot) (labels u choice) ≡ true →
      CompletesTruly write.length (length (written_by slot v choices)) (flat_map (written_in slot) (labels u choice))
      r s

-- so it is in every run of a world in which what is the processes' own is whole
abbrev pub WritesCompleteTruly : Type 0
WritesCompleteTruly = (w : World) (begin : Choice) (choices : List Choice) (slot : ℕ) (write : WaitingWrite) →
    AllHaveWholeOwns w → write_in slot w ≡ None →
    let v = after w begin in
    write_in slot v ≡ Some write → StillWaits slot v choices → WritesTruly v choices slot write
