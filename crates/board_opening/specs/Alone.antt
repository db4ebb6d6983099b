-- A process alone: its first record by what it can see, and what becomes of it by what happens to it. No other process,
-- no slot and no flash but its object occurs here. Processes are isolated as in Levy et al., SOSP 2017, as a whole; the
-- form is this board's own.
use Rattle.std.specs.Prelude.{◌≡◌, ℕ, ◌+◌, List, slice_get, Option, Some, option_map, IfSome}
use Rattle.tk_base.specs.declared.process.Choice.{Choice}
use Rattle.tbf_headers.specs.declared.program.Main.{Main}
use Rattle.tbf_headers.specs.Addresses.{accessible_start, accessible_end_of}
use Rattle.tbf_headers.specs.Meaning.{Meaning, header_reading, of_app}
use Rattle.process_layout.specs.LayoutView.{LayoutView, extents_at_start}
use Rattle.app_placement.specs.Placement.{block_length}
use Rattle.script_text.specs.Settings.{ScriptSettings as Script}
use Rattle.kernel_model.specs.Record.{Record}
use Rattle.kernel_model.specs.Replay.{HaveSameRecord, IsReplayOf, after_all, chosen, history, replay}
use Rattle.kernel_model.specs.Run.{round}
use Rattle.kernel_model.specs.Turn.{Event}
use Rattle.kernel_model.specs.World.{World}
use Rattle.kernel_model.specs.declared.settings.Settings.{Settings}
use Rattle.board_opening.specs.Opening.{first_record, opening}

-- after some choices the record of each process is the replay of its own turns, and of the answers to it: of devices,
-- by an edge of a button, by an operator's act
abbrev pub IsReplayed : World → World → List Choice → Type 0
IsReplayed old new choices = (slot : ℕ) →
    IsReplayOf old.settings (history slot old choices) (slice_get old.records slot) (slice_get new.records slot)

-- the memory of an application by its header, its object at an address and its block from a start on; so how long the
-- block is follows from the header
abbrev pub extents_of : ℕ → ℕ → Meaning → Main → LayoutView
extents_of address start h m =
    extents_at_start (accessible_start address h m) (accessible_end_of address h m) start
    (start + block_length m.minimum_ram) m.minimum_ram

-- the first record of an application by the bytes of its object, the object's address, and where its block starts, with
-- so many bytes of storage
abbrev pub first_alone : ℕ → List ℕ → ℕ → ℕ → Option Record
first_alone storage object address start =
    of_app (λ h m. first_record storage object address (extents_of address start h m) h m) (header_reading object)

-- what becomes of it under settings, by its own turns and answers
abbrev pub alone : Settings → List ℕ → ℕ → ℕ → List Event → Option Record
alone settings object address start view =
    option_map (replay settings view) (first_alone settings.storage object address start)

-- a record is the first one of its own object where that stands and its block starts
abbrev pub IsFirstAlone : ℕ → Record → Type 0
IsFirstAlone storage r = Some r ≡ first_alone storage r.object r.process.object.address r.own.layout.start

-- so it is with each process of a world
abbrev pub OpensAlone : World → Type 0
OpensAlone w = (slot : ℕ) → IfSome (slice_get w.records slot) (IsFirstAlone w.settings.storage)

-- two processes have the same object at the same address, and their blocks start at the same one
pub record AreAlike (r s : Record) : Type 0 where
  pub object : r.object ≡ s.object
  pub address : r.process.object.address ≡ s.process.object.address
  pub start : r.own.layout.start ≡ s.own.layout.start

-- each opening world is such a one
abbrev pub OpeningsAreAlone : Type 0
OpeningsAreAlone = (script : Script) (flash : List ℕ) → OpensAlone (opening script flash)

-- On any two boards of two images and scripts, whatever their other objects and settings are, and after any two lists
-- of choices: if a process of each has the same object in the same place, under the same settings that a process can
-- see, and the same turns and answers, then it has the same record. The slots may differ.
abbrev pub SameViewSameRecord : Type 0
SameViewSameRecord = (script other : Script) (flash image : List ℕ) (choices others : List Choice) (slot place : ℕ)
    (r s : Record) →
    let v = opening script flash in
    let w = opening other image in
    v.settings ≡ w.settings → slice_get v.records slot ≡ Some r → slice_get w.records place ≡ Some s → AreAlike r s →
    history slot v choices ≡ history place w others →
    HaveSameRecord (slice_get (after_all v choices).records slot) (slice_get (after_all w others).records place)

-- a record is what becomes alone of a first one, by events
abbrev pub BecomesAlone : Settings → Record → List Event → Option Record → Type 0
BecomesAlone settings first events now =
    now ≡ alone settings first.object first.process.object.address first.own.layout.start events

-- So it is in each world of the run by round robin from an opening world: the record of a process is what becomes of it
-- alone by its turns and answers in that run, whatever others do.
abbrev pub RunsAreAlone : Type 0
RunsAreAlone = (script : Script) (flash : List ℕ) (n slot : ℕ) (r : Record) →
    let w = opening script flash in
    slice_get w.records slot ≡ Some r →
    BecomesAlone w.settings r (history slot w (chosen n w)) (slice_get (round n w).world.records slot)
