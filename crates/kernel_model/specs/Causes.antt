-- What changes the bytes of a process: of its own RAM, of its whole block, of its storage (Levy et al., SOSP 2017; TRD
-- 104, "Yield", "Exit", "Read-Write Allow"; the userspace-readable allow of Tock's kernel).
use Rattle.std.specs.Prelude.{◌≡◌, ◌≢◌, ◌⊎◌, ◌≤◌, ◌<◌, ℕ, ◌+◌, ◌==◌, ◌&&◌, Bool, true, false, IsTrue, List, [], length}
use Rattle.std.specs.Prelude.{slice_get}
use Rattle.std.specs.Prelude.{min, slice_index, Option, None, Some, is_none, is_some, IfSome, IsSomeAnd}
use Rattle.std.specs.Prelude.{option_map, unwrap_or}
use Rattle.std.specs.List.{Any, list_any}
use Rattle.tk_base.specs.declared.process.Choice.{Choice}
use Rattle.tk_base.specs.declared.process.Choice.TheVariants.{Run}
use Rattle.tk_base.specs.declared.process.Verb.TheVariants.{Restart}
use Rattle.tk_base.specs.declared.kinds.PairKind.TheVariants.{ReadOnly, ReadWrite}
use Rattle.rv32_model.specs.Laws.{stores_at}
use Rattle.process_model.specs.Own.{Own}
use Rattle.process_model.specs.Changes.{ChangesAt, IsInside, IsWhole}
use Rattle.process_model.specs.Handed.{held}
use Rattle.driver_model.specs.Bytes.{clock_buffer}
use Rattle.driver_model.specs.Alarm.{alarm_driver}
use Rattle.driver_model.specs.Console as console
use Rattle.driver_model.specs.Random as random
use Rattle.driver_model.specs.Requests.{waiting_in}
use Rattle.driver_model.specs.Storage as storage
use Rattle.grant_values.specs.declared.storage.StorageKind.TheVariants.{Write}
use Rattle.process_record.specs.declared.emit.CallMade.{CallMade}
use Rattle.kernel_model.specs.Record.{Record}
use Rattle.kernel_model.specs.declared.settings.Settings.{Settings}
use Rattle.kernel_model.specs.Turn.{Act, Event, Turn, Alarmed, Input, Word, Stored, TurnTrace}
use Rattle.kernel_model.specs.Turn.{apply, turned}
use Rattle.kernel_model.specs.World.{World, Label, after, labels}
use Rattle.kernel_model.specs.Histories.{ends_life}
use Rattle.kernel_model.specs.Choices.{OfEachProcess, Throughout}
use Rattle.kernel_model.specs.Replay.{chosen, events}
use Rattle.kernel_model.specs.Stretch.{IsStretch}

-- whether a call showed its process the clock: command 2 of the alarm does so, where it broke no rule
abbrev pub showed_clock : Option CallMade → Bool
showed_clock call =
    unwrap_or (option_map (λ made. made.class == 2
    && ((slice_index made.args 0 == alarm_driver && slice_index made.args 1 == 2) && is_none made.rule)) call) false

-- The flag of a yield, which a turn told at an address: the turn told a call that broke no rule, which is a yield that
-- does not wait, class 0 with 0 in a0, and its a1 has the address; and the byte there lies in accessible RAM, where the
-- process may store it (TRD 104, "Yield").
pub record IsFlagOfYield (r : Record) (told : TurnTrace) (at : ℕ) : Type 0 where
  pub flag : told.flag ≡ Some at
  pub made : IsSomeAnd told.call (λ call. (call.class ≡ 0) × (slice_index call.args 0 ≡ 0)
      × (slice_index call.args 1 ≡ at) × (call.rule ≡ None))
  pub from : r.own.layout.start ≤ at
  pub below : at < r.own.layout.brk

-- A cause in a process's own turn, by what the turn told and by the record before and after it: a store that covers the
-- address; the flag of its yield; that it started again, where the turn told an exit or a denial; the clock that was
-- shown in the buffer which the process held for it.
abbrev pub IsDoneByTurn : Record → Record → TurnTrace → ℕ → Type 0
IsDoneByTurn r s told at =
    IsTrue (list_any (stores_at at) told.accesses)
    ⊎ (IsFlagOfYield r told at
    ⊎ (((ends_life told ≡ true) × (s.process.restarts ≡ r.process.restarts + 1))
    ⊎ ((showed_clock told.call ≡ true) × IsInside (clock_buffer r.own) at)))

-- the buffer that a process holds for the device that answers it so; one without bytes, where the answer moves none
abbrev pub buffer_for : Event → Own → ℕ × ℕ
buffer_for (Alarmed now) own = clock_buffer own
buffer_for (Input bytes) own = held ReadWrite console.console 1 own
buffer_for (Word word) own = held ReadWrite random.random 0 own
buffer_for (Stored moved) own = held ReadWrite storage.storage 0 own
buffer_for other own = (0, 0)

-- an answer that writes over a place of the storage: it serves a request that waits in the process's grant, and does
-- not fail; and what that asks is to write so many bytes from an offset on, of which the place is one, and one that the
-- buffer reaches which the process then holds for it
abbrev pub Overwrites : Event → Record → ℕ → Type 0
Overwrites (Stored true) r k =
    IsSomeAnd (waiting_in storage.storages r.own) (λ request.
    (request.kind ≡ Write) × (request.offset ≤ k)
    × (k < request.offset + min request.length (held ReadOnly storage.storage 0 r.own).1))
Overwrites other r k = ⊥

-- A cause in what a process is told, or in what an operator does to it, by its record before that and after it: the
-- address lies inside the buffer that it held for the device; or an operator had it start again.
abbrev pub IsDoneByAnswer : Event → Record → Record → ℕ → Type 0
IsDoneByAnswer event r s at =
    IsInside (buffer_for event r.own) at ⊎ ((event ≡ Act Restart) × (s.process.restarts ≡ r.process.restarts + 1))

-- A label with a cause of a change of a byte of the process in a slot, of which this is the record before and after the
-- step: its own turn with such a cause; or an answer to it, or an operator's act on it, with one.
abbrev pub IsCause : ℕ → Record → Record → ℕ → Label → Type 0
IsCause slot r s at label =
    (label.slot ≡ slot) × (IsDoneByTurn r s label.trace at ⊎ IsDoneByAnswer label.event r s at)

-- a byte of the storage is as it was, or there is a cause
abbrev pub StorageChangesAt : (ℕ → Type 0) → List ℕ → List ℕ → Type 0
StorageChangesAt Cause bytes after =
    (k : ℕ) → k < length bytes → (slice_index after k ≡ slice_index bytes k) ⊎ Cause k

-- what a step leaves of the process in a slot, whose record was this one
pub record ChangeHasACause (w : World) (choice : Choice) (slot : ℕ) (r s : Record) : Type 0 where
  -- each byte that lies below the kernel break before and after it is as it was, or a label of the step has the cause
  pub own : ChangesAt (λ at. Any (IsCause slot r s at) (labels w choice)) r.own s.own
  -- so it is with each byte of its storage, where the cause is a request of its own to write there, which is served
  pub storage : (k : ℕ) → k < length r.storage → (slice_index s.storage k ≡ slice_index r.storage k)
      ⊎ Any (λ label. (label.slot ≡ slot) × Overwrites label.event r k) (labels w choice)
  -- and where the step is no turn of it, no answer to it and no act on it, all is as it was, the bytes of its grants
  -- too
  pub others : events slot w choice ≡ [] → s ≡ r

-- of a step, whichever process is looked at
abbrev pub EachChangeHasACause : World → Choice → Type 0
EachChangeHasACause w choice = OfEachProcess w choice (ChangeHasACause w choice)

-- in a world what is the own of each process is whole
abbrev pub AreWhole : World → Type 0
AreWhole w = (slot : ℕ) (r : Record) → slice_get w.records slot ≡ Some r → IsWhole r.own

-- each of some choices, in its turn, changes no byte of a process without a cause
abbrev pub AllHaveCauses : World → List Choice → Type 0
AllHaveCauses w choices = Throughout EachChangeHasACause w choices

-- So it is with every step of a world in which the owns are whole; in any world with every turn of a process whose own
-- is whole, and with all turns of a quiet stretch.
pub record StepsHaveCauses : Type 0 where
  pub any : (w : World) (choice : Choice) → AreWhole w → EachChangeHasACause w choice
  pub turn : (w : World) (slot : ℕ) → IfSome (slice_get w.records slot) (λ r. IsWhole r.own)
      → EachChangeHasACause w (Run slot)
  pub stretch : (k : ℕ) (w after : World) → IsStretch k w after → AllHaveCauses w (chosen k w)

-- An answer to a process, or an operator's act on it, changes a byte of its own with such a cause alone, and one of its
-- storage only where the request that it serves asks to write there, if its own is whole.
pub record AnswerHasCauses (event : Event) (r s : Record) : Type 0 where
  pub own : ChangesAt (IsDoneByAnswer event r s) r.own s.own
  pub storage : StorageChangesAt (Overwrites event r) r.storage s.storage

abbrev pub AnswersHaveCauses : Type 0
AnswersHaveCauses =
    (settings : Settings) (event : Event) (r : Record) → ((time : ℕ) → event ≢ Turn time) → IsWhole r.own
    → AnswerHasCauses event r (apply settings event r)

-- The turn of a process changes no byte of its own without a cause in it, and no storage; where it makes a call, if its
-- own is whole.
pub record TurnHasCauses (r s : Record) (told : TurnTrace) : Type 0 where
  pub own : ChangesAt (IsDoneByTurn r s told) r.own s.own
  pub storage : s.storage ≡ r.storage

abbrev pub TurnsHaveCauses : Type 0
TurnsHaveCauses =
    (settings : Settings) (time : ℕ) (r : Record) →
    let t = turned settings time r in
    (is_some t.told.call ≡ true → IsWhole r.own) → TurnHasCauses r t.after t.told
