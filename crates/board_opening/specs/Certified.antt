-- Laws of each run from a boot, by any choices. They speak of a process and its grants (Levy et al., SOSP 2017, section
-- 4), of its calls, upcalls and buffers (TRD 104, "Yield", "Subscribe", "Read-Only Allow").
use Rattle.std.specs.Prelude.{◌≡◌, ◌≢◌, ◌↔◌, ◌<◌, ℕ, ◌+◌, true, false, replicate, List, [], ◌∷◌, ◌++◌, length}
use Rattle.std.specs.Prelude.{slice_get, All, Some, None, IfSome}
use Rattle.tk_base.specs.declared.process.Choice.{Choice}
use Rattle.tk_base.specs.declared.process.Choice.TheVariants.{Pass}
use Rattle.tk_base.specs.declared.process.Verb.TheVariants.{Restart}
use Rattle.script_text.specs.Settings.{ScriptSettings as Script}
use Rattle.process_record.specs.Process.{is_alive}
use Rattle.driver_model.specs.Commands.{QueueName, Writes}
use Rattle.driver_model.specs.Lines.{RequestOf}
use Rattle.kernel_model.specs.Record.{Record}
use Rattle.kernel_model.specs.Turn.{Act, Stored}
use Rattle.kernel_model.specs.World.{World, Label, after, labels, lane_count}
use Rattle.kernel_model.specs.Named.{words_in}
use Rattle.kernel_model.specs.Run.{next, round}
use Rattle.kernel_model.specs.Accounts.{IsAccountedFor}
use Rattle.kernel_model.specs.Edges.{arrivals_in}
use Rattle.kernel_model.specs.Choices.{Throughout, are_ready, labels_of_all}
use Rattle.kernel_model.specs.Replay.{after_all, chosen, history}
use Rattle.kernel_model.specs.Causes.{AllHaveCauses}
use Rattle.kernel_model.specs.Lives.{BlocksAreApart, IsAsAtFirst, StaysButPressed}
use Rattle.kernel_laws.specs.Alarms.{StopsAtAlarm, WaitsForAlarm}
use Rattle.kernel_laws.specs.Inputs.{HasRoom, KeepsInput, RingHasTheLast, bytes_arriving, inputs_told, ring_in}
use Rattle.kernel_laws.specs.OneRun.{NothingIsLeft}
use Rattle.kernel_laws.specs.Words.{of_lane, words_told}
use Rattle.kernel_histories.specs.Drops.{drops_of}
use Rattle.kernel_lives.specs.Lists.{ListsAreOfRequests, once_if}
use Rattle.kernel_lives.specs.Requests.{AddUp, BeginsByCommand, asks_in, requests_begun, requests_completed}
use Rattle.kernel_lives.specs.Requests.{requests_withdrawn}
use Rattle.kernel_lives.specs.StoredBytes.{GaveStorage, all_written, writes_in}
use Rattle.kernel_lives.specs.Counts.{ticks_passed, turns_made, turns_of_all}
use Rattle.kernel_lives.specs.Writes.{StillWaits, WritesTruly, write_in}
use Rattle.board_opening.specs.Alone.{BecomesAlone}
use Rattle.board_opening.specs.Opening.{opening}

-- so it is of each process after any choices from a boot
abbrev pub EachFromBoot : (Record → Type 0) → Type 0
EachFromBoot I = (script : Script) (flash : List ℕ) (choices : List Choice) (slot : ℕ) →
    IfSome (slice_get (after_all (opening script flash) choices).records slot) I

-- no two blocks overlap
abbrev pub BlocksFromBootAreApart : Type 0
BlocksFromBootAreApart = (script : Script) (flash : List ℕ) (choices : List Choice) →
    BlocksAreApart (after_all (opening script flash) choices)

-- a step that starts a process again leaves it as it was at the boot, but for what no restart forgets
abbrev pub RestartsFromBoot : Type 0
RestartsFromBoot =
    (script : Script) (flash : List ℕ) (choices : List Choice) (choice : Choice) (slot : ℕ) (first before now : Record)
    →
    let v = after_all (opening script flash) choices in
    slice_get (opening script flash).records slot ≡ Some first →
    slice_get v.records slot ≡ Some before → slice_get (after v choice).records slot ≡ Some now →
    now.process.restarts ≢ before.process.restarts → IsAsAtFirst first now

-- After choices that are each ready in its turn, time is the turns made and the ticks passed, the steps are the choices
-- made, and the turns of all processes together are the turns made.
pub record CountsAre (choices : List Choice) (v : World) : Type 0 where
  pub time : v.clock.time ≡ turns_made choices + ticks_passed choices
  pub steps : v.clock.steps ≡ length choices
  pub turns : turns_of_all v.records ≡ turns_made choices

-- after choices from a boot that are each ready in its turn, the world's counts are those of the choices
abbrev pub CountsFromBootAddUp : Type 0
CountsFromBootAddUp = (script : Script) (flash : List ℕ) (choices : List Choice) →
    are_ready (opening script flash) choices ≡ true → CountsAre choices (after_all (opening script flash) choices)

-- so many upcalls of a process were dropped
abbrev pub HasDropped : ℕ → Record → Type 0
HasDropped n r = r.own.inbox.dropped ≡ n

-- after any choices from a boot the count of dropped upcalls of each process is the number of steps among these choices
-- that scheduled an upcall for it which was dropped
abbrev pub DropsFromBootAddUp : Type 0
DropsFromBootAddUp = (script : Script) (flash : List ℕ) (choices : List Choice) (slot : ℕ) →
    let w = opening script flash in
    IfSome (slice_get (after_all w choices).records slot) (HasDropped (drops_of slot w choices))

-- the round robin is done exactly where nothing is left to do
abbrev pub IsDoneFromBoot : Type 0
IsDoneFromBoot = (script : Script) (flash : List ℕ) (choices : List Choice) →
    let v = after_all (opening script flash) choices in (next v ≡ None) ↔ NothingIsLeft v

-- a slot stands in a waiting list once where its process lives and keeps that request, and else not at all
abbrev pub ListsFromBootAreOfRequests : Type 0
ListsFromBootAreOfRequests = (script : Script) (flash : List ℕ) (choices : List Choice) →
    ListsAreOfRequests (after_all (opening script flash) choices)

-- words are those that were told, in that order, and then those that are left
abbrev pub AreToldAndLeft : List ℕ → List ℕ → List ℕ → Type 0
AreToldAndLeft words told left = words ≡ told ++ left

-- in each lane the random words that its processes were told, in that order, and then those that are left are the
-- script's
abbrev pub WordsFromBootAreTheScripts : Type 0
WordsFromBootAreTheScripts = (script : Script) (flash : List ℕ) (choices : List Choice) (lane : ℕ) →
    let w = opening script flash in
    lane < lane_count script.partition →
    AreToldAndLeft script.words (words_told (of_lane script.partition lane (labels_of_all w choices)))
    (words_in lane (after_all w choices).devices)

-- in each lane what its processes were told of input, in that order, and then what is left in the ring, is what remains
-- of what came in by any choices from a boot, in its order; and all of that where the ring never overflowed
abbrev pub InputFromBootIsKept : Type 0
InputFromBootIsKept = (script : Script) (flash : List ℕ) (choices : List Choice) (lane : ℕ) →
    let w = opening script flash in
    lane < lane_count script.partition →
    KeepsInput [] (bytes_arriving (arrivals_in w choices))
    (inputs_told (of_lane script.partition lane (labels_of_all w choices)))
    (ring_in lane (after_all w choices).devices) (Throughout (HasRoom lane) w choices)

-- and each step among these choices leaves in the ring of a lane the last of what stood in it and of what came in, but
-- for the first bytes of that, which it read
abbrev pub RingsFromBootHaveTheLast : Type 0
RingsFromBootHaveTheLast = (script : Script) (flash : List ℕ) (choices : List Choice) (lane : ℕ) →
    lane < lane_count script.partition → Throughout (RingHasTheLast lane) (opening script flash) choices

-- a write that begins to wait in a step after any choices from a boot, and waits after each of the next ones, prints
-- the first bytes of its buffer, and completes truly
abbrev pub WritesFromBootCompleteTruly : Type 0
WritesFromBootCompleteTruly =
    (script : Script) (flash : List ℕ) (before : List Choice) (begin : Choice) (choices : List Choice) (slot : ℕ)
    (write : RequestOf Writes) →
    let w = after_all (opening script flash) before in
    let v = after w begin in
    write_in slot w ≡ None → write_in slot v ≡ Some write → StillWaits slot v choices →
    WritesTruly v choices slot write

-- no step among any choices from a boot changes a byte of a process without a cause among its labels
abbrev pub ChangesFromBootHaveCauses : Type 0
ChangesFromBootHaveCauses = (script : Script) (flash : List ℕ) (choices : List Choice) →
    AllHaveCauses (opening script flash) choices

-- once a process has ended after any choices from a boot, no further choices change its record as long as no operator
-- has it start again, but for the buttons that it knows to be pressed
abbrev pub EndedFromBootStays : Type 0
EndedFromBootStays = (script : Script) (flash : List ℕ) (choices more : List Choice) (slot : ℕ) (r : Record) →
    let v = after_all (opening script flash) choices in
    slice_get v.records slot ≡ Some r → is_alive r.process.state ≡ false →
    All (λ event. event ≢ Act Restart) (history slot v more) →
    StaysButPressed r (slice_get (after_all v more).records slot)

-- a process's storage is so many erased bytes, 0xFF each, with some writes over them, one after another
abbrev pub HasStored : ℕ → List (ℕ × List ℕ) → Record → Type 0
HasStored size writes r = r.storage ≡ all_written writes (replicate size 0xFF)

-- after any choices from a boot a process's storage is erased bytes, 0xFF each, with the process's own served writes
-- over them, one after another, through each end and start of it
abbrev pub StorageFromBootIsMemory : Type 0
StorageFromBootIsMemory = (script : Script) (flash : List ℕ) (choices : List Choice) (slot : ℕ) (first : Record) →
    let w = opening script flash in
    slice_get w.records slot ≡ Some first →
    IfSome (slice_get (after_all w choices).records slot)
    (HasStored script.storage (writes_in w.settings (history slot w choices) first))

-- a step after any choices from a boot that serves a read of the storage gives its process each byte that it asks for,
-- and that its buffer has room for, as the storage has it
abbrev pub ReadsFromBootGiveStorage : Type 0
ReadsFromBootGiveStorage =
    (script : Script) (flash : List ℕ) (choices : List Choice) (choice : Choice) (slot : ℕ) (r s : Record) →
    let v = after_all (opening script flash) choices in
    slice_get v.records slot ≡ Some r → slice_get (after v choice).records slot ≡ Some s →
    history slot v (choice ∷ []) ≡ Stored true ∷ [] → GaveStorage r s

-- after any choices from a boot the requests of a process in a queue that began to wait are exactly those that an
-- answer completed, the one that waits still, and those that were withdrawn
abbrev pub RequestsFromBootAddUp : Type 0
RequestsFromBootAddUp =
    (script : Script) (flash : List ℕ) (choices : List Choice) (queue : QueueName) (slot : ℕ) →
    let w = opening script flash in
    AddUp (requests_begun queue slot w choices) 0 (requests_completed queue slot w choices)
    (once_if (asks_in queue slot (after_all w choices))) (requests_withdrawn queue slot w choices)

-- after any choices from a boot a request of a process begins to wait by an accepted command to its driver alone
abbrev pub RequestsFromBootBeginByCommands : Type 0
RequestsFromBootBeginByCommands =
    (script : Script) (flash : List ℕ) (choices : List Choice) (choice : Choice) (queue : QueueName) (slot : ℕ) →
    let v = after_all (opening script flash) choices in
    BeginsByCommand queue slot v (after v choice) (labels v choice)

-- In a world the next choice, of the round robin or of the windows, is no turn and no pass of time as long as the alarm
-- of a process is due that may be served; and a pass ends when the next of these becomes due, if not before.
pub record AlarmsAreExact (w : World) : Type 0 where
  pub first : (choice : Choice) (slot : ℕ) (r : Record) → next w ≡ Some choice → WaitsForAlarm w choice slot r
  pub passes : (ticks slot : ℕ) (r : Record) → next w ≡ Some (Pass ticks) → StopsAtAlarm w ticks slot r

-- so it is in the world after any choices from a boot
abbrev pub AlarmsFromBootAreExact : Type 0
AlarmsFromBootAreExact = (script : Script) (flash : List ℕ) (choices : List Choice) →
    AlarmsAreExact (after_all (opening script flash) choices)

-- A run by round robin from a world, of at most so many steps: each of its steps is accounted for, and at its end the
-- record of each process is what becomes of it alone, by its own turns and answers in that run, whatever others do.
pub record IsAccountedRun (w : World) (n : ℕ) : Type 0 where
  pub steps : Throughout IsAccountedFor w (chosen n w)
  pub alone : (slot : ℕ) (r : Record) → slice_get w.records slot ≡ Some r →
      BecomesAlone w.settings r (history slot w (chosen n w)) (slice_get (round n w).world.records slot)

-- so is each run from a boot
abbrev pub RunsFromBootAreAccountedFor : Type 0
RunsFromBootAreAccountedFor = (script : Script) (flash : List ℕ) (n : ℕ) → IsAccountedRun (opening script flash) n

-- what holds of each label of each step after any choices from a boot
abbrev pub EachLabelFromBoot : (World → Label → Type 0) → Type 0
EachLabelFromBoot P = (script : Script) (flash : List ℕ) (choices : List Choice) (choice : Choice) →
    let v = after_all (opening script flash) choices in All (P v) (labels v choice)
