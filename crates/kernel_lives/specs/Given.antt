-- That what a device tells of a process is what the process gets: the bytes in its buffer, and the arguments of the
-- upcall (Tock's drivers 0x0, 0x1 and 0x40001, and 0x50001 in its list; TRD 104, "Subscribe", "Read-Write Allow"); and
-- that the bytes which its own calls have written are those that they promise (TRD 104, "Yield"; that the alarm shows
-- its clock is this board's own rule).
use Rattle.std.specs.Prelude.{◌≡◌, ◌⊎◌, ◌<◌, ◌≤◌, ℕ, ◌+◌, ◌%◌, ◌^◌, ◌==◌, Bool, true, false, min, if◌then◌else◌, List}
use Rattle.std.specs.Prelude.{[], ◌∷◌, length, slice_index, take, None, Some, IfSome, All}
use Rattle.std.specs.Int.{w32, to_le_bytes}
use Rattle.tk_base.specs.declared.kinds.PairKind.TheVariants.{ReadOnly, ReadWrite}
use Rattle.tk_base.specs.declared.process.Choice.{Choice}
use Rattle.tk_base.specs.declared.upcall.Upcall.{Upcall as Scheduled}
use Rattle.upcall_queue.specs.Pending.{scheduled}
use Rattle.grant_values.specs.declared.alarm.Armed.{Armed}
use Rattle.grant_values.specs.declared.console.WaitingRead.{WaitingRead}
use Rattle.grant_values.specs.declared.console.WaitingWrite.{WaitingWrite}
use Rattle.grant_values.specs.declared.random.RandomRequest.{RandomRequest}
use Rattle.grant_values.specs.declared.storage.StorageKind.{StorageKind}
use Rattle.grant_values.specs.declared.storage.StorageKind.TheVariants.{Read, Write}
use Rattle.grant_values.specs.declared.storage.StorageRequest.{StorageRequest}
use Rattle.process_model.specs.Changes.{IsOwnAddress, own_byte}
use Rattle.process_model.specs.Handed.{held}
use Rattle.process_model.specs.Served.{upcall_of}
use Rattle.process_record.specs.declared.emit.CallMade.{CallMade}
use Rattle.driver_model.specs.Alarm.{alarm_in, due_alarm}
use Rattle.driver_model.specs.Bytes.{clock_buffer}
use Rattle.driver_model.specs.Console.{console_reads, console_writes}
use Rattle.driver_model.specs.Random.{randoms}
use Rattle.driver_model.specs.Requests.{waiting_in}
use Rattle.driver_model.specs.Storage.{storages}
use Rattle.kernel_model.specs.Record.{Record}
use Rattle.kernel_model.specs.Turn.{Event, Alarmed, Taken, WriteDone, Input, Word, NoWord, Stored}
use Rattle.kernel_model.specs.Wholes.{HasWholeOwn}
use Rattle.kernel_model.specs.World.{World, after, labels, now_in}
use Rattle.kernel_laws.specs.Arming.{IsAccepted}
use Rattle.kernel_laws.specs.Between.{OfEachAnswer, OfEachTurn, OfTurnIn}
use Rattle.kernel_laws.specs.Delivered.{IsYield}

-- of what was scheduled all is as it was, and the upcall is scheduled then that a process holds of a driver and a
-- number, with three arguments
abbrev pub Tells : ℕ → ℕ → ℕ → ℕ → ℕ → Record → Record → Type 0
Tells driver number a b c r s =
    s.own.inbox ≡ scheduled (upcall_of driver number (a ∷ b ∷ c ∷ []) s.own) r.own.inbox

-- bytes stand in a buffer of a process whose own is whole, from a place in it on
abbrev pub StandIn : ℕ × ℕ → ℕ → List ℕ → Record → Record → Type 0
StandIn buffer place bytes r s =
    HasWholeOwn r → (k : ℕ) → k < length bytes → own_byte s.own (buffer.0 + place + k) ≡ slice_index bytes k

-- Bytes that came in for a read: no more than it asked for, and no more than the buffer has, which is read-write buffer
-- 1 of the console; they stand there from its start on; and upcall 2 tells how it went, 0, or 7 for a buffer without
-- bytes, and how many they are. The read waits no more.
pub record InputIsGiven (bytes : List ℕ) (read : WaitingRead) (r s : Record) : Type 0 where
  pub asked : length bytes ≤ read.length
  pub room : length bytes ≤ (held ReadWrite 0x1 1 r.own).1
  pub stand : StandIn (held ReadWrite 0x1 1 r.own) 0 bytes r s
  pub tells : Tells 0x1 2 (if (held ReadWrite 0x1 1 r.own).1 == 0 then 7 else 0) (length bytes) 0 r s
  pub done : waiting_in console_reads s.own ≡ None

-- A write that completes: upcall 1 tells how many bytes were taken of it, and it waits no more.
pub record WriteIsDone (write : WaitingWrite) (r s : Record) : Type 0 where
  pub tells : Tells 0x1 1 write.taken 0 0 r s
  pub done : waiting_in console_writes s.own ≡ None

-- how many random bytes a request is to get: as many as it asks for, and no more than the buffer has, which is
-- read-write buffer 0 of the driver
abbrev pub due_to : RandomRequest → Record → ℕ
due_to request r = min request.count (held ReadWrite 0x40001 0 r.own).1

-- A random word: bytes were still to be written. So many of its four bytes, the lowest first, stand behind those that
-- were written before; and where no more are to come upcall 0 tells that it went well, and how many there are, and the
-- request waits no more; else it waits on, four bytes further, and nothing is scheduled.
pub record WordIsGiven (word : ℕ) (request : RandomRequest) (r s : Record) : Type 0 where
  pub short : request.written < due_to request r
  pub stand : HasWholeOwn r → (k : ℕ) → k < 4 → request.written + k < due_to request r →
      own_byte s.own ((held ReadWrite 0x40001 0 r.own).0 + request.written + k) ≡ slice_index (to_le_bytes w32 word) k
  pub last : due_to request r ≤ request.written + 4 →
      Tells 0x40001 0 0 (due_to request r) 0 r s × (waiting_in randoms s.own ≡ None)
  pub more : request.written + 4 < due_to request r →
      (s.own.inbox ≡ r.own.inbox)
      × (waiting_in randoms s.own ≡ Some (record request { written = request.written + 4 }))

-- A request for random bytes that ends without a word: upcall 0 tells how it went, 0 where all are written, or 1 where
-- no word is left, and how many are written; and it waits no more.
pub record NoWordIsGiven (request : RandomRequest) (r s : Record) : Type 0 where
  pub tells : (outcome : ℕ) × (((outcome ≡ 0) × (due_to request r ≤ request.written))
      ⊎ ((outcome ≡ 1) × (request.written < due_to request r)))
      × Tells 0x40001 0 outcome request.written 0 r s
  pub done : waiting_in randoms s.own ≡ None

-- the number of the upcall by which a request of a kind completes
abbrev pub upcall_of_kind : StorageKind → ℕ
upcall_of_kind Read = 0
upcall_of_kind Write = 1

-- how many bytes a request moves: as many as it asks for, and no more than the buffer has, which is read-write buffer 0
-- of the storage for a read, and read-only buffer 0 for a write; none where it fails
abbrev pub moved_by : Bool → StorageKind → StorageRequest → Record → ℕ
moved_by false kind request r = 0
moved_by true Read request r = min request.length (held ReadWrite 0x50001 0 r.own).1
moved_by true Write request r = min request.length (held ReadOnly 0x50001 0 r.own).1

-- A request for storage: its upcall, 0 for a read and 1 for a write, tells how many bytes were moved, and how it went,
-- 0, or 1 for a fault; and it waits no more.
pub record StorageIsDone (moved : Bool) (request : StorageRequest) (r s : Record) : Type 0 where
  pub tells :
      Tells 0x50001 (upcall_of_kind request.kind) (moved_by moved request.kind request r) (if moved then 0 else 1) 0 r s
  pub done : waiting_in storages s.own ≡ None

-- The clock is shown to a process whose own is whole: as many of its four bytes as the readable buffer 0 of the alarm
-- has, the lowest first, stand there from its start on, and every other byte of the process is as it was.
pub record ClockIsShown (now : ℕ) (r s : Record) : Type 0 where
  pub stand : StandIn (clock_buffer r.own) 0 (take (clock_buffer r.own).1 (to_le_bytes w32 now)) r s
  pub others : HasWholeOwn r → (at : ℕ) → IsOwnAddress at r.own →
      (at < (clock_buffer r.own).0) ⊎ ((clock_buffer r.own).0 + min 4 (clock_buffer r.own).1 ≤ at) →
      own_byte s.own at ≡ own_byte r.own at

-- An alarm that fires: the clock is shown, upcall 0 tells it, and when the alarm expired, and none is armed any more.
pub record AlarmIsGiven (now : ℕ) (alarm : Armed) (r s : Record) : Type 0 where
  pub shows : ClockIsShown now r s
  pub tells : Tells 0x0 0 now ((alarm.reference + alarm.delta) % 2 ^ 32) 0 r s
  pub done : alarm_in s.own ≡ None

-- what a process gets of what it is told, by its request that waits, or its alarm that is due; of a write of which more
-- was taken no upcall
abbrev pub IsGiven : Event → Record → Record → Type 0
IsGiven (Input bytes) r s = IfSome (waiting_in console_reads r.own) (λ read. InputIsGiven bytes read r s)
IsGiven Taken r s = s.own.inbox ≡ r.own.inbox
IsGiven WriteDone r s = IfSome (waiting_in console_writes r.own) (λ write. WriteIsDone write r s)
IsGiven (Word word) r s = IfSome (waiting_in randoms r.own) (λ request. WordIsGiven word request r s)
IsGiven NoWord r s = IfSome (waiting_in randoms r.own) (λ request. NoWordIsGiven request r s)
IsGiven (Stored moved) r s = IfSome (waiting_in storages r.own) (λ request. StorageIsDone moved request r s)
IsGiven (Alarmed now) r s = IfSome (due_alarm now r.own) (λ alarm. AlarmIsGiven now alarm r s)
IsGiven other r s = Unit {0}

-- so it is in every step of every world
abbrev pub AnswersAreGiven : Type 0
AnswersAreGiven = OfEachAnswer IsGiven

-- and an accepted command 2 of the alarm shows the clock, in every step of every world
abbrev pub ClocksAreShown : Type 0
ClocksAreShown = (w : World) (choice : Choice) →
    All (OfTurnIn (λ r s told. IfSome told.call (λ call.
    IsAccepted 0x0 call → slice_index call.args 1 ≡ 2 → ClockIsShown (now_in w) r s)) w (after w choice))
    (labels w choice)

-- a yield that does not wait, with a flag: its second argument is an address of accessible RAM
pub record HasFlag (r : Record) (call : CallMade) : Type 0 where
  pub yield : IsYield 0 call
  pub from : r.own.layout.start ≤ slice_index call.args 1
  pub below : slice_index call.args 1 < r.own.layout.brk

-- The flag of a yield tells a process whose own is whole whether an upcall was delivered: 1 stands there where one was,
-- and 0 where none waited.
pub record FlagTells (r s : Record) (call : CallMade) : Type 0 where
  pub delivered : HasFlag r call → HasWholeOwn r → (upcall : Scheduled) (rest : List Scheduled) →
      r.own.inbox.pending ≡ upcall ∷ rest → own_byte s.own (slice_index call.args 1) ≡ 1
  pub none : HasFlag r call → HasWholeOwn r → r.own.inbox.pending ≡ [] →
      own_byte s.own (slice_index call.args 1) ≡ 0

-- so it is in every step of every world
abbrev pub FlagsTell : Type 0
FlagsTell = OfEachTurn (λ r s told. IfSome told.call (FlagTells r s))
