-- The console (Tock's driver 0x1): a process has bytes of its read-only buffer 1 written, and bytes that come in read
-- into its read-write buffer 1. One write of it and one read may wait at a time.
use Rattle.std.specs.Prelude.{ℕ, ◌+◌, ◌-◌, ◌==◌, true, false, min, if◌then◌else◌, List, [], ◌∷◌, drop}
use Rattle.std.specs.Prelude.{length, take, Option, None, Some, Ok}
use Rattle.tk_base.specs.Call.{code_of}
use Rattle.tk_base.specs.declared.call.ErrorCode.TheVariants.{CANCEL, SIZE}
use Rattle.tk_base.specs.declared.call.CallRule.TheVariants.{Empty, Nothing}
use Rattle.tk_base.specs.declared.limits.TheConstants.{PRINT_LIMIT}
use Rattle.tk_base.specs.declared.kinds.PairKind.TheVariants.{ReadOnly, ReadWrite}
use Rattle.grant_values.specs.declared.console.Console.{Console as KeptConsole}
use Rattle.grant_values.specs.declared.console.WaitingRead.{WaitingRead}
use Rattle.grant_values.specs.declared.console.WaitingWrite.{WaitingWrite}
use Rattle.grant_values.specs.declared.drivers.Driver.TheVariants.{Console}
use Rattle.grant_values.specs.Values.{KeptValue, ConsoleValue}
use Rattle.grant_values.specs.Drivers.{number_of_driver}
use Rattle.syscall_abi.specs.declared.reply.Reply.TheVariants.{Success}
use Rattle.process_model.specs.Own.{Own}
use Rattle.process_model.specs.Handed.{held}
use Rattle.process_model.specs.Served.{bytes_at, with_written}
use Rattle.driver_model.specs.Steps.{DriverStep, scheduling, silently}
use Rattle.driver_model.specs.Commands.{Commanded, Leaves, Reads, Writes, accepting, refusing}
use Rattle.driver_model.specs.Requests.{RequestAnswered, RequestKind, asking, on_request, request_in, unanswered}
use Rattle.driver_model.specs.Requests.{with_request}

-- the number of the driver
abbrev pub console : ℕ
console = number_of_driver Console

-- the console's value; one in which nothing waits where the value is another driver's
abbrev pub console_in : KeptValue → KeptConsole
console_in (ConsoleValue kept) = kept
console_in other = record { write = None; read = None }

-- where a process asks to write, and where to read; the one request stands beside the other
abbrev pub console_writes : RequestKind WaitingWrite
console_writes = record {
  driver = console;
  told = λ value. (console_in value).write;
  with_request = λ write value. ConsoleValue (record (console_in value) { write = write });
  line = Writes;
}

-- where a process asks for bytes that come in
abbrev pub console_reads : RequestKind WaitingRead
console_reads = record {
  driver = console;
  told = λ value. (console_in value).read;
  with_request = λ read value. ConsoleValue (record (console_in value) { read = read });
  line = Reads;
}

-- the read that waits is dropped: upcall 2 tells that it was cancelled
abbrev pub dropping_read : Own → DriverStep
dropping_read own = scheduling console 2 (code_of CANCEL ∷ 0 ∷ 0 ∷ []) (with_request console_reads None own)

-- a read that waits is dropped, and its process waits no more; refused where none waits
abbrev pub cancelling : Option WaitingRead → Own → Commanded
cancelling None own = refusing Nothing own
cancelling (Some read) own = record { answer = Ok Success; step = dropping_read own; acts = Leaves Reads ∷ [] }

-- its commands: the driver is there; write, and read, so many bytes, where a read of no bytes is refused; drop the read
unfoldable pub commands : ℕ → Own → List (ℕ × Commanded)
commands count own =
    (0, accepting Success own)
    ∷ (1, asking console_writes (record { length = count; taken = 0 }) own)
    ∷ (2, if count == 0 then refusing Empty own else asking console_reads (record { length = count }) own)
    ∷ (3, cancelling (request_in console_reads own) own)
    ∷ []

-- how many bytes of a write the UART takes next: at most so many of those that are left; as many are to be taken as it
-- asks for, and no more than the buffer has that is held now
abbrev pub portion : WaitingWrite → Own → ℕ
portion write own = min PRINT_LIMIT (min write.length (held ReadOnly console 1 own).1 - write.taken)

-- a process of whose write they were taken
abbrev pub taking : Own → WaitingWrite → DriverStep
taking own write =
    silently (with_request console_writes (Some (record write { taken = write.taken + portion write own })) own)

-- a process whose write completes: upcall 1 tells how many bytes were taken
abbrev pub write_completing : Own → WaitingWrite → DriverStep
write_completing own write = scheduling console 1 (write.taken ∷ 0 ∷ 0 ∷ []) (with_request console_writes None own)

-- What the UART tells a process: that it took the next bytes of its write; that it had taken all. Nothing changes where
-- no write waits.
abbrev pub taken : Own → DriverStep
taken own = on_request console_writes own (silently own) (taking own)

-- what the UART tells a process: that it had taken all bytes of its write, which completes
abbrev pub write_done : Own → DriverStep
write_done own = on_request console_writes own (silently own) (write_completing own)

-- a buffer without bytes is told by TRD 104's code for a size
abbrev pub read_status : Own → ℕ
read_status own = if (held ReadWrite console 1 own).1 == 0 then code_of SIZE else 0

-- a process whose read completes with bytes, which are moved to the start of the buffer that is held now: upcall 2
-- tells the status, and how many bytes were moved
abbrev pub reading_in : List ℕ → Own → WaitingRead → DriverStep
reading_in bytes own read =
    scheduling console 2 (read_status own ∷ length bytes ∷ 0 ∷ [])
    (with_request console_reads None (with_written ReadWrite console 1 0 bytes own))

-- What the UART tells a process: that bytes came in. Nothing changes where no read waits.
abbrev pub input : List ℕ → Own → DriverStep
input bytes own = on_request console_reads own (silently own) (reading_in bytes own)

-- the bytes of a write that come next, in the buffer that is held now
abbrev pub next_bytes : (ℕ → ℕ) → WaitingWrite → Own → List ℕ
next_bytes flash write own =
    take (portion write own) (drop write.taken (bytes_at flash own (held ReadOnly console 1 own)))

-- the next bytes of a write are taken and printed; where none is left it completes
abbrev pub sending : (ℕ → ℕ) → Own → WaitingWrite → RequestAnswered (List ℕ)
sending flash own write =
    if portion write own == 0 then record { step = write_completing own write; moved = []; completed = true }
    else record { step = taking own write; moved = next_bytes flash write own; completed = false }

-- what a step of the UART's sending half comes to for a process, with the bytes that are printed; nothing changes where
-- no write of it waits
unfoldable pub sent : (ℕ → ℕ) → Own → RequestAnswered (List ℕ)
sent flash own = on_request console_writes own (unanswered [] own) (sending flash own)

-- the oldest bytes that came in are moved into the read's buffer, as many as it asks for, and no more than the buffer
-- has that is held now; and the read completes
abbrev pub receiving : List ℕ → Own → WaitingRead → RequestAnswered (List ℕ)
receiving ring own read =
    let bytes = take (min read.length (held ReadWrite console 1 own).1) ring in
    record { step = reading_in bytes own read; moved = bytes; completed = true }

-- what a step of its receiving half comes to for a process, with these bytes in the ring; nothing changes where no read
-- of it waits
unfoldable pub received : List ℕ → Own → RequestAnswered (List ℕ)
received ring own = on_request console_reads own (unanswered [] own) (receiving ring own)
