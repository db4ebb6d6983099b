-- Worked cases, computed from the definitions alone: for each cause for which a byte of a process may change a step in
-- which one does, so that no law of causes holds for want of a change. Words were put together by hand from the
-- unprivileged RISC-V manual, TRD 104 and the Tock Binary Format.
use Rattle.std.specs.Prelude.{IsSomeAnd}
use Rattle.tk_base.specs.Regs.{with_register}
use Rattle.tk_base.specs.declared.access.TheConstants.{FLASH_START, RAM_START}
use Rattle.tk_base.specs.declared.kinds.PairKind.TheVariants.{ReadOnly, ReadWrite, Readable}
use Rattle.tk_base.specs.declared.process.Choice.{Choice}
use Rattle.tk_base.specs.declared.process.Choice.TheVariants.{Run, Device}
use Rattle.tk_base.specs.declared.process.Dev.TheVariants as dev
use Rattle.tk_base.specs.declared.process.Verb.TheVariants.{Restart}
use Rattle.grant_values.specs.Drivers.{counts_of, drivers}
use Rattle.grant_values.specs.declared.storage.StorageKind.{StorageKind}
use Rattle.grant_values.specs.declared.storage.StorageKind.TheVariants.{Read, Write}
use Rattle.grant_model.specs.Grants.{shape_of}
use Rattle.script_text.specs.Settings as script
use Rattle.syscall_abi.specs.Call.{call_of, class_table}
use Rattle.rv32_model.specs.UserTurn.{user_turn, on_word, executed, fetched, instr_of}
use Rattle.rv32_model.specs.Instructions.{decoding, instruction_table}
use Rattle.tbf_headers.specs.Meaning.{header_reading, meaning_of}
use Rattle.tbf_headers.specs.Tlv.{tlv_places_from}
use Rattle.process_model.specs.Own.{Own}
use Rattle.process_model.specs.Handed.{handing}
use Rattle.process_model.specs.Changes.{own_byte}
use Rattle.process_model.specs.Permission.{denied}
use Rattle.process_model.specs.Instruction.{ram_after}
use Rattle.process_record.specs.Lines.{listed_line, slot_named}
use Rattle.process_record.specs.Parts.{cleared}
use Rattle.driver_model.specs.Alarm as alarm
use Rattle.driver_model.specs.Commands.{QueueName, Reads, Randoms, Stores}
use Rattle.driver_model.specs.Console as console
use Rattle.driver_model.specs.Console.{console_reads}
use Rattle.driver_model.specs.Random as random
use Rattle.driver_model.specs.Random.{randoms}
use Rattle.driver_model.specs.Requests.{with_request}
use Rattle.driver_model.specs.Storage as storage
use Rattle.driver_model.specs.Storage.{storages}
use Rattle.kernel_model.specs.Calls.{by_form, exit, restart, served, yielding}
use Rattle.kernel_model.specs.Causes.{IsCause, Overwrites}
use Rattle.kernel_model.specs.Record.{Record}
use Rattle.kernel_model.specs.Turn.{apply, turned}
use Rattle.kernel_model.specs.Worked.{board, standing}
use Rattle.kernel_model.specs.World.{World, after, carried_out, labels, may_be_made, stepped, with_queue}
use Rattle.std.proofs.Common.{◌≡◌, inl, inr, ℕ, ◌+◌, List, [], ◌∷◌, Some}
use Rattle.std.proofs.Common.{option_map, replicate, slice_get, unwrap_or, refl, arith}

-- a process whose block has the byte 9 throughout, and whose object is an `ecall` after the header of an application;
-- with registers that make a call of a class, or none
abbrev object : List ℕ
object =
    2 ∷ 0 ∷ 32 ∷ 0 ∷ 36 ∷ 0 ∷ 0 ∷ 0 ∷ 1 ∷ 0 ∷ 0 ∷ 0 ∷ 46 ∷ 0 ∷ 44 ∷ 0
    ∷ 1 ∷ 0 ∷ 12 ∷ 0 ∷ 0 ∷ 0 ∷ 0 ∷ 0 ∷ 0 ∷ 0 ∷ 0 ∷ 0 ∷ 8 ∷ 0 ∷ 0 ∷ 0
    ∷ 0x73 ∷ 0 ∷ 0 ∷ 0 ∷ []

abbrev of_nines : Record → Record
of_nines r = record r { own = record r.own { ram = replicate 256 9 } }

abbrev pub calls : ℕ → ℕ → ℕ → Record
calls class a0 a1 =
    let regs = with_register (cleared (FLASH_START + 32)) 14 class in
    of_nines (standing object 256 (with_register (with_register regs 10 a0) 11 a1))

-- the byte of the process in slot 0 at an address
abbrev byte_in : World → ℕ → ℕ
byte_in w at = unwrap_or (option_map (λ r. own_byte r.own at) (slice_get w.records 0)) 0

-- A step changes a byte of the process in slot 0 from one number to another, and its label has the cause.
record Changes (w : World) (choice : Choice) (at before later : ℕ) : Type 0 where
  was : byte_in w at ≡ before
  is : byte_in (after w choice) at ≡ later
  cause : IsSomeAnd (slice_get w.records 0) (λ r.
      IsSomeAnd (slice_get (after w choice).records 0) (λ s.
      IsSomeAnd (slice_get (labels w choice) 0) (IsCause 0 r s at)))

-- A store: `sb a2, 0(a1)` writes 7 at the start of the block.
abbrev stores : World
stores =
    let regs = with_register (with_register (cleared FLASH_START) 12 7) 11 RAM_START in
    board 1 (of_nines (standing (0x23 ∷ 0x80 ∷ 0xc5 ∷ 0 ∷ []) 256 regs) ∷ [])

by_store : Changes stores (Run 0) RAM_START 9 7
unfolding user_turn on_word executed fetched instr_of decoding instruction_table denied ram_after
    call_of class_table header_reading served by_form turned stepped carried_out may_be_made
by_store = record { was = refl; is = refl; cause = (refl, inl (inl refl)) }

-- The flag of a yield that does not wait: 0, where nothing is pending.
by_flag : Changes (board 1 (calls 0 0 RAM_START ∷ [])) (Run 0) RAM_START 9 0
unfolding user_turn on_word executed fetched instr_of decoding instruction_table denied ram_after
    call_of class_table served by_form yielding turned stepped carried_out may_be_made header_reading meaning_of
    tlv_places_from
by_flag = record {
  was = refl;
  is = refl;
  cause = (
    refl,
    inl (inr (inl (record {
      flag = refl;
      made = (refl, refl, refl, refl);
      from = omega arith;
      below = omega arith;
    }))),
  );
}

-- An exit with 1: the process starts again, its block zeroed.
by_restart : Changes (board 1 (calls 6 1 0 ∷ [])) (Run 0) RAM_START 9 0
unfolding user_turn on_word executed fetched instr_of decoding instruction_table denied ram_after
    call_of class_table served by_form exit restart turned stepped carried_out may_be_made header_reading meaning_of
    tlv_places_from
by_restart = record { was = refl; is = refl; cause = (refl, inl (inr (inr (inl (refl, refl))))) }

-- The same by an operator, who names the process as a list shows one without a name.
operated_on : World
operated_on =
    let w = board 1 (calls 0 0 0 ∷ []) in
    record w { devices = record w.devices { arrivals = record { time = 0; kind = script.Act Restart (45 ∷ []) } ∷ [] } }

by_operator : Changes operated_on (Device dev.Event) RAM_START 9 0
unfolding operated_on restart stepped carried_out may_be_made apply header_reading meaning_of tlv_places_from slot_named
    listed_line
by_operator = record { was = refl; is = refl; cause = (refl, inr (inr (refl, refl))) }

-- a process that has allowed a buffer of four bytes, the first ones of its block
abbrev pub allows : Record → (ℕ → Own → Own) → Record
allows r hand = record r { own = hand RAM_START r.own }

-- The command that shows the clock in a buffer which the process has allowed for that, where the clock began at 5.
shows_clock : World
shows_clock =
    let r = allows (calls 2 0 2) (λ at own. handing Readable alarm.alarm_driver 0 (at, 4) own) in
    let w = board 1 (r ∷ []) in
    record w { settings = record w.settings { start = 5 } }

by_clock : Changes shows_clock (Run 0) RAM_START 9 5
unfolding shows_clock user_turn on_word executed fetched instr_of decoding instruction_table denied ram_after
    call_of class_table served by_form turned stepped carried_out may_be_made header_reading meaning_of tlv_places_from
    counts_of drivers shape_of alarm.commands
by_clock =
    record { was = refl; is = refl; cause = (refl, inl (inr (inr (inr (refl, (omega arith, omega arith)))))) }

-- a board with a process that waits in a queue
abbrev pub waits : QueueName → Record → World
waits queue r =
    let w = board 1 (r ∷ []) in record w { devices = with_queue queue (λ slots. 0 ∷ []) w.devices }

-- Bytes that came in for a read.
unfoldable pub reads : World
reads =
    let r = allows (calls 0 0 0) (λ at own.
    with_request console_reads (Some (record { length = 2 })) (handing ReadWrite console.console 1 (at, 4) own)) in
    let w = waits Reads r in
    record w { devices = record w.devices { lines = record { ring = 5 ∷ 6 ∷ 7 ∷ []; ticks = 1; free = 0 } ∷ [] } }

by_input : Changes reads (Device dev.Receive) (RAM_START + 1) 9 6
unfolding reads apply stepped carried_out may_be_made counts_of drivers shape_of console.received
by_input = record { was = refl; is = refl; cause = (refl, inr (inl (omega arith, omega arith))) }

-- A random word.
unfoldable pub draws : World
draws =
    let r = allows (calls 0 0 0) (λ at own.
    with_request randoms (Some (record { count = 4; written = 0 })) (handing ReadWrite random.random 0 (at, 4) own)) in
    let w = waits Randoms r in
    record w { devices = record w.devices { words = (0x04030201 ∷ []) ∷ [] } }

by_word : Changes draws (Device dev.Random) (RAM_START + 2) 9 3
unfolding draws apply stepped carried_out may_be_made counts_of drivers shape_of random.answered
by_word = record { was = refl; is = refl; cause = (refl, inr (inl (omega arith, omega arith))) }

-- a process that asks for two bytes of its storage, which are 1 and 2, of a kind, with both buffers allowed
abbrev stores_bytes : StorageKind → World
stores_bytes kind =
    let r = allows (calls 0 0 0) (λ at own.
    with_request storages (Some (record { kind = kind; offset = 0; length = 2 }))
    (handing ReadOnly storage.storage 0 (at, 4) (handing ReadWrite storage.storage 0 (at, 4) own))) in
    waits Stores (record r { storage = 1 ∷ 2 ∷ [] })

-- Bytes that were read of the storage.
by_storage : Changes (stores_bytes Read) (Device dev.Store) (RAM_START + 1) 9 2
unfolding apply stepped carried_out may_be_made counts_of drivers shape_of storage.answered
by_storage = record { was = refl; is = refl; cause = (refl, inr (inl (omega arith, omega arith))) }

-- And a byte of the storage, by a request of its own that is served.
stored_bytes : World → List ℕ
stored_bytes w = unwrap_or (option_map (λ r. r.storage) (slice_get w.records 0)) []

by_write : (stored_bytes (after (stores_bytes Write) (Device dev.Store)) ≡ 9 ∷ 9 ∷ [])
    × IsSomeAnd (slice_get (stores_bytes Write).records 0) (λ r.
    IsSomeAnd (slice_get (labels (stores_bytes Write) (Device dev.Store)) 0) (λ label. Overwrites label.event r 1))
unfolding stored_bytes apply stepped carried_out may_be_made counts_of drivers shape_of storage.answered
by_write = (refl, (refl, omega arith, omega arith))
