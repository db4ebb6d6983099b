-- Parts of what drivers do, by names of their own. Only proofs use this.
use Rattle.std.specs.Prelude.{ℕ, ◌+◌, ◌-◌, ◌%◌, ◌^◌, ◌==◌, Bool, min, nat_le, if◌then◌else◌, List, [], ◌∷◌, take}
use Rattle.std.specs.Prelude.{Option, Some, Ok, is_some, option_map, unwrap_or}
use Rattle.std.specs.Int.{w32, to_le_bytes}
use Rattle.tk_base.specs.declared.call.CallRule.TheVariants.{Busy, Empty, NoRoom}
use Rattle.tk_base.specs.declared.kinds.PairKind.TheVariants.{ReadWrite}
use Rattle.grant_values.specs.declared.alarm.Armed.{Armed}
use Rattle.grant_values.specs.declared.console.WaitingRead.{WaitingRead}
use Rattle.grant_values.specs.declared.random.RandomRequest.{RandomRequest}
use Rattle.grant_values.specs.Values.{ButtonsValue}
use Rattle.syscall_abi.specs.declared.reply.Reply.TheVariants.{Success}
use Rattle.process_model.specs.Own.{Own}
use Rattle.process_model.specs.Handed.{has_place, held, own_entering}
use Rattle.process_model.specs.Served.{with_kept, with_written}
use Rattle.driver_model.specs.Steps.{DriverStep, silently}
use Rattle.driver_model.specs.Commands.{Commanded, Waits, refusing}
use Rattle.driver_model.specs.Requests.{RequestKind, asking, with_request}
use Rattle.driver_model.specs.Alarm.{fired, nearer, ticks_left_in}
use Rattle.driver_model.specs.Buttons.{buttons}
use Rattle.driver_model.specs.Console.{console, console_reads}
use Rattle.driver_model.specs.Random.{random}

-- an alarm is due where its delta has passed since its reference
abbrev pub is_due : ℕ → Armed → Bool
is_due now alarm = nat_le alarm.delta ((now + (2 ^ 32 - alarm.reference)) % 2 ^ 32)

-- a process whose alarm fired, if one did
abbrev pub fired_if : ℕ → Own → Option Armed → DriverStep
fired_if now own due = unwrap_or (option_map (λ alarm. fired now alarm own) due) (silently own)

-- the least so far, and then with one slot more
abbrev pub nearer_with : ℕ → List Own → Option ℕ → ℕ → Option ℕ
nearer_with now owns least slot = nearer least (ticks_left_in now owns slot)

-- a request begins to wait, if there is room for the driver's grant
abbrev pub beginning : {R : Type 0} → RequestKind R → R → Own → Commanded
beginning request_kind request own =
    let o = with_request request_kind (Some request) (own_entering request_kind.driver own) in
    if has_place request_kind.driver own
    then record { answer = Ok Success; step = silently o; acts = Waits request_kind.line ∷ [] }
    else refusing NoRoom own

-- where a request waits already there is none more
abbrev pub asking_beside : {R : Type 0} → RequestKind R → Option R → R → Own → Commanded
asking_beside request_kind waiting request own =
    if is_some waiting then refusing Busy own else beginning request_kind request own

-- a read of so many bytes begins to wait; one of no bytes is refused
abbrev pub asking_to_read : ℕ → Own → Commanded
asking_to_read count own =
    if count == 0 then refusing Empty own else asking console_reads (record { length = count }) own

-- the oldest bytes that came in, as many as a read asks for, and no more than the buffer has that is held now
abbrev pub bytes_moving : List ℕ → WaitingRead → Own → List ℕ
bytes_moving ring read own = take (min read.length (held ReadWrite console 1 own).1) ring

-- a process that is told of these buttons
abbrev pub with_enabled : ℕ → Own → Own
with_enabled mask own = with_kept buttons (ButtonsValue mask) own

-- a process with the first bytes of a word, the lowest first, after those that were written so far
abbrev pub with_word : ℕ → ℕ → RandomRequest → Own → Own
with_word word left request own =
    with_written ReadWrite random 0 request.written (take (min 4 left) (to_le_bytes w32 word)) own
