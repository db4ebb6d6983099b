-- The alarm (Tock's driver 0x0): a process arms one alarm by a reference and a delta, in ticks of a clock of 32 bits.
-- The clock that it shows in a buffer which the process reads (Tock's userspace-readable allow) is this board's own
-- rule.
use Rattle.std.specs.Prelude.{ℕ, ◌+◌, ◌-◌, ◌%◌, ◌^◌, min, nat_le, Bool, if◌then◌else◌, List, [], ◌∷◌, find, fold}
use Rattle.std.specs.Prelude.{slice_get, Option, None, Some, is_some, option_and_then, option_map, unwrap_or}
use Rattle.std.specs.Int.{w32, to_le_bytes}
use Rattle.std.specs.List.{range_with_len}
use Rattle.tk_base.specs.declared.call.CallRule.TheVariants.{Nothing}
use Rattle.tk_base.specs.declared.kinds.PairKind.TheVariants.{Readable}
use Rattle.tk_base.specs.declared.limits.TheConstants.{SLOT_COUNT}
use Rattle.grant_values.specs.declared.alarm.Armed.{Armed}
use Rattle.grant_values.specs.declared.drivers.Driver.TheVariants.{Alarm}
use Rattle.grant_values.specs.Values.{KeptValue, AlarmValue}
use Rattle.grant_values.specs.Drivers.{number_of_driver}
use Rattle.syscall_abi.specs.declared.reply.Reply.TheVariants.{Success, SuccessU32}
use Rattle.process_model.specs.Own.{Own}
use Rattle.process_model.specs.Served.{kept, with_kept, with_written}
use Rattle.driver_model.specs.Steps.{DriverStep, scheduling, silently}
use Rattle.driver_model.specs.Commands.{Commanded, accepting, once_entered, refusing}

-- the number of the driver
abbrev pub alarm_driver : ℕ
alarm_driver = number_of_driver Alarm

-- the tick at which an alarm expires
abbrev pub expiration : Armed → ℕ
expiration alarm = (alarm.reference + alarm.delta) % 2 ^ 32

-- the alarm in a value that is kept, if one is armed
abbrev pub armed_in : Option KeptValue → Option Armed
armed_in (Some (AlarmValue armed)) = armed
armed_in other = None

-- the alarm that a process has armed, if it has
abbrev pub alarm_in : Own → Option Armed
alarm_in own = armed_in (kept alarm_driver own)

-- a process with that alarm armed, or with none
abbrev pub with_alarm : Option Armed → Own → Own
with_alarm alarm own = with_kept alarm_driver (AlarmValue alarm) own

-- a process to which the clock is shown: in its readable buffer 0 of the alarm, the lowest byte first, as many as fit
abbrev pub showing : ℕ → Own → Own
showing now own = with_written Readable alarm_driver 0 0 (to_le_bytes w32 now) own

-- an alarm is armed in place of the one before; the reply is when it expires
abbrev pub arming : Armed → Own → Commanded
arming alarm own =
    once_entered alarm_driver own (λ o. accepting (SuccessU32 (expiration alarm)) (with_alarm (Some alarm) o))

-- an alarm that is armed is stopped
abbrev pub stopping : Option Armed → Own → Commanded
stopping None own = refusing Nothing own
stopping (Some alarm) own = accepting Success (with_alarm None own)

-- its commands, with two arguments, when the clock shows so many ticks: the driver is there; ticks a second; the clock,
-- which is shown too; stop the alarm; arm it from now on, or from a reference on
unfoldable pub commands : ℕ → ℕ → ℕ → Own → List (ℕ × Commanded)
commands now a2 a3 own =
    (0, accepting Success own)
    ∷ (1, accepting (SuccessU32 1000) own)
    ∷ (2, accepting (SuccessU32 now) (showing now own))
    ∷ (3, stopping (alarm_in own) own)
    ∷ (5, arming (record { reference = now; delta = a2 }) own)
    ∷ (6, arming (record { reference = a2; delta = a3 }) own)
    ∷ []

-- an alarm, where it is due: its delta has passed since its reference
abbrev pub if_due : ℕ → Option Armed → Option Armed
if_due now None = None
if_due now (Some alarm) = if nat_le alarm.delta ((now + (2 ^ 32 - alarm.reference)) % 2 ^ 32) then Some alarm else None

-- the alarm of a process that is due; none of one that has ended
abbrev pub due_alarm : ℕ → Own → Option Armed
due_alarm now own = if own.lives then if_due now (alarm_in own) else None

-- An alarm fires: it is stopped, the clock is shown, and upcall 0 is scheduled with the clock and the expiration.
abbrev pub fired : ℕ → Armed → Own → DriverStep
fired now alarm own = scheduling alarm_driver 0 (now ∷ expiration alarm ∷ 0 ∷ []) (with_alarm None (showing now own))

-- what the clock's answer changes of a process: its alarm fires, where it is due
unfoldable pub answered : ℕ → Own → DriverStep
answered now own = unwrap_or (option_map (λ alarm. fired now alarm own) (due_alarm now own)) (silently own)

-- whether the alarm of the process in a slot is due, if there is one
abbrev pub has_due : ℕ → Option Own → Bool
has_due now own = is_some (option_and_then (due_alarm now) own)

-- the lowest slot with an alarm that is due
unfoldable pub due_slot : ℕ → List Own → Option ℕ
due_slot now owns = find (λ slot. has_due now (slice_get owns slot)) (range_with_len 0 SLOT_COUNT)

-- and of one slot alone, or of all
abbrev pub due_for : Option ℕ → ℕ → List Own → Option ℕ
due_for None now owns = due_slot now owns
due_for (Some only) now owns = if has_due now (slice_get owns only) then Some only else None

-- how many ticks are left until an alarm becomes due: 0 where it is due
abbrev pub ticks_left : ℕ → Armed → ℕ
ticks_left now alarm = alarm.delta - (now + (2 ^ 32 - alarm.reference)) % 2 ^ 32

-- the ticks that are left of a process's alarm; none of one that has ended, or has none armed
abbrev pub ticks_left_of : ℕ → Own → Option ℕ
ticks_left_of now own = if own.lives then option_map (ticks_left now) (alarm_in own) else None

-- the ticks that are left of the alarm of the process in a slot, if there is one
abbrev pub ticks_left_in : ℕ → List Own → ℕ → Option ℕ
ticks_left_in now owns slot = option_and_then (ticks_left_of now) (slice_get owns slot)

-- the lesser of two numbers of ticks, where there are two
abbrev pub nearer : Option ℕ → Option ℕ → Option ℕ
nearer None other = other
nearer (Some ticks) None = Some ticks
nearer (Some ticks) (Some other) = Some (min ticks other)

-- the ticks that are left until the next alarm becomes due: the least over all slots
unfoldable pub next_left : ℕ → List Own → Option ℕ
next_left now owns = fold (λ least slot. nearer least (ticks_left_in now owns slot)) None (range_with_len 0 SLOT_COUNT)

-- and until that of one slot alone does, or that of any
abbrev pub left_for : Option ℕ → ℕ → List Own → Option ℕ
left_for None now owns = next_left now owns
left_for (Some only) now owns = ticks_left_in now owns only
