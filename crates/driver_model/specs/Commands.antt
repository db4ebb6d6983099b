-- What comes of a command that a process gives to a driver (TRD 104, "Command").
use Rattle.std.specs.Prelude.{ℕ, ◌==◌, if◌then◌else◌, Bool, List, [], ◌∷◌, find, Result, Ok, Err, option_map}
use Rattle.std.specs.Prelude.{unwrap_or}
use Rattle.tk_base.specs.declared.call.CallRule.{CallRule}
use Rattle.tk_base.specs.declared.call.CallRule.TheVariants.{NoCommand, NoRoom}
use Rattle.syscall_abi.specs.declared.reply.Reply.{Reply}
use Rattle.process_model.specs.Own.{Own}
use Rattle.process_model.specs.Handed.{has_place, own_entering}
use Rattle.driver_model.specs.Steps.{DriverStep, silently}

-- the lists in which processes wait: to write to the console and to read from it, for random words, for storage
pub data QueueName : Type 0 where
  Writes : QueueName
  Reads : QueueName
  Randoms : QueueName
  Stores : QueueName

-- the lists in an order, by which they are told apart
abbrev pub order_of : QueueName → ℕ
order_of Writes = 0
order_of Reads = 1
order_of Randoms = 2
order_of Stores = 3

-- whether two names are of one list
abbrev pub is_same : QueueName → QueueName → Bool
is_same a b = order_of a == order_of b

-- how an LED is switched: on, off, or to what it is not
pub data Switch : Type 0 where
  On : Switch
  Off : Switch
  Toggle : Switch

-- what the board is to do for a turn: let the process begin to wait in a list, or stop to; switch an LED
pub data BoardRequest : Type 0 where
  Waits : QueueName → BoardRequest
  Leaves : QueueName → BoardRequest
  Lights : (led : ℕ) → Switch → BoardRequest

-- a process that ends, or starts again, waits in no list any more
abbrev pub leaving_all : List BoardRequest
leaving_all = Leaves Writes ∷ Leaves Reads ∷ Leaves Randoms ∷ Leaves Stores ∷ []

-- the reply to a command, or the rule that refuses it; what the driver leaves of the process; what the board is to do
-- for it
pub record Commanded : Type 0 where
  pub answer : Result Reply CallRule
  pub step : DriverStep
  pub acts : List BoardRequest

-- a command that is answered with a reply, with what is then the process's own; nothing is asked of the board
abbrev pub accepting : Reply → Own → Commanded
accepting reply own = record { answer = Ok reply; step = silently own; acts = [] }

-- a refused command changes nothing
abbrev pub refusing : CallRule → Own → Commanded
refusing rule own = record { answer = Err rule; step = silently own; acts = [] }

-- what comes of a command for which its driver is entered, by what is then the process's own; it is refused where there
-- is no room for the driver's grant
abbrev pub once_entered : ℕ → Own → (Own → Commanded) → Commanded
once_entered driver own comes = if has_place driver own then comes (own_entering driver own) else refusing NoRoom own

-- a command with an answer of either kind, where the driver schedules nothing and asks nothing of the board
abbrev pub as_commanded : Result Reply CallRule → Own → Commanded
as_commanded answer own = record { answer = answer; step = silently own; acts = [] }

-- the command of a number by a driver's table; refused where the table has no such number
abbrev pub by_number : (Own → List (ℕ × Commanded)) → ℕ → Own → Commanded
by_number commands number own =
    unwrap_or (option_map (λ row. row.1) (find (λ row. row.0 == number) (commands own))) (refusing NoCommand own)
