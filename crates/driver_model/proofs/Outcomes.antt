-- Whatever may come of a command to any driver: the one walk over the tables of all of them. A law gives a case for
-- each outcome (`OfEachOutcome`): refused, replied to, a LED, the clock shown, a value kept, a request begun or taken
-- away. Each row of each table is one of these, and the test that chose it is handed on.
use Rattle.std.proofs.Common.{◌≡◌, ◌≤◌, ℕ, ◌+◌, ◌==◌, nat_le, nat_lt, Bool, true, false, cond, [], ◌∷◌, Option, None}
use Rattle.std.proofs.Common.{Some, Ok, refl, ap, sym, ◌∙◌, eqb-true, ◌&&◌}
use Rattle.std.proofs.lemmas.Bool.{leb-true}
use Rattle.tk_base.specs.declared.call.CallRule.{CallRule}
use Rattle.tk_base.specs.declared.call.CallRule.TheVariants.{Busy, Empty, NoCommand, NoRoom, Nothing, Range}
use Rattle.grant_values.specs.declared.alarm.Armed.{Armed}
use Rattle.grant_values.specs.declared.console.WaitingRead.{WaitingRead}
use Rattle.grant_values.specs.declared.console.WaitingWrite.{WaitingWrite}
use Rattle.grant_values.specs.declared.drivers.Driver.{Driver}
use Rattle.grant_values.specs.declared.drivers.Driver.TheVariants.{Alarm, Buttons, Console, Leds, Random, Storage}
use Rattle.grant_values.specs.declared.random.RandomRequest.{RandomRequest}
use Rattle.grant_values.specs.declared.storage.StorageRequest.{StorageRequest}
use Rattle.grant_values.specs.Drivers.{number_of_driver}
use Rattle.grant_values.specs.Values.{KeptValue}
use Rattle.tk_base.specs.Bits.{bit_of, has_bit}
use Rattle.driver_model.specs.Bytes.{shows_clock}
use Rattle.syscall_abi.specs.declared.reply.Reply.{Reply}
use Rattle.syscall_abi.specs.declared.reply.Reply.TheVariants.{Success, SuccessU32}
use Rattle.process_model.specs.Own.{Own}
use Rattle.process_model.specs.Handed.{own_entering, has_place}
use Rattle.process_model.specs.Served.{with_kept}
use Rattle.driver_model.specs.Steps.{silently}
use Rattle.driver_model.specs.Commands.{Commanded, Leaves, Lights, QueueName, Reads, Switch, On, Off, Toggle, Waits}
use Rattle.driver_model.specs.Commands.{accepting, by_number, refusing, Writes}
use Rattle.driver_model.specs.Requests.{RequestKind, asking, request_in, with_request}
use Rattle.driver_model.specs.Parts.{asking_to_read}
use Rattle.driver_model.specs.Alarm.{alarm_driver, alarm_in, arming, showing, stopping}
use Rattle.driver_model.specs.Alarm.{commands as alarm_commands}
use Rattle.driver_model.specs.Buttons.{buttons, enabling, of_button, set_enabled}
use Rattle.driver_model.specs.Buttons.{commands as button_commands}
use Rattle.driver_model.specs.Console.{cancelling, console_reads, console_writes, dropping_read}
use Rattle.driver_model.specs.Console.{commands as console_commands}
use Rattle.driver_model.specs.Leds.{switching, commands as led_commands}
use Rattle.driver_model.specs.Random.{randoms, commands as random_commands}
use Rattle.driver_model.specs.Storage.{requesting, storages, commands as storage_commands}
use Rattle.driver_model.specs.Lines.{kind_in}
use Rattle.driver_model.specs.Drivers.{CommandContext, CommandHandler, handler_by, handler_of}
use Rattle.driver_model.proofs.Tables.{Each, EachAt, commanded, commanded_at, taken}
use Rattle.std.proofs.lemmas.Bool.{cond_both}
use Rattle.std.proofs.Common.{inl, inr}
use Rattle.driver_model.proofs.Tables.{cases_Option}

-- a request that begins to wait
abbrev pub begun : {R : Type 0} → RequestKind R → R → Own → Commanded
begun request_kind request own = record {
  answer = Ok Success;
  step = silently (with_request request_kind (Some request) (own_entering request_kind.driver own));
  acts = Waits request_kind.line ∷ [];
}

-- a driver for which no request waits in a queue
abbrev pub IsApart : ℕ → Type 0
IsApart driver = (queue : QueueName) → (driver == (kind_in queue).driver) ≡ false

pub alarm_apart : IsApart alarm_driver
alarm_apart Writes = refl
alarm_apart queue = refl

buttons_apart : IsApart buttons
buttons_apart Writes = refl
buttons_apart queue = refl

-- what holds of each thing that may come of a command to a driver
pub record OfEachOutcome (driver number : ℕ) (around : CommandContext) (own : Own) (P : Commanded → Type 0) : Type 0
  where
    pub refuses : (rule : CallRule) → P (refusing rule own)
    pub replies : (reply : Reply) → P (accepting reply own)
    pub lights : (led : ℕ) (switch : Switch)
        → P (record { answer = Ok Success; step = silently own; acts = Lights led switch ∷ [] })
    pub shows : shows_clock driver number ≡ true → P (accepting (SuccessU32 around.now) (showing around.now own))
    pub keeps : (d : ℕ) (value : KeptValue) (reply : Reply) → IsApart d → P (accepting reply (with_kept d value own))
    pub enters : (d : ℕ) (value : KeptValue) (reply : Reply) → IsApart d → has_place d own ≡ true
        → P (accepting reply (with_kept d value (own_entering d own)))
    pub cancels : number_of_driver Console ≡ driver
        → P (record { answer = Ok Success; step = dropping_read own; acts = Leaves Reads ∷ [] })
    pub writes : (request : WaitingWrite) → has_place console_writes.driver own ≡ true
        → request_in console_writes own ≡ None → P (begun console_writes request own)
    pub reads : (request : WaitingRead) → has_place console_reads.driver own ≡ true
        → request_in console_reads own ≡ None → P (begun console_reads request own)
    pub draws : (request : RandomRequest) → has_place randoms.driver own ≡ true → request_in randoms own ≡ None
        → P (begun randoms request own)
    pub stores : (request : StorageRequest) → request.offset + request.length ≤ around.storage
        → has_place storages.driver own ≡ true → request_in storages own ≡ None → P (begun storages request own)

by_test : (P : Commanded → Type 0) (b : Bool) (c d : Commanded) → (b ≡ true → P c) → P d → P (cond b c d)
by_test P b c d p q = cond_both b c d P p (λ e. q)

by_asking : {R : Type 0} (P : Commanded → Type 0) (request_kind : RequestKind R) (request : R) (own : Own)
    → ((rule : CallRule) → P (refusing rule own))
    → (has_place request_kind.driver own ≡ true → request_in request_kind own ≡ None
    → P (begun request_kind request own)) → P (asking request_kind request own)
by_asking P request_kind request own refuses begins =
    elim (cases_Option (request_in request_kind own)) [
      | inl none ↦ rw none (by_test P (has_place request_kind.driver own) _ _ (λ room. begins room none)
          (refuses NoRoom))
      | inr is ↦ rw is.1 (refuses Busy)
    ]

-- whatever comes of a command to the buttons
pub of_buttons : (P : Commanded → Type 0) (count pressed number button : ℕ) (own : Own)
    → ((rule : CallRule) → P (refusing rule own)) → ((reply : Reply) → P (accepting reply own))
    → ((value : KeptValue) → P (accepting Success (with_kept buttons value own)))
    → ((value : KeptValue) → has_place buttons own ≡ true
    → P (accepting Success (with_kept buttons value (own_entering buttons own))))
    → P (by_number (button_commands count pressed button) number own)
unfolding Each button_commands
of_buttons P count pressed number button own refuses replies keeps enters =
    commanded P own (button_commands count pressed button own) number (refuses NoCommand) (
      replies (SuccessU32 count),
      (
        there (enabling button own) (by_test P (has_place buttons own) _ _ (enters _) (refuses NoRoom)),
        (
          there (accepting Success (set_enabled button false own)) (keeps _),
          (there (accepting (SuccessU32 (bit_of (has_bit pressed button))) own) (replies _), tt),
        ),
      ),
    )
  where
    there : (c : Commanded) → P c → P (of_button count button own c)
    there c p = by_test P (nat_lt button count) _ _ (λ below. p) (refuses Range)

module _ (P : Commanded → Type 0) (driver : ℕ) (around : CommandContext) (number a2 a3 : ℕ) (own : Own)
    (each : OfEachOutcome driver number around own P) where
  by_arming : (alarm : Armed) → P (arming alarm own)
  by_arming alarm =
      by_test P (has_place alarm_driver own) _ _ (each.enters alarm_driver _ _ alarm_apart) (each.refuses NoRoom)

  by_stopping : (alarm : Option Armed) → P (stopping alarm own)
  by_stopping None = each.refuses Nothing
  by_stopping (Some alarm) = each.keeps alarm_driver _ Success alarm_apart

  clock : number_of_driver Alarm ≡ driver → (2 == number) ≡ true → shows_clock driver number ≡ true
  clock is two =
      ap (λ d. d == 0 && number == 2) (sym is) ∙ ap (λ n. n == 2) (sym (eqb-true 2 number two))

  of_alarm : number_of_driver Alarm ≡ driver → P (by_number (alarm_commands around.now a2 a3) number own)
  unfolding EachAt alarm_commands
  of_alarm is =
      commanded_at P own (alarm_commands around.now a2 a3 own) number (each.refuses NoCommand) (
        λ n. each.replies Success,
        (
          λ n. each.replies (SuccessU32 1000),
          (
            λ n. each.shows (clock is n),
            (λ n. by_stopping (alarm_in own), (λ n. by_arming _, (λ n. by_arming _, tt))),
          ),
        ),
      )

  by_reading : P (asking_to_read a2 own)
  by_reading = by_test P (a2 == 0) _ _ (λ none. each.refuses Empty)
      (by_asking P console_reads _ own each.refuses (each.reads _))

  by_cancelling : number_of_driver Console ≡ driver → (read : Option WaitingRead) → P (cancelling read own)
  by_cancelling is None = each.refuses Nothing
  by_cancelling is (Some read) = each.cancels is

  of_console : number_of_driver Console ≡ driver → P (by_number (console_commands a2) number own)
  unfolding Each console_commands
  of_console is =
      commanded P own (console_commands a2 own) number (each.refuses NoCommand) (
        each.replies Success,
        (
          by_asking P console_writes _ own each.refuses (each.writes _),
          (by_reading, (by_cancelling is (request_in console_reads own), tt)),
        ),
      )

  by_switching : (switch : Switch) → P (switching around.leds a2 switch own)
  by_switching switch = by_test P (nat_lt a2 around.leds) _ _ (λ there. each.lights a2 switch) (each.refuses Range)

  of_leds : P (by_number (led_commands around.leds a2) number own)
  unfolding Each led_commands
  of_leds =
      commanded P own (led_commands around.leds a2 own) number (each.refuses NoCommand)
      (each.replies (SuccessU32 around.leds), (by_switching On, (by_switching Off, (by_switching Toggle, tt))))

  of_random : P (by_number (random_commands a2) number own)
  unfolding Each random_commands
  of_random =
      commanded P own (random_commands a2 own) number (each.refuses NoCommand)
      (each.replies Success, (by_asking P randoms _ own each.refuses (each.draws _), tt))

  by_requesting : (request : StorageRequest) → P (requesting around.storage request own)
  by_requesting request =
      by_test P (nat_le (request.offset + request.length) around.storage) _ _
      (λ fits. by_asking P storages request own each.refuses (each.stores request (leb-true _ _ fits)))
      (each.refuses Range)

  of_storage : P (by_number (storage_commands around.storage a2 a3) number own)
  unfolding Each storage_commands
  of_storage =
      commanded P own (storage_commands around.storage a2 a3 own) number (each.refuses NoCommand)
      (each.replies Success, (each.replies (SuccessU32 around.storage), (by_requesting _, (by_requesting _, tt))))

  of_driver : (d : Driver) → number_of_driver d ≡ driver → P (handler_by d around number a2 a3 own)
  of_driver Alarm is = of_alarm is
  of_driver Console is = of_console is
  of_driver Leds is = of_leds
  of_driver Buttons is =
      of_buttons P around.buttons around.pressed number a2 own each.refuses each.replies
      (λ value. each.keeps buttons value Success buttons_apart)
      (λ value. each.enters buttons value Success buttons_apart)
  of_driver Random is = of_random
  of_driver Storage is = of_storage

-- of any command to any driver
pub of_command : (P : CommandContext → Own → Commanded → Type 0) (driver : ℕ) (taker : CommandHandler)
    → handler_of driver ≡ Some taker → (around : CommandContext) (number a2 a3 : ℕ) (own : Own)
    → OfEachOutcome driver number around own (P around own) → P around own (taker around number a2 a3 own)
of_command P driver taker is around number a2 a3 own each =
    taken (λ t. P around own (t around number a2 a3 own)) driver taker is
    (of_driver (P around own) driver around number a2 a3 own each)
