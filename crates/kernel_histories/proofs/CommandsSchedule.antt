-- What a command schedules, which its driver, its number and its answer tell: upcall 2 of the console, where it cancels
-- a read, and nothing else; by the rows of each driver's table.
use Rattle.std.proofs.Math.Bool.{and-false}
use Rattle.std.proofs.Common.{◌≡◌, ℕ, ◌+◌, ◌==◌, ◌&&◌, nat_le, nat_lt, Bool, true, false, cond, List, [], ◌∷◌}
use Rattle.std.proofs.Common.{Option, None, Some, is_some, refl, ap, subst, eqb-true}
use Rattle.std.specs.Prelude.{is_none}
use Rattle.std.specs.Result.{result_err}
use Rattle.tk_base.specs.declared.call.CallRule.TheVariants.{Empty, NoCommand}
use Rattle.tk_base.specs.declared.kinds.PairKind.TheVariants.{Upcall}
use Rattle.tk_base.specs.declared.upcall.Upcall.{Upcall as Scheduled}
use Rattle.syscall_abi.specs.declared.reply.Reply.TheVariants.{Success}
use Rattle.grant_values.specs.declared.alarm.Armed.{Armed}
use Rattle.grant_values.specs.declared.console.WaitingRead.{WaitingRead}
use Rattle.grant_values.specs.declared.drivers.Driver.{Driver}
use Rattle.grant_values.specs.declared.drivers.Driver.TheVariants.{Alarm, Buttons, Console, Leds, Random, Storage}
use Rattle.grant_values.specs.declared.storage.StorageRequest.{StorageRequest}
use Rattle.grant_values.specs.Drivers.{number_of_driver}
use Rattle.process_model.specs.Own.{Own}
use Rattle.process_model.specs.Handed.{has_place}
use Rattle.process_model.specs.Pairs.{OnlyHandingChangesPairs}
use Rattle.process_model.specs.Served.{upcall_of}
use Rattle.driver_model.specs.Alarm as alarm
use Rattle.driver_model.specs.Buttons as buttons
use Rattle.driver_model.specs.Commands.{Commanded, Switch, accepting, by_number, refusing}
use Rattle.driver_model.specs.Console as console
use Rattle.driver_model.specs.Console.{cancelling, console_reads, console_writes}
use Rattle.driver_model.specs.Drivers.{CommandContext, CommandHandler, handler_by, handler_of}
use Rattle.driver_model.specs.Leds as leds
use Rattle.driver_model.specs.Random as random
use Rattle.driver_model.specs.Requests.{RequestKind, asking, request_in, with_request}
use Rattle.driver_model.specs.Storage as storage
use Rattle.kernel_laws.specs.Scheduled.{scheduled_by}
use Rattle.kernel_model.proofs.Commands.{handled}
use Rattle.std.proofs.lemmas.Bool.{cases_Bool}
use Rattle.std.proofs.Common.{inl, inr}

-- what holds of each row of a table, by its number, holds of what comes of a command
module _ (own : Own) (number : ℕ) (P : Commanded → Type 0) (none : P (refusing NoCommand own)) where
  abbrev EachRow : List (ℕ × Commanded) → Type 0
  EachRow [] = Unit {0}
  EachRow (row ∷ rows) = ((row.0 == number) ≡ true → P row.1) × EachRow rows

  found : (rows : List (ℕ × Commanded)) → EachRow rows → P (by_number (λ o. rows) number own)
  found [] each = none
  found (row ∷ rows) each =
      elim (cases_Bool (row.0 == number)) [
        | inl is ↦ rw is (each.0 is)
        | inr is ↦ rw is (found rows each.1)
      ]

-- a command that schedules nothing
abbrev IsSilent : Commanded → Type 0
IsSilent c = c.step.schedules ≡ None

if_silent : (b : Bool) (c d : Commanded) → IsSilent c → IsSilent d → IsSilent (cond b c d)
if_silent true c d p q = p
if_silent false c d p q = q

-- the upcall that tells a process of a cancelled read
abbrev pub cancelled : Own → Scheduled
cancelled own = upcall_of 0x1 2 (8 ∷ 0 ∷ 0 ∷ []) own

module _ (own : Own) where
  asking_silent : {R : Type 0} (kind : RequestKind R) (request : R) → IsSilent (asking kind request own)
  asking_silent kind request =
      if_silent (is_some (request_in kind own)) _ _ refl (if_silent (has_place kind.driver own) _ _ refl refl)

  stopping_silent : (armed : Option Armed) → IsSilent (alarm.stopping armed own)
  stopping_silent None = refl
  stopping_silent (Some armed) = refl

  arming_silent : (armed : Armed) → IsSilent (alarm.arming armed own)
  arming_silent armed = if_silent (has_place alarm.alarm_driver own) _ _ refl refl

  module _ (around : CommandContext) (number x y : ℕ) where
    alarm_silent : IsSilent (by_number (alarm.commands around.now x y) number own)
    unfolding alarm.commands
    alarm_silent =
        found own number IsSilent refl (alarm.commands around.now x y own) (
          λ is. refl,
          (
            λ is. refl,
            (
              λ is. refl,
              (λ is. stopping_silent (alarm.alarm_in own), (λ is. arming_silent _, (λ is. arming_silent _, tt))),
            ),
          ),
        )

    switching_silent : (switch : Switch) → IsSilent (leds.switching around.leds x switch own)
    switching_silent switch = if_silent (nat_lt x around.leds) _ _ refl refl

    leds_silent : IsSilent (by_number (leds.commands around.leds x) number own)
    unfolding leds.commands
    leds_silent =
        found own number IsSilent refl (leds.commands around.leds x own)
        (λ is. refl, (λ is. switching_silent _, (λ is. switching_silent _, (λ is. switching_silent _, tt))))

    button_silent : (c : Commanded) → IsSilent c → IsSilent (buttons.of_button around.buttons x own c)
    button_silent c silent = if_silent (nat_lt x around.buttons) c _ silent refl

    buttons_silent : IsSilent (by_number (buttons.commands around.buttons around.pressed x) number own)
    unfolding buttons.commands
    buttons_silent =
        found own number IsSilent refl (buttons.commands around.buttons around.pressed x own) (
          λ is. refl,
          (
            λ is. button_silent _ (if_silent (has_place buttons.buttons own) _ _ refl refl),
            (λ is. button_silent _ refl, (λ is. button_silent _ refl, tt)),
          ),
        )

    random_silent : IsSilent (by_number (random.commands x) number own)
    unfolding random.commands
    random_silent =
        found own number IsSilent refl (random.commands x own)
        (λ is. refl, (λ is. asking_silent random.randoms _, tt))

    requesting_silent : (request : StorageRequest) → IsSilent (storage.requesting around.storage request own)
    requesting_silent request =
        if_silent (nat_le (request.offset + request.length) around.storage) _ _
        (asking_silent storage.storages request) refl

    storage_silent : IsSilent (by_number (storage.commands around.storage x y) number own)
    unfolding storage.commands
    storage_silent =
        found own number IsSilent refl (storage.commands around.storage x y own)
        (λ is. refl, (λ is. refl, (λ is. requesting_silent _, (λ is. requesting_silent _, tt))))

-- by the number of its driver, its own, and whether it was accepted
abbrev pub Schedules : Own → ℕ → ℕ → Commanded → Type 0
Schedules own driver number c =
    scheduled_by c.step
    ≡ cond (is_none (result_err c.answer) && (driver == 0x1 && number == 3)) (Some (cancelled own)) None

silent : (own : Own) (driver number : ℕ) (c : Commanded) → (driver == 0x1 && number == 3) ≡ false → IsSilent c
    → Schedules own driver number c
silent own driver number c apart none = rw (none, apart, and-false (is_none (result_err c.answer))) refl

module _ (law : OnlyHandingChangesPairs) (own : Own) (number : ℕ) where
  row : (n : ℕ) (c : Commanded) → (n == 3) ≡ false → IsSilent c → (n == number) ≡ true → Schedules own 0x1 number c
  row n c apart none is = silent own 0x1 number c (rw (← eqb-true n number is) apart) none

  cancels : (read : Option WaitingRead) → (3 == number) ≡ true → Schedules own 0x1 number (cancelling read own)
  cancels None is = refl
  cancels (Some read) is =
      rw (← eqb-true 3 number is) (ap (λ (pair : ℕ × ℕ). Some (record (cancelled own) {
        function = pair.0;
        app = pair.1;
      })) (law.held own (with_request console_reads None own) (law.keeping 0x1 _ own) Upcall 0x1 2))

  of_console : (count : ℕ) → Schedules own 0x1 number (by_number (console.commands count) number own)
  unfolding console.commands
  of_console count =
      found own number (Schedules own 0x1 number) refl (console.commands count own) (
        row 0 (accepting Success own) refl refl,
        (
          row 1 (asking console_writes (record { length = count; taken = 0 }) own) refl
              (asking_silent own console_writes _),
          (
            row 2 (cond (count == 0) (refusing Empty own) (asking console_reads (record { length = count }) own)) refl
                (if_silent (count == 0) _ _ refl (asking_silent own console_reads _)),
            (cancels (request_in console_reads own), tt),
          ),
        ),
      )

  module _ (around : CommandContext) (x y : ℕ) where
    of_driver : (d : Driver) → Schedules own (number_of_driver d) number (handler_by d around number x y own)
    of_driver Alarm =
        silent own 0x0 number (handler_by Alarm around number x y own) refl (alarm_silent own around number x y)
    of_driver Console = of_console x
    of_driver Leds =
        silent own 0x2 number (handler_by Leds around number x y own) refl (leds_silent own around number x y)
    of_driver Buttons =
        silent own 0x3 number (handler_by Buttons around number x y own) refl (buttons_silent own around number x y)
    of_driver Random =
        silent own 0x40001 number (handler_by Random around number x y own) refl (random_silent own around number x y)
    of_driver Storage =
        silent own 0x50001 number (handler_by Storage around number x y own) refl (storage_silent own around number x y)

    pub of_command : (driver : ℕ) (taker : CommandHandler) → handler_of driver ≡ Some taker
        → Schedules own driver number (taker around number x y own)
    of_command driver taker is =
        handled (λ (t : CommandHandler). Schedules own driver number (t around number x y own)) driver taker is
        (λ d same. subst (λ (n : ℕ). Schedules own n number (handler_by d around number x y own)) same (of_driver d))
