-- What a command to any driver leaves of its process, before it schedules something: the same, the clock shown, or
-- another value that the driver keeps, which is entered or not. By the rows of each driver's table; a law gives a case
-- for each of these (`OfEachKeeping`), and `of_command` is the walk over all commands.
use Rattle.std.proofs.Common.{◌≡◌, ℕ, ◌+◌, ◌==◌, nat_le, nat_lt, Bool, false, cond, List, [], ◌∷◌, Option}
use Rattle.std.proofs.Common.{None, Some, refl, sym, subst, unwrap_or, ◌∙◌, eqb-true}
use Rattle.std.specs.Option.{option_map}
use Rattle.tk_base.specs.declared.call.CallRule.TheVariants.{NoCommand}
use Rattle.grant_values.specs.declared.alarm.Armed.{Armed}
use Rattle.grant_values.specs.declared.console.WaitingRead.{WaitingRead}
use Rattle.grant_values.specs.declared.drivers.Driver.{Driver}
use Rattle.grant_values.specs.declared.drivers.Driver.TheVariants.{Alarm, Buttons, Console, Leds, Random, Storage}
use Rattle.grant_values.specs.declared.storage.StorageRequest.{StorageRequest}
use Rattle.grant_values.specs.Drivers.{driver_of, drivers, number_of_driver}
use Rattle.grant_values.specs.Values.{KeptValue, NoValue}
use Rattle.process_model.specs.Own.{Own}
use Rattle.process_model.specs.Handed.{has_place, own_entering}
use Rattle.process_model.specs.Served.{kept, with_kept}
use Rattle.driver_model.specs.Alarm as alarm
use Rattle.driver_model.specs.Buttons as buttons
use Rattle.driver_model.specs.Commands.{Commanded, Switch, by_number, refusing}
use Rattle.driver_model.specs.Console as console
use Rattle.driver_model.specs.Drivers.{CommandContext, CommandHandler, handler_by, handler_of}
use Rattle.driver_model.specs.Leds as leds
use Rattle.driver_model.specs.Random as random
use Rattle.driver_model.specs.Requests.{RequestKind, asking, request_in, with_request}
use Rattle.driver_model.specs.Parts.{asking_beside}
use Rattle.driver_model.specs.Storage as storage
use Rattle.kernel_model.proofs.Values.{entering_beside, kept_beside}
use Rattle.std.proofs.lemmas.Bool.{cond_both}
use Rattle.kernel_model.proofs.Runs.{found_passes}
use Rattle.std.proofs.Common.{rules}

-- the command of a number, row by row of a table
module _ (number : ℕ) (own : Own) (P : Commanded → Type 0) where
  abbrev chosen : Option (ℕ × Commanded) → Commanded
  chosen found = unwrap_or (option_map (λ row. row.1) found) (refusing NoCommand own)

  pub row : (n : ℕ) (c : Commanded) (rest : Option (ℕ × Commanded)) → (number ≡ n → P c) → P (chosen rest)
      → P (chosen (cond (n == number) (Some (n, c)) rest))
  row n c rest here later =
      cond_both (n == number) _ rest (λ o. P (chosen o)) (λ e. here (sym (eqb-true n number e))) (λ e. later)

-- and one that goes by a test
pub if_either : (P : Commanded → Type 0) (b : Bool) (c d : Commanded) → P c → P d → P (cond b c d)
if_either P b c d h k = cond_both b c d P (λ e. h) (λ e. k)

-- what holds of a process as it was, and of each of these, by the driver that leaves it
pub record OfEachKeeping (P : ℕ → Own → Own → Type 0) : Type 0 where
  pub same : (driver : ℕ) (own : Own) → P driver own own
  pub shows : (now : ℕ) (own : Own) → P alarm.alarm_driver own (alarm.showing now own)
  pub keeps : (driver : ℕ) (value : KeptValue) (own : Own) → P driver own (with_kept driver value own)
  pub enters : (driver : ℕ) (value : KeptValue) (own : Own)
      → P driver own (with_kept driver value (own_entering driver own))

module _ (P : ℕ → Own → Own → Type 0) (each : OfEachKeeping P) (driver : ℕ) (own : Own) where
  -- so it is after a command
  abbrev Leaves : Commanded → Type 0
  Leaves c = P driver own c.step.own

  -- and after each row of a table
  Each : List (ℕ × Commanded) → Type 0
  Each [] = Unit {0}
  Each (row ∷ rows) = Leaves row.1 × Each rows

  found : (rows : List (ℕ × Commanded)) (number : ℕ) → Each rows → Leaves (by_number (λ o. rows) number own)
  unfolding Each
  found [] number holds = each.same driver own
  found (row ∷ rows) number holds =
      cond_both (row.0 == number) (Some row) _
      (λ o. Leaves (unwrap_or (option_map (λ (r : ℕ × Commanded). r.1) o) (refusing NoCommand own))) (λ e. holds.0)
      (λ e. found rows number holds.1)

  if_so : (b : Bool) (c d : Commanded) → Leaves c → Leaves d → Leaves (cond b c d)
  if_so = if_either Leaves

  if_asked : {R : Type 0} (kind : RequestKind R) (request : R) → kind.driver ≡ driver → Leaves (asking kind request own)
  if_asked {R} kind request is =
      elim (request_in kind own) as (λ o. Leaves (asking_beside kind o request own)) [
        | None ↦
            if_so (has_place kind.driver own) _ _
            (subst (λ (d : ℕ). P d own (with_request kind (Some request) (own_entering kind.driver own))) is
            (each.enters kind.driver (kind.with_request (Some request)
            (unwrap_or (kept kind.driver (own_entering kind.driver own)) NoValue)) own)) (each.same driver own)
        | Some other ↦ each.same driver own
      ]

module _ (P : ℕ → Own → Own → Type 0) (each : OfEachKeeping P) (around : CommandContext) (number a2 a3 : ℕ) (own : Own)
  where
    if_stopped : (armed : Option Armed) → P alarm.alarm_driver own (alarm.stopping armed own).step.own
    if_stopped None = each.same _ own
    if_stopped (Some armed) = each.keeps _ _ own

    if_armed : (armed : Armed) → P alarm.alarm_driver own (alarm.arming armed own).step.own
    if_armed armed =
        if_so P each alarm.alarm_driver own (has_place alarm.alarm_driver own) _ _ (each.enters _ _ own) (each.same _
        own)

    of_alarm : P alarm.alarm_driver own (by_number (alarm.commands around.now a2 a3) number own).step.own
    unfolding Each alarm.commands
    of_alarm =
        found P each alarm.alarm_driver own (alarm.commands around.now a2 a3 own) number (
          each.same _ own,
          (
            each.same _ own,
            (each.shows around.now own, (if_stopped (alarm.alarm_in own), (if_armed _, (if_armed _, tt)))),
          ),
        )

    if_cancelled : (read : Option WaitingRead) → P console.console own (console.cancelling read own).step.own
    if_cancelled None = each.same _ own
    if_cancelled (Some read) = each.keeps _ _ own

    of_console : P console.console own (by_number (console.commands a2) number own).step.own
    unfolding Each console.commands
    of_console =
        found P each console.console own (console.commands a2 own) number (
          each.same _ own,
          (
            if_asked P each console.console own console.console_writes _ refl,
            (
              if_so P each console.console own (a2 == 0) _ _ (each.same _ own)
                  (if_asked P each console.console own console.console_reads _ refl),
              (if_cancelled (request_in console.console_reads own), tt),
            ),
          ),
        )

    if_switched : (driver : ℕ) (switch : Switch) → P driver own (leds.switching around.leds a2 switch own).step.own
    if_switched driver switch =
        if_so P each driver own (nat_lt a2 around.leds) _ _ (each.same driver own) (each.same driver own)

    of_leds : (driver : ℕ) → P driver own (by_number (leds.commands around.leds a2) number own).step.own
    unfolding Each leds.commands
    of_leds driver =
        found P each driver own (leds.commands around.leds a2 own) number
        (each.same driver own, (if_switched driver _, (if_switched driver _, (if_switched driver _, tt))))

    if_there : (c : Commanded) → P buttons.buttons own c.step.own
        → P buttons.buttons own (buttons.of_button around.buttons a2 own c).step.own
    if_there c h = if_so P each buttons.buttons own (nat_lt a2 around.buttons) _ _ h (each.same _ own)

    of_buttons : P buttons.buttons own
        (by_number (buttons.commands around.buttons around.pressed a2) number own).step.own
    unfolding Each buttons.commands
    of_buttons =
        found P each buttons.buttons own (buttons.commands around.buttons around.pressed a2 own) number (
          each.same _ own,
          (
            if_there (buttons.enabling a2 own)
                (if_so P each buttons.buttons own (has_place buttons.buttons own) _ _ (each.enters _ _ own)
                (each.same _ own)),
            (if_there _ (each.keeps _ _ own), (if_there _ (each.same _ own), tt)),
          ),
        )

    of_random : P random.random own (by_number (random.commands a2) number own).step.own
    unfolding Each random.commands
    of_random =
        found P each random.random own (random.commands a2 own) number
        (each.same _ own, (if_asked P each random.random own random.randoms _ refl, tt))

    if_fits : (request : StorageRequest) → P storage.storage own (storage.requesting around.storage request
        own).step.own
    if_fits request =
        if_so P each storage.storage own (nat_le (request.offset + request.length) around.storage) _ _
        (if_asked P each storage.storage own storage.storages request refl) (each.same _ own)

    of_storage : P storage.storage own (by_number (storage.commands around.storage a2 a3) number own).step.own
    unfolding Each storage.commands
    of_storage =
        found P each storage.storage own (storage.commands around.storage a2 a3 own) number
        (each.same _ own, (each.same _ own, (if_fits _, (if_fits _, tt))))

    of_driver : (d : Driver) → P (number_of_driver d) own (handler_by d around number a2 a3 own).step.own
    of_driver Alarm = of_alarm
    of_driver Console = of_console
    of_driver Leds = of_leds _
    of_driver Buttons = of_buttons
    of_driver Random = of_random
    of_driver Storage = of_storage

-- what holds of the handlers of drivers with that number holds of whatever takes its commands
pub handled : (P : CommandHandler → Type 0) (driver : ℕ) (taker : CommandHandler) → handler_of driver ≡ Some taker
    → ((d : Driver) → number_of_driver d ≡ driver → P (handler_by d)) → P taker
handled P driver taker is each = by_driver (driver_of driver) refl is
  where
    by_driver : (d : Option Driver) → driver_of driver ≡ d → option_map handler_by d ≡ Some taker → P taker
    by_driver None there e = absurd (cc)
    by_driver (Some d) there e =
        let same : handler_by d ≡ taker = cc in
        subst P same (each d (eqb-true _ driver (found_passes (λ x. number_of_driver x == driver) drivers d there)))

-- of any command to any driver
pub of_command : (P : ℕ → Own → Own → Type 0) → OfEachKeeping P → (driver : ℕ) (taker : CommandHandler)
    → handler_of driver ≡ Some taker → (around : CommandContext) (number a2 a3 : ℕ) (own : Own)
    → P driver own (taker around number a2 a3 own).step.own
of_command P each driver taker is around number a2 a3 own =
    handled (λ (t : CommandHandler). P driver own (t around number a2 a3 own).step.own) driver taker is
    (λ d same. subst (λ (n : ℕ). P n own (handler_by d around number a2 a3 own).step.own) same
    (of_driver P each around number a2 a3 own d))

-- what was scheduled for the process stays
pub command_leaves : (driver : ℕ) (taker : CommandHandler) → handler_of driver ≡ Some taker → (around : CommandContext)
    (number a2 a3 : ℕ) (own : Own) → (taker around number a2 a3 own).step.own.inbox ≡ own.inbox
command_leaves driver taker is around number a2 a3 own =
    of_command (λ d before after. after.inbox ≡ before.inbox) (search rules) driver taker is around number a2 a3 own

-- and what it keeps for every other driver
pub command_leaves_others : (driver : ℕ) (taker : CommandHandler) → handler_of driver ≡ Some taker
    → (around : CommandContext) (number a2 a3 : ℕ) (own : Own) (other : ℕ) → (driver == other) ≡ false
    → kept other (taker around number a2 a3 own).step.own ≡ kept other own
command_leaves_others driver taker is around number a2 a3 own other =
    of_command (λ d before after. (d == other) ≡ false → kept other after ≡ kept other before) (record {
      same = λ d o apart. refl;
      shows = λ now o apart. refl;
      keeps = λ d value o apart. kept_beside d other value o apart;
      enters = λ d value o apart.
          kept_beside d other value (own_entering d o) apart ∙ entering_beside d other o apart;
    }) driver taker is around number a2 a3 own

-- and it lives as before
pub command_lives : (driver : ℕ) (taker : CommandHandler) → handler_of driver ≡ Some taker → (around : CommandContext)
    (number a2 a3 : ℕ) (own : Own) → (taker around number a2 a3 own).step.own.lives ≡ own.lives
command_lives driver taker is around number a2 a3 own =
    of_command (λ d before after. after.lives ≡ before.lives) (search rules) driver taker is around number a2 a3 own
