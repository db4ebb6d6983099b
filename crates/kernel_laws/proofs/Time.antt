-- That time comes into a turn by the alarm's commands alone, by the turn, the end of its instruction and its call.
use Rattle.std.proofs.Common.{◌≡◌, ℕ, ◌==◌, ◌&&◌, Bool, true, false, cond, List, Option, None, Some}
use Rattle.std.proofs.Common.{refl, ap, sym, ◌∙◌, eq-eqb}
use Rattle.std.proofs.lemmas.Bool.{false≢true}
use Rattle.tk_base.specs.Regs.{Registers}
use Rattle.tk_base.specs.declared.call.CallRule.TheVariants.{Permission}
use Rattle.grant_values.specs.Drivers.{number_of_driver}
use Rattle.grant_values.specs.declared.drivers.Driver.{Driver}
use Rattle.grant_values.specs.declared.drivers.Driver.TheVariants.{Alarm}
use Rattle.rv32_model.specs.declared.turn_end.TurnEnd.{TurnEnd}
use Rattle.rv32_model.specs.declared.turn_end.TurnEnd.TheVariants as ends
use Rattle.rv32_model.specs.UserTurn.{MemoryAccess}
use Rattle.syscall_abi.specs.declared.form.CallForm.{CallForm}
use Rattle.syscall_abi.specs.declared.form.CallForm.TheVariants as forms
use Rattle.syscall_abi.specs.Call.{a0, call_of, class}
use Rattle.process_model.specs.Own.{Own}
use Rattle.process_record.specs.declared.process.State.{State}
use Rattle.process_record.specs.declared.process.State.TheVariants.{Running}
use Rattle.board_devices.specs.Clock.{clock_at}
use Rattle.driver_model.specs.Alarm.{alarm_driver}
use Rattle.driver_model.specs.Commands.{Commanded}
use Rattle.driver_model.specs.Drivers.{CommandContext, CommandHandler, handler_by, handler_of}
use Rattle.kernel_model.specs.Record.{Record, instruction, with_effect}
use Rattle.kernel_model.specs.declared.settings.Settings.{Settings}
use Rattle.kernel_model.specs.Calls.{Served, by_form, failure_of, refused_with, served, taken_by}
use Rattle.kernel_model.specs.Parts.{calls, object_permits}
use Rattle.kernel_model.specs.Turn.{at_turn_end, called, surroundings, turn_counted, turn_in, turned, idle}
use Rattle.kernel_model.proofs.Classes.{IsCommand, made_as}
use Rattle.kernel_model.proofs.Commands.{handled}
use Rattle.kernel_laws.specs.Clock.{TimeComesInByTheAlarm, is_for_alarm}

-- no other driver reads the clock
blind : (n driver : ℕ) (taker : CommandHandler) → handler_of driver ≡ Some taker → (driver == alarm_driver) ≡ false
    → (around : CommandContext) (number a2 a3 : ℕ) (own : Own)
    → taker (record around { now = n }) number a2 a3 own ≡ taker around number a2 a3 own
blind n driver taker is apart around number a2 a3 own = handled IsBlind driver taker is by_driver
  where
    IsBlind : CommandHandler → Type 0
    IsBlind t = t (record around { now = n }) number a2 a3 own ≡ t around number a2 a3 own

    by_driver : (d : Driver) → number_of_driver d ≡ driver → IsBlind (handler_by d)
    by_driver Alarm e = absurd (false≢true (sym apart ∙ eq-eqb driver alarm_driver (sym e)))
    by_driver d e = refl

-- whether registers make a command to the alarm
abbrev is_alarms : Registers → Bool
is_alarms regs = class regs == 2 && a0 regs == alarm_driver

not_alarms : (regs : Registers) (driver number : ℕ) → IsCommand regs driver number → is_alarms regs ≡ false
    → (driver == alarm_driver) ≡ false
not_alarms regs driver number is none =
    sym (ap (λ c. c == 2 && a0 regs == alarm_driver) is.class_is ∙ ap (λ d. d == alarm_driver) is.driver_is) ∙ none

module _ (n : ℕ) (around : CommandContext) (r : Record) (none : is_alarms r.process.regs ≡ false) where
  of_taken : (driver number a2 a3 : ℕ) (o : Option CommandHandler) → handler_of driver ≡ o
      → IsCommand r.process.regs driver number
      → taken_by (record around { now = n }) number a2 a3 r o ≡ taken_by around number a2 a3 r o
  of_taken driver number a2 a3 None is command = refl
  of_taken driver number a2 a3 (Some taker) is command =
      ap (λ (c : Commanded). taken_by around number a2 a3 r (Some (λ around number a2 a3 own. c)))
      (blind n driver taker is (not_alarms r.process.regs driver number command none) around number a2 a3 r.own)

  of_form : (form : CallForm) → call_of r.process.regs ≡ Some form
      → by_form (record around { now = n }) r form ≡ by_form around r form
  unfolding by_form
  of_form (forms.Command driver number a2 a3) is =
      of_taken driver number a2 a3 (handler_of driver) refl
      (made_as r.process.regs (forms.Command driver number a2 a3) is).1
  of_form form is = refl

  of_served : (strict : Bool) (call : CallForm) → call_of r.process.regs ≡ Some call
      → served strict (record around { now = n }) r call ≡ served strict around r call
  unfolding served
  of_served strict call is =
      ap (λ (s : Served). cond (object_permits strict r.object call) s
      (refused_with r Permission (failure_of call Permission)))
      (of_form call is)

module _ (settings : Settings) (start time other : ℕ) where
  abbrev elsewhere : Settings
  elsewhere = record settings { start = start }

  of_calls : (r : Record) (accesses : List MemoryAccess) (call : Option CallForm) → call_of r.process.regs ≡ call
      → let t = calls settings time r accesses call in is_for_alarm t.told.call ≡ false
      → calls elsewhere other r accesses call ≡ t
  of_calls r accesses None is none = refl
  of_calls r accesses (Some call) is none =
      ap (called r accesses call)
      (of_served (clock_at start other) (surroundings settings time r) r none settings.strict call is)

  of_end : (r : Record) (accesses : List MemoryAccess) (end : TurnEnd)
      → let t = at_turn_end settings time r accesses end in is_for_alarm t.told.call ≡ false
      → at_turn_end elsewhere other r accesses end ≡ t
  of_end r accesses ends.Call none = of_calls r accesses (call_of r.process.regs) refl none
  of_end r accesses end none = refl

  of_state : (state : State) (r : Record)
      → let t = turn_in settings time state r in is_for_alarm t.told.call ≡ false
      → turn_in elsewhere other state r ≡ t
  of_state Running r none =
      let t = instruction r in of_end (with_effect (turn_counted r) t) t.accesses t.end none
  of_state state r none = refl

pub time_comes_in_by_the_alarm : TimeComesInByTheAlarm
unfolding turned
time_comes_in_by_the_alarm settings start time other r = by_held r.process.held
  where
    by_held : (held : Bool)
        → is_for_alarm (cond held (idle r) (turn_in settings time r.process.state r)).told.call ≡ false
        → cond held (idle r) (turn_in (record settings { start = start }) other r.process.state r)
        ≡ cond held (idle r) (turn_in settings time r.process.state r)
    by_held true none = refl
    by_held false none = of_state settings start time other r.process.state r none
