-- What a turn leaves of its process's alarm, by the end of its instruction and by its call. A call asks nothing of the
-- board unless its turn shows that it may act, and leaves the alarm unless it shows that it may arm it (`Leaves`); of
-- all calls only commands and exits do either, which their class, driver and number show.
use Rattle.std.proofs.Common.{◌≡◌, ℕ, zero, suc, ◌==◌, ◌&&◌, Bool, true, false, not, nat_lt, List, []}
use Rattle.std.proofs.Common.{Option, None, Some, refl, ap, sym}
use Rattle.std.proofs.Common.{subst, ◌∙◌, arith, eqb-true}
use Rattle.std.proofs.lemmas.Bool.{false≢true}
use Rattle.std.proofs.lemmas.Bool.Decides.{nat_tests}
use Rattle.tk_base.specs.Regs.{Registers}
use Rattle.tk_base.specs.declared.access.Denial.{Denial}
use Rattle.grant_values.specs.Drivers.{drivers}
use Rattle.syscall_abi.specs.declared.form.CallForm.{CallForm}
use Rattle.syscall_abi.specs.declared.form.CallForm.TheVariants as forms
use Rattle.syscall_abi.specs.declared.reply.Reply.{Reply}
use Rattle.syscall_abi.specs.Call.{call_of, class}
use Rattle.process_model.specs.Own.{Own}
use Rattle.driver_model.specs.Steps.{own_after}
use Rattle.grant_model.specs.Grants.{Grant}
use Rattle.driver_model.specs.Alarm.{alarm_driver, alarm_in, commands as alarm_commands}
use Rattle.driver_model.specs.Commands.{Commanded, by_number}
use Rattle.driver_model.specs.Drivers.{CommandContext, CommandHandler, handler_by, handler_of}
use Rattle.driver_model.specs.Laws.{RefusedByAnyDriver}
use Rattle.grant_values.specs.declared.drivers.Driver.TheVariants.{Alarm}
use Rattle.process_record.specs.declared.emit.CallMade.{CallMade}
use Rattle.process_record.specs.declared.outcome.Outcome.TheVariants.{Replied}
use Rattle.kernel_model.specs.Record.{Record, with_effect}
use Rattle.kernel_model.specs.declared.settings.Settings.{Settings}
use Rattle.kernel_model.specs.Calls.{Served}
use Rattle.kernel_model.specs.Calls.{served}
use Rattle.kernel_model.specs.Parts.{commanded}
use Rattle.kernel_model.specs.Calls.{yielding}
use Rattle.kernel_model.specs.Turn.{Turned, made, rule_shown, surroundings}
use Rattle.kernel_model.specs.Turn.{turn_counted, turned}
use Rattle.kernel_model.proofs.Calling.{of_commanded, of_served}
use Rattle.kernel_model.proofs.Classes.{IsCommand, made_as}
use Rattle.kernel_model.proofs.Lines.{SameKept}
use Rattle.kernel_model.proofs.Turning.{of_each_end}
use Rattle.kernel_model.proofs.Yields.{kept_by_yield}
use Rattle.kernel_alarms.specs.Acting.{AlarmsChangeAtTheirCommands, HasSameAlarm, QuietTurnsLeaveAlarms}
use Rattle.kernel_alarms.specs.Acting.{may_act, may_arm, may_have_acted, may_have_armed, only_asks}
use Rattle.kernel_alarms.proofs.Commands.{of_others}
use Rattle.kernel_alarms.proofs.Kept.{handed_alarm}
use Rattle.kernel_model.proofs.Places.{same_some}

-- a call asks nothing unless its turn shows that it may act, and leaves the alarm unless it shows that it may arm it
record Leaves (r : Record) (s : Served) : Type 0 where
  asks_nothing : may_act (made r.process.regs s.outcome) ≡ false → s.acts ≡ []
  same : may_arm (made r.process.regs s.outcome) ≡ false → HasSameAlarm r.own s.after.own

-- one that leaves it, whatever it shows
leaves : (r : Record) (s : Served) → s.acts ≡ [] → HasSameAlarm r.own s.after.own → Leaves r s
leaves r s none same = record { asks_nothing = λ quiet. none; same = λ quiet. same }

same_alarm : (own : Own) → HasSameAlarm own own
same_alarm own = (refl, refl)

-- one of which drivers keep the same
alarm_kept : (own o : Own) → SameKept own o → HasSameAlarm own o
alarm_kept own o same = (ap (λ (gs : List Grant). alarm_in (record own { grants = gs })) same.grants, same.lives)

-- a command that acts, and one that arms, as its turn shows it
command_acts : (regs : Registers) (driver number : ℕ) (reply : Reply) → IsCommand regs driver number
    → may_act (made regs (Replied reply None)) ≡ not (only_asks driver number)
command_acts regs driver number reply is = rw (is.class_is, is.driver_is, is.number_is) refl

command_arms : (regs : Registers) (driver number : ℕ) (reply : Reply) → IsCommand regs driver number
    → may_arm (made regs (Replied reply None)) ≡ (not (only_asks driver number) && driver == alarm_driver)
command_arms regs driver number reply is = rw (is.class_is, is.driver_is, is.number_is) refl

-- a command leaves the alarm, and asks nothing of the board
abbrev IsNoted : Own → Commanded → Type 0
IsNoted own c = HasSameAlarm own (own_after c.step) × (c.acts ≡ [])

-- what the alarm is asked
asked : (now a2 a3 number : ℕ) (own : Own) → nat_lt number 3 ≡ true
    → IsNoted own (by_number (alarm_commands now a2 a3) number own)
unfolding alarm_commands
asked now a2 a3 zero own below = ((refl, refl), refl)
asked now a2 a3 (suc zero) own below = ((refl, refl), refl)
asked now a2 a3 (suc (suc zero)) own below = ((refl, refl), refl)
asked now a2 a3 (suc (suc (suc number))) own below =
    absurd (false≢true (sym (not_below number) ∙ below))
  where
    not_below : (n : ℕ) → nat_lt (suc (suc (suc n))) 3 ≡ false
    not_below n = grind (arith, nat_tests)

both_are : (a b : Bool) → not (a && b) ≡ false → (a ≡ true) × (b ≡ true)
both_are true true e = (refl, refl)
both_are true false e = absurd (false≢true (sym e))
both_are false b e = absurd (false≢true (sym e))

-- the alarm's commands
of_alarm : (around : CommandContext) (number a2 a3 : ℕ) (own : Own) (taker : CommandHandler)
    → handler_of alarm_driver ≡ Some taker → nat_lt number 3 ≡ true
    → IsNoted own (taker around number a2 a3 own)
unfolding drivers
of_alarm around number a2 a3 own taker is below =
    subst (λ (t : CommandHandler). IsNoted own (t around number a2 a3 own))
    (same_some (handler_by Alarm) taker is) (asked around.now a2 a3 number own below)

module _ (law : RefusedByAnyDriver) (around : CommandContext) (r : Record) where
  -- a command that was accepted, by whether its driver is the alarm
  of_accepted : (driver number b2 b3 : ℕ) (taker : CommandHandler) → handler_of driver ≡ Some taker → (b : Bool)
      → (driver == alarm_driver) ≡ b → (not (only_asks driver number) && driver == alarm_driver) ≡ false
      → HasSameAlarm r.own (own_after (taker around number b2 b3 r.own).step)
  of_accepted driver number b2 b3 taker is false e quiet = of_others driver taker is e around number b2 b3 r.own
  of_accepted driver number b2 b3 taker is true e quiet =
      (of_alarm around number b2 b3 r.own taker (ap handler_of (sym (eqb-true driver alarm_driver e)) ∙ is)
      (asks (nat_lt number 3) (sym (ap (λ (b : Bool). not (b && nat_lt number 3) && b) e) ∙ quiet))).0
    where
      asks : (below : Bool) → (not (true && below) && true) ≡ false → below ≡ true
      asks true e = refl
      asks false e = absurd (false≢true (sym e))

  of_command : (driver number b2 b3 : ℕ) (taker : CommandHandler) → handler_of driver ≡ Some taker
      → IsCommand r.process.regs driver number → Leaves r (commanded r (taker around number b2 b3 r.own))
  of_command driver number b2 b3 taker is command =
      of_commanded (Leaves r) r (taker around number b2 b3 r.own)
      (λ reply answers. record {
        asks_nothing = λ quiet.
            let asks = both_are (driver == alarm_driver) (nat_lt number 3)
            (sym (command_acts r.process.regs driver number reply command) ∙ quiet) in
            (of_alarm around number b2 b3 r.own taker
            (ap handler_of (sym (eqb-true driver alarm_driver asks.0)) ∙ is) asks.1).1;
        same = λ quiet.
            of_accepted driver number b2 b3 taker is (driver == alarm_driver) refl
            (sym (command_arms r.process.regs driver number reply command) ∙ quiet);
      })
      (λ rule answers.
      let refuses = law driver taker around number b2 b3 r.own rule is answers in
      rw refuses (leaves r _ refl (same_alarm r.own)))

  -- an exit that is not refused may act, and change an alarm
  ends_life : (s : Served) → rule_shown s.outcome ≡ None → class r.process.regs ≡ 6 → Leaves r s
  ends_life s none six = record {
    asks_nothing = λ quiet. absurd (false≢true (sym quiet ∙ rw (none, six) refl));
    same = λ quiet. absurd (false≢true (sym quiet ∙ rw (none, six) refl));
  }

  of_call : (strict : Bool) (call : CallForm) → call_of r.process.regs ≡ Some call
      → Leaves r (served strict around r call)
  of_call strict call is =
      of_served (Leaves r) around r strict call (record {
        refused = λ rule. leaves r _ refl (same_alarm r.own);
        same = λ reply. leaves r _ refl (same_alarm r.own);
        moved = λ new reply may. leaves r _ refl (refl, refl);
        swapped = λ swap reply may.
            leaves r _ refl (handed_alarm swap.kind swap.driver swap.number swap.pair r.own, refl);
        yields = λ number b1 b2 same. let k = kept_by_yield r number b1 b2 in
            leaves r (yielding r number b1 b2) k.acts (alarm_kept r.own _ k.same);
        commands = λ driver number b2 b3 taker same there.
            of_command driver number b2 b3 taker there
            (made_as r.process.regs (forms.Command driver number b2 b3)
            (is ∙ ap (λ (form : CallForm). Some form) same)).1;
        ends = λ kind code same.
            ends_life _ refl
            (made_as r.process.regs (forms.Exit kind code) (is ∙ ap (λ (form : CallForm). Some form) same));
        again = λ kind code same.
            ends_life _ refl
            (made_as r.process.regs (forms.Exit kind code) (is ∙ ap (λ (form : CallForm). Some form) same));
      })

-- the same of a turn
record Quiet (r : Record) (t : Turned) : Type 0 where
  asks_nothing : may_have_acted t.told.call t.told.denial ≡ false → t.acts ≡ []
  same : may_have_armed t.told.call t.told.denial ≡ false → HasSameAlarm r.own t.after.own

quiet : (r : Record) (t : Turned) → t.acts ≡ [] → HasSameAlarm r.own t.after.own → Quiet r t
quiet r t none same = record { asks_nothing = λ shown. none; same = λ shown. same }

of_turn : RefusedByAnyDriver → (settings : Settings) (time : ℕ) (r : Record) → Quiet r (turned settings time r)
of_turn law settings time r =
    of_each_end settings time r (Quiet r) (record {
      nothing = λ none. quiet r _ refl (same_alarm r.own);
      went = λ t is. quiet r _ refl (refl, refl);
      faults = λ t denial is runs. record {
        asks_nothing = λ shown. absurd (false≢true (sym shown));
        same = λ shown. absurd (false≢true (sym shown));
      };
      makes = λ t form is calls runs made.
          let s = with_effect (turn_counted r) t in
          let l = of_call law (surroundings settings time s) s settings.strict form made in
          record { asks_nothing = l.asks_nothing; same = λ shown. let same = l.same shown in (same.0, same.1) };
      delivers = λ next is yielded. quiet r _ refl (refl, refl);
    })

pub alarms_change_at_their_commands : RefusedByAnyDriver → AlarmsChangeAtTheirCommands
alarms_change_at_their_commands law settings time r = (of_turn law settings time r).same

-- what may not act may not arm
not_armed : (call : Option CallMade) (denial : Option Denial) → may_have_acted call denial ≡ false
    → may_have_armed call denial ≡ false
not_armed call (Some why) e = e
not_armed None None e = refl
not_armed (Some made) None e = rw e refl

pub quiet_turns_leave_alarms : RefusedByAnyDriver → QuietTurnsLeaveAlarms
quiet_turns_leave_alarms law settings time r shown =
    let q = of_turn law settings time r in
    let t = turned settings time r in
    (q.same (not_armed t.told.call t.told.denial shown), q.asks_nothing shown)
