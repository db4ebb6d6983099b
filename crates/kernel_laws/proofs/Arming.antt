-- That what a driver keeps of its settings is what its commands said: for any value that is read of what one driver
-- keeps, and then for the alarm and the buttons. A command to another driver leaves it, one to its own goes by the rows
-- of the table (`LeavesOrSets`); so a turn leaves it, sets it as its command says, or it is as in a fresh life.
use Rattle.std.proofs.Common.{◌≡◌, ◌⊎◌, inl, inr, ℕ, ◌+◌, ◌==◌, true, false}
use Rattle.std.proofs.Common.{nat_lt}
use Rattle.std.proofs.Common.{List, [], ◌∷◌, Option}
use Rattle.std.proofs.Common.{None, Some, Result, Ok, slice_index, unwrap_or}
use Rattle.std.proofs.Common.{option_map, refl}
use Rattle.std.proofs.Common.{sym, ap, ◌∙◌, arith, eqb-true}
use Rattle.std.specs.Prelude.{IfSome, IsSomeAnd}
use Rattle.std.specs.List.{list_any}
use Rattle.std.proofs.lemmas.Bool.{cases_Bool, false≢true}
use Rattle.tk_base.specs.Bits.{bit_of, has_bit, with_bit}
use Rattle.tk_base.specs.declared.call.CallRule.{CallRule}
use Rattle.tk_base.specs.declared.call.CallRule.TheVariants.{NoRoom, Range}
use Rattle.grant_values.specs.declared.alarm.Armed.{Armed}
use Rattle.grant_values.specs.declared.drivers.Driver.TheVariants.{Alarm, Buttons}
use Rattle.grant_values.specs.Drivers.{drivers}
use Rattle.grant_values.specs.Values.{AlarmValue, ButtonsValue, KeptValue, fresh_value}
use Rattle.rv32_model.specs.Laws.{CallsAreOfEcall}
use Rattle.syscall_abi.specs.declared.form.CallForm.{CallForm}
use Rattle.syscall_abi.specs.declared.form.CallForm.TheVariants as forms
use Rattle.syscall_abi.specs.declared.reply.Reply.{Reply}
use Rattle.syscall_abi.specs.declared.reply.Reply.TheVariants.{Success, SuccessU32}
use Rattle.syscall_abi.specs.Call.{call_of}
use Rattle.process_model.specs.Handed.{has_place, own_entering}
use Rattle.process_model.specs.Own.{Own}
use Rattle.process_model.specs.Served.{kept, with_kept}
use Rattle.process_record.specs.declared.outcome.Outcome.TheVariants as outcomes
use Rattle.driver_model.specs.Alarm as alarm
use Rattle.driver_model.specs.Buttons as buttons
use Rattle.driver_model.specs.Commands.{BoardRequest, Commanded, accepting, by_number, refusing}
use Rattle.driver_model.specs.Drivers.{CommandContext, CommandHandler, handler_by, handler_of}
use Rattle.driver_model.specs.Steps.{own_after}
use Rattle.kernel_model.specs.Record.{Record, with_effect}
use Rattle.kernel_model.specs.declared.settings.Settings.{Settings}
use Rattle.kernel_model.specs.Calls.{Served}
use Rattle.kernel_model.specs.Calls.{served}
use Rattle.kernel_model.specs.Parts.{with_process}
use Rattle.kernel_model.specs.Turn.{made, surroundings, turn_counted, turned}
use Rattle.kernel_model.specs.World.{now_in}
use Rattle.process_record.specs.declared.emit.CallMade.{CallMade}
use Rattle.kernel_laws.specs.Arming.{AlarmsAndButtonsAreSetByCommands, AlarmsAndButtonsFollowCommands}
use Rattle.kernel_laws.specs.Arming.{AreSetByCommands}
use Rattle.kernel_laws.specs.Arming.{Becomes, CommandSets, SetsAlarm, SetsBy, SetsButtons, is_among}
use Rattle.kernel_laws.proofs.Accepted.{Accepts, if_called, of_accepted}
use Rattle.kernel_laws.proofs.Asking.{of_restart}
use Rattle.kernel_model.proofs.Beside.{scheduled_keeps}
use Rattle.kernel_laws.proofs.Between.{of_turns_at}
use Rattle.kernel_model.proofs.Calling.{of_commanded, of_served}
use Rattle.kernel_model.proofs.Classes.{made_as}
use Rattle.kernel_model.proofs.Turning.{of_denial, of_each_end}
use Rattle.rv32_model.specs.UserTurn.{UserTurn}
use Rattle.kernel_model.proofs.Yields.{kept_by_yield}
use Rattle.process_record.specs.Parts.{after_fault}
use Rattle.kernel_model.proofs.Commands.{command_leaves_others, row, if_either}
use Rattle.kernel_model.proofs.Values.{kept_entering, kept_put, alarm_blank, entering_read}
use Rattle.kernel_model.proofs.Places.{same_some}
use Rattle.kernel_model.proofs.Values.{kept_handing}

-- What a command leaves of a value: it is as it was, and the command is none of those of some numbers, or it was
-- refused; or it was accepted, and sets the value.
abbrev pub LeavesOrSets : {X : Type 0} → List ℕ → ℕ → Result Reply CallRule → X → X → Type 0 → Type 0
LeavesOrSets numbers number answer before later Sets =
    ((later ≡ before) × (list_any (λ n. n == number) numbers ≡ true → (reply : Reply) → answer ≡ Ok reply → ⊥))
    ⊎ (((reply : Reply) × (answer ≡ Ok reply)) × Sets)

-- the row of another number is none of these
pub no_row : {P : Type 0} (numbers : List ℕ) (number n : ℕ) → list_any (λ m. m == n) numbers ≡ false → number ≡ n
    → list_any (λ m. m == number) numbers ≡ true → P
no_row numbers number n none is among = absurd (false≢true (sym none ∙ rw is at among))

-- For a value that is read of what a driver keeps, and that commands of some numbers set, where a driver that is
-- entered tells what is told of none.
module _ {X : Type 0} (driver : ℕ) (read : Option KeptValue → X) (Sets : ℕ → X → List ℕ → X → Type 0)
    (numbers : List ℕ) (blank : (o : Option KeptValue) → read (Some (unwrap_or o (fresh_value driver))) ≡ read o) where
  abbrev value : Own → X
  value own = read (kept driver own)

  -- what a command leaves of it
  abbrev Leaves : CommandContext → ℕ → ℕ → ℕ → Own → Commanded → Type 0
  Leaves around number x y own c =
      LeavesOrSets numbers number c.answer (value own) (value (own_after c.step))
      (Sets around.now (value own) (driver ∷ number ∷ x ∷ y ∷ []) (value (own_after c.step)))

  abbrev AtDriver : Type 0
  AtDriver =
      (taker : CommandHandler) → handler_of driver ≡ Some taker → (around : CommandContext) (number x y : ℕ) (own : Own)
      → Leaves around number x y own (taker around number x y own)

  -- of a command to any driver: another one leaves it
  abbrev LeavesAt : ℕ → CommandContext → ℕ → ℕ → ℕ → Own → Commanded → Type 0
  LeavesAt other around number x y own c =
      (value (own_after c.step) ≡ value own)
      ⊎ (((reply : Reply) × (c.answer ≡ Ok reply))
      × Sets around.now (value own) (other ∷ number ∷ x ∷ y ∷ []) (value (own_after c.step)))

  of_any : AtDriver → (other : ℕ) (taker : CommandHandler) → handler_of other ≡ Some taker → (around : CommandContext)
      (number x y : ℕ) (own : Own) → LeavesAt other around number x y own (taker around number x y own)
  of_any here other taker is around number x y own =
      elim (cases_Bool (other == driver)) [
        | inl e ↦
            let same = eqb-true other driver e in
            elim (here taker (rw same at is) around number x y own) [
              | inl stays ↦ inl stays.0
              | inr sets ↦ inr (rw same sets)
            ]
        | inr e ↦ inl (ap read (scheduled_keeps driver (taker around number x y own).step
            ∙ command_leaves_others other taker is around number x y own driver e))
      ]

  -- an accepted command to the driver sets it, if its number is one of those
  pub accepted_sets : AtDriver → (around : CommandContext) (own o : Own) (acts : List BoardRequest) (call : CallMade)
      → Accepts around own o acts call → slice_index call.args 0 ≡ driver → is_among numbers call ≡ true
      → Sets around.now (value own) call.args (value o)
  accepted_sets here around own o acts call takes is among =
      elim (here takes.taker (rw is at takes.there) around (slice_index call.args 1) (slice_index call.args 2)
      (slice_index call.args 3) own) [
        | inl same ↦ absurd (same.1 among takes.reply takes.accepts)
        | inr sets ↦ rw takes.own (rw (rw is at takes.args) at sets.1)
      ]

  -- and what a turn leaves
  module _ (here : AtDriver) (settings : Settings) (time : ℕ) (r : Record) where
    abbrev around : CommandContext
    around = surroundings settings time (turn_counted r)

    -- what is left, by the call that is told
    abbrev Stands : Option CallMade → Own → Type 0
    Stands call o =
        (value o ≡ value r.own) ⊎ (IsSomeAnd call (SetsBy Sets around.now (value r.own) (value o))
        ⊎ ((o.life ≡ r.own.life + 1) × (value o ≡ read None)))

    module _ (t : UserTurn) (form : CallForm) (is : call_of t.regs ≡ Some form) where
      abbrev ran : Record
      ran = with_effect (turn_counted r) t

      abbrev LeavesCall : Served → Type 0
      LeavesCall s = Stands (Some (made t.regs s.outcome)) s.after.own

      of_call : LeavesCall (served settings.strict (surroundings settings time ran) ran form)
      of_call =
          of_served LeavesCall around ran settings.strict form (record {
            refused = λ rule. inl refl;
            same = λ reply. inl refl;
            moved = λ new reply may. inl refl;
            swapped = λ swap reply may.
                inl (ap read (kept_handing driver swap.driver swap.kind swap.number swap.pair ran.own)
                ∙ entering_read driver read blank swap.driver ran.own);
            yields = λ number a b same. inl (rw (kept_by_yield ran number a b).same.grants refl);
            commands = λ d number x y taker same there.
                let c = taker around number x y ran.own in
                let a = made_as t.regs (forms.Command d number x y) (is ∙ ap (λ (f : CallForm). Some f) same) in
                elim (of_any here d taker there around number x y ran.own) [
                  | inl stays ↦ of_commanded LeavesCall ran c (λ reply answers. inl stays) (λ rule answers. inl stays)
                  | inr sets ↦
                      of_commanded LeavesCall ran c
                      (λ reply answers.
                      inr (inl (record { class = a.1.class_is; accepted = refl; sets = rw a.0 at sets.1 })))
                      (λ rule answers. let both = rw answers at sets.0.1 in absurd (cc))
                ];
            ends = λ kind code same. inl refl;
            again = λ kind code same.
                of_restart (Stands (Some (made t.regs outcomes.Again))) ran (inl refl) (λ brk. inr (inr (refl, refl)));
          })

    pub of_turns : let t = turned settings time r in
        Becomes Sets (read None) around.now t.told r t.after (value r.own) (value t.after.own)
    of_turns =
        of_each_end settings time r (λ t. Stands t.told.call t.after.own) (record {
          nothing = λ none. inl refl;
          went = λ t is. inl refl;
          faults = λ t denial is runs.
              let s = with_effect (turn_counted r) t in
              of_denial (λ x. Stands None x.own) settings s denial (inl refl)
              (of_restart (Stands None) (with_process s (after_fault s.process denial)) (inl refl)
              (λ brk. inr (inr (refl, refl))));
          makes = λ t form is calls runs made. of_call t form made;
          delivers = λ next is yielded. inl refl;
        })

-- a value that is put where a driver was entered
kept_anew : (driver : ℕ) (value : KeptValue) (own : Own)
    → kept driver (with_kept driver value (own_entering driver own)) ≡ Some value
kept_anew driver value own =
    kept_put driver value (own_entering driver own)
    ∙ ap (option_map (λ (old : KeptValue). value)) (kept_entering driver own)

-- The alarm, and the buttons.
buttons_blank : (o : Option KeptValue)
    → buttons.enabled_in (Some (unwrap_or o (fresh_value buttons.buttons))) ≡ buttons.enabled_in o
unfolding drivers
buttons_blank None = refl
buttons_blank (Some v) = refl

-- the numbers of the commands that set each
abbrev set_alarm : List ℕ
set_alarm = 3 ∷ 5 ∷ 6 ∷ []

abbrev set_buttons : List ℕ
set_buttons = 1 ∷ 2 ∷ []

module _ (around : CommandContext) (number x y : ℕ) (own : Own) where
  abbrev LeavesAlarm : Commanded → Type 0
  LeavesAlarm = Leaves alarm.alarm_driver alarm.armed_in SetsAlarm set_alarm alarm_blank around number x y own

  abbrev LeavesButtons : Commanded → Type 0
  LeavesButtons =
      Leaves buttons.buttons buttons.enabled_in SetsButtons set_buttons buttons_blank around number x y own

  by_arming : (armed : Armed) → SetsAlarm around.now (alarm.alarm_in own) (0x0 ∷ number ∷ x ∷ y ∷ []) (Some armed)
      → LeavesAlarm (alarm.arming armed own)
  by_arming armed sets =
      if_either LeavesAlarm (has_place alarm.alarm_driver own) _ (refusing NoRoom own)
      (inr (
        (SuccessU32 (alarm.expiration armed), refl),
        rw (kept_anew alarm.alarm_driver (AlarmValue (Some armed)) own) sets,
      ))
      (inl (refl, λ among reply e. cc))

  by_stopping : number ≡ 3 → (armed : Option Armed) → LeavesAlarm (alarm.stopping armed own)
  by_stopping three None = inl (refl, λ among reply e. cc)
  by_stopping three (Some armed) =
      inr (
        (Success, refl),
        (
          refl,
          inl (
            three,
            rw (kept_put alarm.alarm_driver (AlarmValue None) own) (none_put (kept alarm.alarm_driver own)),
          ),
        ),
      )
    where
      none_put : (o : Option KeptValue)
          → alarm.armed_in (option_map (λ (old : KeptValue). AlarmValue None) o) ≡ None
      none_put None = refl
      none_put (Some v) = refl

  of_alarm : LeavesAlarm (by_number (alarm.commands around.now x y) number own)
  unfolding alarm.commands
  of_alarm =
      let at = row number own LeavesAlarm in
      at 0 _ _ (λ is. inl (refl, no_row set_alarm number 0 refl is))
      (at 1 _ _ (λ is. inl (refl, no_row set_alarm number 1 refl is))
      (at 2 _ _ (λ is. inl (refl, no_row set_alarm number 2 refl is))
      (at 3 _ _ (λ is. by_stopping is (alarm.alarm_in own))
      (at 5 _ _ (λ is. by_arming (record { reference = around.now; delta = x }) (refl, inr (inl (is, refl))))
      (at 6 _ _ (λ is. by_arming (record { reference = x; delta = y }) (refl, inr (inr (is, refl))))
      (inl (refl, λ among reply e. cc)))))))

  there : (c : Commanded) → LeavesButtons c → LeavesButtons (buttons.of_button around.buttons x own c)
  there c h =
      if_either LeavesButtons (nat_lt x around.buttons) c (refusing Range own) h (inl (refl, λ among reply e. cc))

  -- a mask is put only where the driver keeps something
  by_enabling : number ≡ 1 → LeavesButtons (buttons.enabling x own)
  by_enabling is =
      let mask = buttons.enabled (own_entering buttons.buttons own) in
      if_either LeavesButtons (has_place buttons.buttons own) _ (refusing NoRoom own)
      (inr (
        (Success, refl),
        (
          refl,
          inl (
            is,
            ap buttons.enabled_in (kept_anew buttons.buttons (ButtonsValue (with_bit mask x true)) own)
                ∙ ap (λ (mask : ℕ). with_bit mask x true)
                (entering_read buttons.buttons buttons.enabled_in buttons_blank buttons.buttons own),
          ),
        ),
      ))
      (inl (refl, λ among reply e. cc))

  by_disabling : number ≡ 2 → LeavesButtons (accepting Success (buttons.set_enabled x false own))
  by_disabling is =
      inr (
        (Success, refl),
        (
          refl,
          inr (
            is,
            ap buttons.enabled_in (kept_put buttons.buttons (ButtonsValue (with_bit (buttons.enabled own) x false)) own)
                ∙ put (kept buttons.buttons own),
          ),
        ),
      )
    where
      -- a mask in which no bit is set stays so
      put : (o : Option KeptValue)
          → let later = with_bit (buttons.enabled_in o) x false in
          buttons.enabled_in (option_map (λ (old : KeptValue). ButtonsValue later) o) ≡ later
      put None = omega arith
      put (Some v) = refl

  of_buttons : LeavesButtons (by_number (buttons.commands around.buttons around.pressed x) number own)
  unfolding buttons.commands
  of_buttons =
      let at = row number own LeavesButtons in
      at 0 _ _ (λ is. inl (refl, no_row set_buttons number 0 refl is))
      (at 1 _ _ (λ is. there (buttons.enabling x own) (by_enabling is))
      (at 2 _ _ (λ is. there (accepting Success (buttons.set_enabled x false own)) (by_disabling is))
      (at 3 _ _ (λ is. there (accepting (SuccessU32 (bit_of (has_bit around.pressed x))) own)
      (inl (refl, no_row set_buttons number 3 refl is))) (inl (refl, λ among reply e. cc)))))

alarm_here : AtDriver alarm.alarm_driver alarm.armed_in SetsAlarm set_alarm alarm_blank
unfolding drivers
alarm_here taker is around number x y own =
    rw (← same_some (handler_by Alarm) taker is) (of_alarm around number x y own)

buttons_here : AtDriver buttons.buttons buttons.enabled_in SetsButtons set_buttons buttons_blank
unfolding drivers
buttons_here taker is around number x y own =
    rw (← same_some (handler_by Buttons) taker is) (of_buttons around number x y own)

pub alarms_and_buttons : AlarmsAndButtonsAreSetByCommands
alarms_and_buttons w choice =
    of_turns_at (AreSetByCommands (now_in w)) w (λ r. record {
      alarm = of_turns alarm.alarm_driver alarm.armed_in SetsAlarm set_alarm alarm_blank alarm_here w.settings
          w.clock.time r;
      buttons = of_turns buttons.buttons buttons.enabled_in SetsButtons set_buttons buttons_blank buttons_here
          w.settings w.clock.time r;
    }) choice

pub follow_commands : CallsAreOfEcall → AlarmsAndButtonsFollowCommands
follow_commands of_ecall w choice =
    of_turns_at (λ r s told. IfSome told.call (CommandSets (now_in w) r s)) w (λ r.
    let t = turned w.settings w.clock.time r in
    let around = surroundings w.settings w.clock.time r in
    if_called t.told.call (λ call. call.class ≡ 2 → call.rule ≡ None
    → Accepts around r.own t.after.own t.acts call) (CommandSets (now_in w) r t.after) (λ call accepts. record {
      alarm = λ is among.
          accepted_sets alarm.alarm_driver alarm.armed_in SetsAlarm set_alarm alarm_blank alarm_here around r.own
          t.after.own t.acts call (accepts is.class is.accepted) is.of_driver among;
      buttons = λ is among.
          accepted_sets buttons.buttons buttons.enabled_in SetsButtons set_buttons buttons_blank buttons_here around
          r.own t.after.own t.acts call (accepts is.class is.accepted) is.of_driver among;
    }) (of_accepted of_ecall w.settings w.clock.time r)) choice
