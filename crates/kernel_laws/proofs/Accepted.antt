-- What an accepted call leaves: a command what the driver makes of it that takes it; any other one what its class and
-- its arguments say. The turn goes by the walk `of_turn`; the class picks the row of the table of calls, and the call
-- of that row computes (`ComesTo`). A refused call has a rule, which an accepted one has not.
use Rattle.kernel_model.proofs.Calling.{of_commanded}
use Rattle.std.proofs.Common.{◌≡◌, ℕ, ◌==◌, Bool, List, [], ◌∷◌, Option, None, Some, Ok, IfSome, find}
use Rattle.std.proofs.Common.{slice_index, refl, sym, ap, subst, ◌∙◌}
use Rattle.std.specs.Option.{option_map}
use Rattle.tk_base.specs.Regs.{Registers}
use Rattle.driver_model.specs.Commands.{BoardRequest, Commanded}
use Rattle.driver_model.specs.Drivers.{CommandContext, CommandHandler, handler_of}
use Rattle.driver_model.specs.Steps.{own_after}
use Rattle.rv32_model.specs.Laws.{CallsAreOfEcall}
use Rattle.syscall_abi.specs.Call.{a0, a1, a2, a3, call_of, class, class_table}
use Rattle.syscall_abi.specs.declared.form.CallForm.{CallForm}
use Rattle.syscall_abi.specs.declared.reply.Reply.{Reply}
use Rattle.process_model.specs.Own.{Own}
use Rattle.process_record.specs.declared.emit.CallMade.{CallMade}
use Rattle.process_record.specs.declared.process.State.TheVariants.{Running}
use Rattle.kernel_model.specs.Calls.{Served, by_form, exit, memop, served, taken_by, yielding}
use Rattle.kernel_model.specs.Record.{Record}
use Rattle.kernel_model.specs.Turn.{arguments, made, rule_shown, surroundings, turn_counted, turned}
use Rattle.kernel_model.specs.declared.settings.Settings.{Settings}
use Rattle.kernel_model.proofs.Classes.{command_in, exit_in, memop_in, yield_in, same_form}
use Rattle.kernel_laws.proofs.Between.{of_turn}
use Rattle.kernel_model.proofs.Calling.{of_permitted}

-- what comes of a command of a process, by what takes it
abbrev pub comes_of : CommandContext → Own → CommandHandler → CallMade → Commanded
comes_of around own taker call =
    taker around (slice_index call.args 1) (slice_index call.args 2) (slice_index call.args 3) own

-- a command that its driver accepted, with what was the process's own, and is, and what was asked of the board
pub record Accepts (around : CommandContext) (before later : Own) (asked : List BoardRequest) (call : CallMade) :
    Type 0 where
  pub taker : CommandHandler
  pub there : handler_of (slice_index call.args 0) ≡ Some taker
  pub args :
      slice_index call.args 0 ∷ slice_index call.args 1 ∷ slice_index call.args 2 ∷ slice_index call.args 3 ∷ []
      ≡ call.args
  pub reply : Reply
  pub accepts : (comes_of around before taker call).answer ≡ Ok reply
  pub own : later ≡ own_after (comes_of around before taker call).step
  pub acts : asked ≡ (comes_of around before taker call).acts

-- the call that registers make of a class
of_class : (regs : Registers) (n : ℕ) → class regs ≡ n
    → call_of regs ≡ option_map (λ row. row.1) (find (λ row. row.0 == n) (class_table regs))
unfolding call_of
of_class regs n is = ap (λ (k : ℕ). option_map (λ row. row.1) (find (λ row. row.0 == k) (class_table regs))) is

module _ (strict : Bool) (around : CommandContext) (r : Record) where
  abbrev Takes : Served → Type 0
  Takes s = rule_shown s.outcome ≡ None → Accepts around r.own s.after.own s.acts (made r.process.regs s.outcome)

  by_taken : (o : Option CommandHandler) → handler_of (a0 r.process.regs) ≡ o
      → Takes (taken_by around (a1 r.process.regs) (a2 r.process.regs) (a3 r.process.regs) r o)
  by_taken None there none = absurd (cc)
  by_taken (Some taker) there none =
      let c = taker around (a1 r.process.regs) (a2 r.process.regs) (a3 r.process.regs) r.own in
      of_commanded Takes r c (λ reply is none. record {
        taker = taker;
        there = there;
        args = refl;
        reply = reply;
        accepts = is;
        own = refl;
        acts = refl;
      }) (λ rule is none. absurd (cc)) none

  takes : (form : CallForm) → call_of r.process.regs ≡ Some form → class r.process.regs ≡ 2
      → Takes (served strict around r form)
  unfolding by_form class_table
  takes form is two =
      subst (λ (f : CallForm). Takes (served strict around r f))
      (same_form (command_in r.process.regs) form (sym (of_class r.process.regs 2 two) ∙ is))
      (λ none. of_permitted Takes strict around r (command_in r.process.regs)
      (by_taken (handler_of (a0 r.process.regs)) refl) none none)

pub of_accepted : CallsAreOfEcall → (settings : Settings) (time : ℕ) (r : Record)
    → let t = turned settings time r in
    IfSome t.told.call (λ call. call.class ≡ 2 → call.rule ≡ None
    → Accepts (surroundings settings time r) r.own t.after.own t.acts call)
of_accepted of_ecall settings time r =
    of_turn of_ecall settings time r (λ t. IfSome t.told.call (λ call. call.class ≡ 2 → call.rule ≡ None
    → Accepts (surroundings settings time r) r.own t.after.own t.acts call)) (record {
      nothing = tt;
      went = λ t is. tt;
      faults = λ t denial is. tt;
      makes = λ accesses form is runs class accepted.
          takes settings.strict (surroundings settings time r) (turn_counted r) form is class accepted;
      delivers = λ next is yielded. tt;
    })

-- what a call of a class comes to, by its arguments, and that it does
abbrev pub ComesTo : ℕ → (Record → List ℕ → Served) → Type 0
ComesTo n comes =
    (around : CommandContext) (r : Record) (form : CallForm) → call_of r.process.regs ≡ Some form
    → class r.process.regs ≡ n → by_form around r form ≡ comes r (arguments r.process.regs)

-- so it does in a turn, of a process that runs, where it is accepted
pub record HasCome (comes : Record → List ℕ → Served) (r s : Record) (call : CallMade) : Type 0 where
  pub runs : r.process.state ≡ Running
  pub after : s ≡ (comes (turn_counted r) call.args).after
  pub keeps : rule_shown (comes (turn_counted r) call.args).outcome ≡ None

pub accepted : CallsAreOfEcall → (n : ℕ) (comes : Record → List ℕ → Served) → ComesTo n comes → (settings : Settings)
    (time : ℕ) (r : Record)
    → let t = turned settings time r in
    IfSome t.told.call (λ call. call.class ≡ n → call.rule ≡ None → HasCome comes r t.after call)
accepted of_ecall n comes so settings time r =
    of_turn of_ecall settings time r (λ t.
    IfSome t.told.call (λ call. call.class ≡ n → call.rule ≡ None → HasCome comes r t.after call)) (record {
      nothing = tt;
      went = λ t is. tt;
      faults = λ t denial is. tt;
      makes = λ accesses form is runs class accepted.
          let around = surroundings settings time (turn_counted r) in
          let here = comes (turn_counted r) (arguments r.process.regs) in
          let same = so around (turn_counted r) form is class in
          let both = of_permitted (λ s. rule_shown s.outcome ≡ None
          → (s.after ≡ here.after) × (rule_shown here.outcome ≡ None)) settings.strict around (turn_counted r) form
          (λ none. (
            ap (λ (s : Served). s.after) same,
            sym (ap (λ (s : Served). rule_shown s.outcome) same) ∙ none,
          )) accepted accepted in
          record { runs = runs; after = both.0; keeps = both.1 };
      delivers = λ next is yielded. tt;
    })

-- a yield, an exit, and a memop
abbrev pub yields : Record → List ℕ → Served
yields r args = yielding r (slice_index args 0) (slice_index args 1) (slice_index args 2)

pub accepted_yield : CallsAreOfEcall → (settings : Settings) (time : ℕ) (r : Record)
    → let t = turned settings time r in
    IfSome t.told.call (λ call. call.class ≡ 0 → call.rule ≡ None → HasCome yields r t.after call)
unfolding by_form class_table
accepted_yield of_ecall =
    accepted of_ecall 0 yields (λ around r form is zero.
    ap (by_form around r) (same_form form (yield_in r.process.regs) (sym is ∙ of_class r.process.regs 0 zero)))

abbrev pub exits : Record → List ℕ → Served
exits r args = exit r (slice_index args 0) (slice_index args 1)

pub accepted_exit : CallsAreOfEcall → (settings : Settings) (time : ℕ) (r : Record)
    → let t = turned settings time r in
    IfSome t.told.call (λ call. call.class ≡ 6 → call.rule ≡ None → HasCome exits r t.after call)
unfolding by_form class_table
accepted_exit of_ecall =
    accepted of_ecall 6 exits (λ around r form is six.
    ap (by_form around r) (same_form form (exit_in r.process.regs) (sym is ∙ of_class r.process.regs 6 six)))

abbrev pub memops : Record → List ℕ → Served
memops r args = memop r (slice_index args 0) (slice_index args 1)

pub accepted_memop : CallsAreOfEcall → (settings : Settings) (time : ℕ) (r : Record)
    → let t = turned settings time r in
    IfSome t.told.call (λ call. call.class ≡ 5 → call.rule ≡ None → HasCome memops r t.after call)
unfolding by_form class_table
accepted_memop of_ecall =
    accepted of_ecall 5 memops (λ around r form is five.
    ap (by_form around r) (same_form form (memop_in r.process.regs) (sym is ∙ of_class r.process.regs 5 five)))

-- what follows from what is said of a call is said of it
pub if_called : (o : Option CallMade) (P Q : CallMade → Type 0) → ((call : CallMade) → P call → Q call) → IfSome o P
    → IfSome o Q
if_called None P Q each holds = tt
if_called (Some call) P Q each holds = each call holds

pub at_call : (o : Option CallMade) (P : CallMade → Type 0) (call : CallMade) → IfSome o P → o ≡ Some call → P call
at_call o P call holds is = subst (λ (x : Option CallMade). IfSome x P) is holds
