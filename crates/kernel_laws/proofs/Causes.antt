-- The cause of each change of a process's bytes: by its turn, by the end of its instruction and by its call. An
-- instruction that goes changes what it stores; a call changes the byte of an accepted yield's flag, the buffer that is
-- shown the clock, or any byte as its process starts again (`Changes`); a delivery changes none. The walk is the
-- definition's.
use Rattle.std.proofs.lemmas.Option.{cond_some}
use Rattle.std.proofs.Common.{◌≡◌, ◌⊎◌, inl, inr, ℕ, ◌+◌, ◌==◌, Bool, true, false, ◌&&◌, List, Option}
use Rattle.std.proofs.Common.{None, Some, is_ok, is_some, slice_index, refl, ap, sym, subst}
use Rattle.std.proofs.Common.{◌∙◌, ◌≤◌, arith, eqb-true, nat_le, option_and_then}
use Rattle.std.specs.Prelude.{IsTrue}
use Rattle.std.specs.List.{list_any}
use Rattle.tk_base.specs.declared.access.Denial.{Denial}
use Rattle.tk_base.specs.declared.call.CallRule.{CallRule}
use Rattle.tk_base.specs.declared.upcall.Upcall.{Upcall as Scheduled}
use Rattle.upcall_queue.specs.declared.inbox.Delivery.{Delivery}
use Rattle.upcall_queue.specs.Pending.{due}
use Rattle.rv32_model.specs.declared.turn_end.TurnEnd.{TurnEnd}
use Rattle.rv32_model.specs.declared.turn_end.TurnEnd.TheVariants as ends
use Rattle.rv32_model.specs.Laws.{CallsAreOfEcall, stores_at}
use Rattle.rv32_model.specs.UserTurn.{MemoryAccess}
use Rattle.syscall_abi.specs.declared.form.CallForm.{CallForm}
use Rattle.syscall_abi.specs.declared.form.CallForm.TheVariants as forms
use Rattle.syscall_abi.specs.declared.reply.Reply.{Reply}
use Rattle.tk_base.specs.Regs.{Registers}
use Rattle.syscall_abi.specs.Call.{a0, a1, call_of, class}
use Rattle.process_model.specs.Changes.{ChangesAt, IsInside, IsWhole, KeepsBytes, OnlyWritesChangeBytes}
use Rattle.process_model.specs.Flag.{flag_place}
use Rattle.process_model.specs.Handed.{lies_in_ram}
use Rattle.driver_model.specs.Bytes.{CommandsWriteInBuffers, ShowsClock, clock_buffer, shows_clock}
use Rattle.driver_model.specs.Steps.{own_after}
use Rattle.driver_model.specs.Commands.{Commanded}
use Rattle.driver_model.specs.Drivers.{CommandContext}
use Rattle.process_record.specs.declared.outcome.Outcome.TheVariants.{Replied}
use Rattle.process_record.specs.declared.process.Process.{Process}
use Rattle.process_record.specs.declared.process.State.{State}
use Rattle.process_record.specs.declared.process.State.TheVariants.{Running, Yielded}
use Rattle.process_record.specs.Process.{after_call, waiting}
use Rattle.process_record.specs.Parts.{after_fault}
use Rattle.kernel_model.specs.Record.{Record, byte_at, instruction, with_effect}
use Rattle.kernel_model.specs.Parts.{commanded, with_process}
use Rattle.kernel_model.specs.declared.settings.Settings.{Settings}
use Rattle.kernel_model.specs.Calls.{Served, restart}
use Rattle.kernel_model.specs.Calls.{served, yield_now}
use Rattle.kernel_model.specs.Calls.{yielding}
use Rattle.kernel_model.specs.Turn.{TurnTrace, Turned, turn_counted, at_turn_end, faulted, yield_flag_of, idle}
use Rattle.kernel_model.specs.Parts.{calls, delivery}
use Rattle.kernel_model.specs.Turn.{made, surroundings, turn_in}
use Rattle.kernel_model.specs.Parts.{instructed, unknown_call}
use Rattle.kernel_model.specs.Histories.{ends_life}
use Rattle.kernel_model.specs.Parts.{is_exit}
use Rattle.kernel_model.specs.Causes.{IsFlagOfYield, TurnHasCauses, TurnsHaveCauses, showed_clock}
use Rattle.process_model.specs.Permission.{denied}
use Rattle.std.proofs.lemmas.Bool.{and_parts, false≢true, leb-true}
use Rattle.kernel_model.proofs.Turning.{of_denial, only_counts}
use Rattle.kernel_laws.specs.Clock.{TurnsWithoutClockHaveCauses, asks_clock}
use Rattle.process_record.specs.declared.emit.CallMade.{CallMade}
use Rattle.kernel_model.proofs.Calling.{of_commanded, of_served}
use Rattle.kernel_model.proofs.Classes.{IsCommand, made_as}
use Rattle.kernel_model.proofs.Restarts.{restart_by}
use Rattle.kernel_model.proofs.Yields.{of_yield}
use Rattle.kernel_model.proofs.Places.{of_turned}

-- what a call, or a fault, leaves of a process's bytes: they change at the flag, or as it starts again where it ends a
-- life, or where it is shown the clock
record Changes (r : Record) (flag : Option ℕ) (ends shown : Bool) (s : Record) : Type 0 where
  own : ChangesAt (λ at. (flag ≡ Some at)
      ⊎ (((ends ≡ true) × (s.process.restarts ≡ r.process.restarts + 1))
      ⊎ ((shown ≡ true) × IsInside (clock_buffer r.own) at))) r.own s.own
  storage : s.storage ≡ r.storage

-- the flag of a call that broke no rule
abbrev if_accepted : Option CallRule → Option ℕ → Option ℕ
if_accepted None flag = flag
if_accepted (Some rule) flag = None

-- the same of a call
abbrev Leaves : Record → Option ℕ → Served → Type 0
Leaves r flag s =
    let m = made r.process.regs s.outcome in
    Changes r (if_accepted m.rule flag) (is_exit m) (showed_clock (Some m)) s.after

-- the flag that a turn told of such a call
abbrev flag_in : TurnTrace → Option ℕ
flag_in told = if_accepted (option_and_then (λ made. made.rule) told.call) told.flag

-- none change
kept : (r s : Record) (flag : Option ℕ) {ends shown : Bool} → KeepsBytes r.own s.own → s.storage ≡ r.storage
    → Changes r flag ends shown s
kept r s flag same storage = record { own = λ at before after. inl (same at before after); storage = storage }

same_own : (r : Record) (flag : Option ℕ) {ends shown : Bool} (process : Process)
    → Changes r flag ends shown (with_process r process)
same_own r flag process = kept r (with_process r process) flag (λ at before after. refl) refl

restarts_so : (r : Record) (flag : Option ℕ) (ends : Bool) {shown : Bool} → ends ≡ true
    → Changes r flag ends shown (restart r)
restarts_so r flag ends {shown} is =
    restart_by (Changes r flag ends shown) r (kept r r flag (λ at before after. refl) refl)
    (λ h m read main. record { own = λ at before after. inr (inr (inl (is, refl))); storage = refl })

-- such a command shows the clock where it is the one that does, and broke no rule
clock_shown : (regs : Registers) (driver number : ℕ) (reply : Reply) → IsCommand regs driver number
    → shows_clock driver number ≡ true → showed_clock (Some (made regs (Replied reply None))) ≡ true
clock_shown regs driver number reply is clock =
    rw (is.class_is, is.driver_is, is.number_is, clock)

-- whether registers make that command, and that they do
abbrev asked_in : Registers → Bool
asked_in regs = class regs == 2 && shows_clock (a0 regs) (a1 regs)

clock_asked : (regs : Registers) (driver number : ℕ) → IsCommand regs driver number → shows_clock driver number ≡ true
    → asked_in regs ≡ true
clock_asked regs driver number is clock =
    rw (is.class_is, is.driver_is, is.number_is, clock)

at_flag : {A B C : Type 0} → A ⊎ B → A ⊎ (B ⊎ C)
at_flag (inl same) = inl same
at_flag (inr flag) = inr (inl flag)

module _ (law : OnlyWritesChangeBytes) (commands : CommandsWriteInBuffers) (around : CommandContext) (r : Record) where
  of_yield_now : (at : ℕ) (first : Option Scheduled) → Leaves r (flag_place at r.own) (yield_now r at first)
  of_yield_now at None = record { own = λ a before after. at_flag (law.flag at 0 r.own a before after); storage = refl }
  of_yield_now at (Some upcall) =
      record { own = λ a before after. at_flag (law.flag at 1 r.own a before after); storage = refl }

  yields : (number a1 a2 : ℕ) → Leaves r (yield_flag_of r (forms.Yield number a1 a2)) (yielding r number a1 a2)
  yields number a1 a2 =
      of_yield (Leaves r (yield_flag_of r (forms.Yield number a1 a2))) r number a1 a2 (record {
        none = λ zero is. rw zero (of_yield_now a1 None);
        first = λ upcall zero is. rw zero (of_yield_now a1 (Some upcall));
        waits = λ one. same_own r _ (waiting r.process);
        waits_for = λ two is. record { own = λ a before after. inl refl; storage = refl };
        found = λ upcall two is. record { own = λ a before after. inl refl; storage = refl };
        goes_on = λ zero two. same_own r _ (after_call r.process);
      })

  of_command : (driver number : ℕ) (c : Commanded) (flag : Option ℕ) → IsCommand r.process.regs driver number
      → ChangesAt (ShowsClock driver number r.own c) r.own (own_after c.step) → Leaves r flag (commanded r c)
  of_command driver number c flag command changes =
      of_commanded (Leaves r flag) r c
      (λ reply is. record {
        own = λ at before after.
            elim (changes at before after) [
              | inl same ↦ inl same
              | inr shown ↦
                  inr (inr (inr (clock_shown r.process.regs driver number reply command shown.0, shown.2)))
            ];
        storage = refl;
      })
      (λ rule is. kept r _ None (λ at before after.
      elim (changes at before after) [
        | inl same ↦ same
        | inr shown ↦ absurd (false≢true (ap is_ok (sym is) ∙ shown.1))
      ]) refl)

  of_call : (strict : Bool) (call : CallForm) → call_of r.process.regs ≡ Some call
      → (asked_in r.process.regs ≡ true → IsWhole r.own)
      → Leaves r (yield_flag_of r call) (served strict around r call)
  of_call strict call is whole =
      of_served (Leaves r (yield_flag_of r call)) around r strict call (record {
        refused = λ rule. same_own r _ _;
        same = λ reply. same_own r _ _;
        moved = λ new reply may. kept r _ _ (λ at before after. refl) refl;
        swapped = λ swap reply may.
            kept r _ _ (law.handing swap.kind swap.driver swap.number swap.pair r.own) refl;
        yields = λ number a1 a2 same.
            rw same (yields number a1 a2);
        commands = λ driver number a2 a3 taker same there.
            let command = (made_as r.process.regs (forms.Command driver number a2 a3)
            (is ∙ ap (λ (form : CallForm). Some form) same)).1 in
            of_command driver number (taker around number a2 a3 r.own) (yield_flag_of r call) command
            (commands driver taker there around number a2 a3 r.own
            (λ clock. whole (clock_asked r.process.regs driver number command clock)));
        ends = λ kind code same. kept r _ _ (λ at before after. refl) refl;
        again = λ kind code same.
            restarts_so r _ _ (ap (λ (n : ℕ). n == 6 && true) (made_as r.process.regs (forms.Exit kind code)
            (is ∙ ap (λ (form : CallForm). Some form) same)));
      })

of_fault : (settings : Settings) (r : Record) (denial : Denial)
    → Changes r None true false (faulted settings r denial).after
of_fault settings r denial =
    let changes = restarts_so (with_process r (after_fault r.process denial)) None true refl in
    of_denial (Changes r None true false) settings r denial (kept r _ None (λ at before after. refl) refl)
    (record { own = changes.own; storage = changes.storage })

module _ (law : OnlyWritesChangeBytes) (commands : CommandsWriteInBuffers) (of_ecall : CallsAreOfEcall)
    (settings : Settings) (time : ℕ) where
  -- a turn by the end of its instruction, once its effect stands
  abbrev Causes : Record → Turned → Type 0
  Causes r t = Changes r (flag_in t.told) (ends_life t.told) (showed_clock t.told.call) t.after

  of_calls : (r : Record) (accesses : List MemoryAccess) (call : Option CallForm) → call_of r.process.regs ≡ call
      → let t = calls settings time r accesses call in (asks_clock t.told.call ≡ true → IsWhole r.own) → Causes r t
  of_calls r accesses None is whole = of_fault settings r (unknown_call r.process)
  of_calls r accesses (Some call) is whole =
      of_call law commands (surroundings settings time r) r settings.strict call is whole

  of_end : (r : Record) (accesses : List MemoryAccess) (end : TurnEnd)
      → let t = at_turn_end settings time r accesses end in
      (end ≡ ends.Call → asks_clock t.told.call ≡ true → IsWhole r.own) → Causes r t
  of_end r accesses ends.Went whole = kept r r None (λ at before after. refl) refl
  of_end r accesses ends.Call whole = of_calls r accesses (call_of r.process.regs) refl (whole refl)
  of_end r accesses (ends.Trap denial) whole = of_fault settings r denial

  -- a store is told by a turn that goes
  told_store : (r : Record) (accesses : List MemoryAccess) (end : TurnEnd) (at : ℕ) → end ≡ ends.Went
      → IsTrue (list_any (stores_at at) accesses)
      → IsTrue (list_any (stores_at at) (at_turn_end settings time r accesses end).told.accesses)
  told_store r accesses ends.Went at went covers = covers
  told_store r accesses end at went covers = absurd (cc)

  -- a flag is told by an accepted yield that does not wait, and lies in accessible RAM
  yield_told : (s : Record) (accesses : List MemoryAccess) (end : TurnEnd) (at : ℕ)
      → let t = at_turn_end settings time s accesses end in flag_in t.told ≡ Some at → IsFlagOfYield s t.told at
  yield_told s accesses ends.Call at e = by_call (call_of s.process.regs) refl e
    where
      by_rule : (call : CallForm) (m : CallMade) (rule : Option CallRule) → m.rule ≡ rule
          → call_of s.process.regs ≡ Some call → m.class ≡ class s.process.regs
          → slice_index m.args 0 ≡ a0 s.process.regs → slice_index m.args 1 ≡ a1 s.process.regs
          → if_accepted rule (yield_flag_of s call) ≡ Some at
          → IsFlagOfYield s (record { accesses = accesses; call = Some m; flag = yield_flag_of s call; denial = None })
          at
      by_rule call m (Some rule) broken is class_is first second e = absurd (cc)
      by_rule (forms.Yield number x y) m None kept is class_is first second e =
          let found = cond_some (number == 0 && lies_in_ram s.own.layout x 1) x at e in
          let parts = and_parts (number == 0) (lies_in_ram s.own.layout x 1) found.0 in
          let bounds = and_parts (nat_le s.own.layout.start x) (nat_le (x + 1) s.own.layout.brk) parts.1 in
          let at_is = found.1 in
          let from : s.own.layout.start ≤ x = leb-true _ _ bounds.0 in
          let up_to : x + 1 ≤ s.own.layout.brk = leb-true _ _ bounds.1 in
          let c = made_as s.process.regs (forms.Yield number x y) is in
          record {
            flag = e;
            made = (class_is ∙ c.0, first ∙ c.1.0 ∙ eqb-true number 0 parts.0, second ∙ c.1.1 ∙ at_is, kept);
            from = omega (arith, from, at_is);
            below = omega (arith, up_to, at_is);
          }
      by_rule call m None kept is class_is first second e = absurd (cc)

      by_call : (call : Option CallForm) → call_of s.process.regs ≡ call
          → let t = calls settings time s accesses call in flag_in t.told ≡ Some at → IsFlagOfYield s t.told at
      by_call None is e = absurd (cc)
      by_call (Some call) is e =
          by_rule call (made s.process.regs (served settings.strict (surroundings settings time s) s call).outcome) _
          refl
          is refl refl refl e
  yield_told s accesses end at e = absurd (cc)

  of_instruction : (r : Record) → let t = instructed settings time r in
      (asks_clock t.told.call ≡ true → IsWhole r.own) → TurnHasCauses r t.after t.told
  of_instruction r whole =
      let t = instruction r in
      let s = with_effect (turn_counted r) t in
      let u = at_turn_end settings time s t.accesses t.end in
      let changes = of_end s t.accesses t.end (λ call some.
      let is = of_ecall (denied r.own.layout) (byte_at r) r.process.regs call in
      subst IsWhole (sym (ap (λ (x : Record). x.own) (only_counts r t is.1 is.2))) (whole some)) in
      record {
        own = λ at before after.
            elim (law.instruction r.own (byte_at r) r.process.regs at before before) [
              | inr stored ↦ inr (inl (told_store s t.accesses t.end at stored.0 stored.1))
              | inl same ↦ elim (changes.own at before after) [
                | inl later ↦ inl (later ∙ same)
                | inr (inl flag) ↦
                    let y = yield_told s t.accesses t.end at flag in
                    inr (inr (inl (record { flag = y.flag; made = y.made; from = y.from; below = y.below })))
                | inr (inr cause) ↦ inr (inr (inr cause))
              ]
            ];
        storage = changes.storage;
      }

  of_idle : (r : Record) → TurnHasCauses r r (idle r).told
  of_idle r = record { own = λ at before after. inl refl; storage = refl }

  of_delivery : (r : Record) (next : Option Delivery) → let t = delivery r next in TurnHasCauses r t.after t.told
  of_delivery r None = of_idle r
  of_delivery r (Some next) = record { own = λ at before after. inl refl; storage = refl }

  of_state : (state : State) (r : Record) → let t = turn_in settings time state r in
      (asks_clock t.told.call ≡ true → IsWhole r.own) → TurnHasCauses r t.after t.told
  of_state Running r whole = of_instruction r whole
  of_state Yielded r whole = of_delivery r (due r.own.inbox)
  of_state state r whole = of_idle r

-- a call that asks for the clock is one
is_call : (call : Option CallMade) → asks_clock call ≡ true → is_some call ≡ true
is_call None asks = absurd (false≢true asks)
is_call (Some made) asks = refl

pub turns_have_causes : OnlyWritesChangeBytes → CommandsWriteInBuffers → CallsAreOfEcall → TurnsHaveCauses
turns_have_causes law commands of_ecall settings time r whole =
    of_turned (λ t. (is_some t.told.call ≡ true → IsWhole r.own) → TurnHasCauses r t.after t.told) settings time r
    (λ whole. of_idle law commands of_ecall settings time r)
    (λ whole. of_state law commands of_ecall settings time r.process.state r (λ asks. whole (is_call _ asks))) whole

pub turns_without_clock : OnlyWritesChangeBytes → CommandsWriteInBuffers → CallsAreOfEcall → TurnsWithoutClockHaveCauses
turns_without_clock law commands of_ecall settings time r none =
    of_turned (λ t. asks_clock t.told.call ≡ false → TurnHasCauses r t.after t.told) settings time r
    (λ none. of_idle law commands of_ecall settings time r)
    (λ none.
    of_state law commands of_ecall settings time r.process.state r (λ asks. absurd (false≢true (sym none ∙ asks))))
    none
