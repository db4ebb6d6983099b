-- What a turn takes of the upcalls that wait for its process: the one walk over what is taken. A law gives a case for
-- each way of taking (`OfTakings`): nothing, the first or the first of one upcall by a yield, and the first as a
-- process wakes that has yielded. By the walks over turns and calls.
use Rattle.std.proofs.Common.{◌≡◌, ℕ, ◌==◌, true, false, [], Option, None, Some, ◌∷◌}
use Rattle.std.proofs.Common.{slice_get, sym, ap, subst, ◌∙◌}
use Rattle.std.specs.Prelude.{All}
use Rattle.std.proofs.lemmas.List.Elements.{All-nil, All-cons}
use Rattle.tk_base.specs.declared.process.Choice.{Choice}
use Rattle.tk_base.specs.declared.upcall.Wait.{Wait}
use Rattle.tk_base.specs.declared.upcall.Wait.TheVariants.{No}
use Rattle.upcall_queue.specs.Pending.{due_by, place_of}
use Rattle.rv32_model.specs.declared.turn_end.TurnEnd.TheVariants as ends
use Rattle.rv32_model.specs.Laws.{CallsAreOfEcall}
use Rattle.syscall_abi.specs.declared.form.CallForm.{CallForm}
use Rattle.syscall_abi.specs.Call.{a1, a2, call_of}
use Rattle.process_model.specs.Permission.{denied}
use Rattle.driver_model.specs.Drivers.{CommandContext}
use Rattle.process_record.specs.declared.process.State.TheVariants.{Running}
use Rattle.kernel_model.specs.Record.{Record, byte_at, instruction, with_effect}
use Rattle.kernel_model.specs.declared.settings.Settings.{Settings}
use Rattle.kernel_model.specs.Calls.{Served, served}
use Rattle.kernel_model.specs.Calls.{yield_for, yield_now}
use Rattle.kernel_model.specs.Turn.{TurnTrace, Turned, turn_counted, made, surroundings}
use Rattle.kernel_model.specs.Parts.{calls, delivery}
use Rattle.kernel_model.specs.Turn.{turned}
use Rattle.kernel_model.specs.World.{World, after}
use Rattle.kernel_histories.specs.Deliveries.{First, FirstOf, Nothing, Takes, is_yielded}
use Rattle.kernel_histories.specs.Deliveries.{taken_by_call, takes, told_in, wait_of}
use Rattle.kernel_model.specs.Histories.{class_of}
use Rattle.kernel_model.proofs.Classes.{swap_in}
use Rattle.kernel_model.proofs.Yields.{of_yield}
use Rattle.kernel_model.proofs.Turning.{only_counts}
use Rattle.kernel_model.proofs.Steps.{of_step}
use Rattle.kernel_model.proofs.Places.{free_turned, same_some, same_there}
use Rattle.std.proofs.Math.Bool.{and-false}
use Rattle.rv32_model.specs.UserTurn.{UserTurn}
use Rattle.tk_base.specs.declared.kinds.PairKind.{PairKind}
use Rattle.tk_base.specs.declared.kinds.PairKind.TheVariants.{Upcall}
use Rattle.kernel_model.specs.Turn.{called}
use Rattle.kernel_model.proofs.Calling.{of_commanded}
use Rattle.kernel_model.specs.Calls.{swap_by}
use Rattle.syscall_abi.specs.Call.{a3}
use Rattle.kernel_histories.proofs.Walk.{OfEachClass, of_class, of_state}

-- what holds of a record before a turn and after it, by what the turn takes
pub record OfTakings (P : Takes → Record → Record → Type 0) : Type 0 where
  pub nothing : (r s : Record) → P Nothing r s
  pub now : (r : Record) (at : ℕ) → is_yielded r.process.state ≡ false →
      P First r (yield_now (turn_counted r) at (slice_get r.own.inbox.pending 0)).after
  pub asks : (r : Record) (driver number : ℕ) → is_yielded r.process.state ≡ false →
      let pending = r.own.inbox.pending in
      P (FirstOf driver number) r
      (yield_for (turn_counted r) driver number (slice_get pending (place_of driver number pending))).after
  pub woken : (r : Record) → is_yielded r.process.state ≡ true →
      P First r (delivery r (due_by No r.own.inbox.pending)).after

module _ (settings : Settings) (time : ℕ) (P : Takes → Record → Record → Type 0) (each : OfTakings P) (r : Record) where
  abbrev counted : Record
  counted = turn_counted r

  -- of a turn, and of a call in it
  abbrev Takings : Option Wait → Turned → Type 0
  Takings wait t = P (takes wait t.told.call) r t.after

  abbrev ByCall : ℕ → Served → Type 0
  ByCall n s = P (taken_by_call (Some (record (made r.process.regs s.outcome) { class = n }))) r s.after

  of_kind : (kind : PairKind) (s : Served) → ByCall (class_of kind) s
  of_kind Upcall s = each.nothing r _
  of_kind _ s = each.nothing r _

  of_calls : (around : CommandContext) → is_yielded r.process.state ≡ false → OfEachClass ByCall around counted
  of_calls around runs =
      let one = a1 r.process.regs in
      record {
        refused = λ n rule reply. rw (and-false (n == 0)) (each.nothing r _);
        yields = of_yield (ByCall 0) counted _ _ _ (record {
          none = λ zero is. rw zero (rw is at (each.now r one runs));
          first = λ upcall zero is. rw zero (rw is at (each.now r one runs));
          waits = λ is. rw is (each.nothing r _);
          waits_for = λ asks is. rw asks (rw is at (each.asks r one (a2 r.process.regs) runs));
          found = λ upcall asks is. rw asks (rw is at (each.asks r one (a2 r.process.regs) runs));
          goes_on = λ zero asks. rw (zero, asks) (each.nothing r _);
        });
        hands = λ kind is accepted. of_kind kind (swap_by counted (swap_in kind counted.process.regs) None);
        commands = λ taker is. let regs = r.process.regs in
            of_commanded (ByCall 2) counted (taker around (a1 regs) (a2 regs) (a3 regs) r.own)
            (λ reply answers. each.nothing r _) (λ rule answers. each.nothing r _);
        replies = λ reply. each.nothing r _;
        moves = λ new reply. each.nothing r _;
        ends = λ code. each.nothing r _;
        again = each.nothing r _;
      }

  -- an instruction that calls only counts
  of_call : CallsAreOfEcall → (t : UserTurn) (form : CallForm) → t ≡ instruction r → t.end ≡ ends.Call
      → r.process.state ≡ Running → call_of t.regs ≡ Some form → let s = with_effect counted t in
      Takings None (called s t.accesses form (served settings.strict (surroundings settings time s) s form))
  of_call of_ecall t form is calls runs =
      let e = of_ecall (denied r.own.layout) (byte_at r) r.process.regs
      (sym (ap (λ (u : UserTurn). u.end) is) ∙ calls) in
      subst (λ (s : Record). call_of s.process.regs ≡ Some form
      → Takings None (called s t.accesses form (served settings.strict (surroundings settings time s) s form)))
      (sym (ap (with_effect counted) is ∙ only_counts r (instruction r) e.1 e.2))
      (of_class ByCall (surroundings settings time counted) counted (of_calls _ (ap is_yielded runs)) settings.strict
      form)

  pub turn_takes : CallsAreOfEcall → r.process.held ≡ false → Takings (wait_of r) (turned settings time r)
  turn_takes of_ecall free =
      rw (free_turned settings time r free) (of_state settings time r Takings (record {
        idles = each.nothing r _;
        went = λ t. each.nothing r _;
        faults = λ t denial. each.nothing r _;
        makes = of_call of_ecall;
        empty = λ is yielded. rw is at (each.woken r (ap is_yielded yielded));
        first = λ u is yielded. rw is at (each.woken r (ap is_yielded yielded));
        rests = λ driver number. each.nothing r _;
        given = λ args. each.nothing r _;
      }))

-- what holds of the turn of a process, by what it leaves and tells, holds of what a step tells of it
pub each_turn_told : (P : Record → TurnTrace → Type 0) (w : World) (slot : ℕ) (choice : Choice) (r s : Record)
    → slice_get w.records slot ≡ Some r → slice_get (after w choice).records slot ≡ Some s
    → (r.process.held ≡ false → let t = turned w.settings w.clock.time r in P t.after t.told)
    → All (P s) (told_in slot w choice)
each_turn_told P w slot choice r s is left turn =
    of_step w slot (λ ended tolds o. (x : Record) → o ≡ Some x → All (P x) tolds)
    (record {
      stays = λ x e. All-nil (P x);
      turn = λ q there free x e. at_turn q x (same_there (slice_get w.records slot) q r there is) free e;
      answer = λ q there event answers x e. All-nil (P x);
      act = λ q there verb x e. All-nil (P x);
    })
    choice s left
  where
    at_turn : (q x : Record) → q ≡ r → q.process.held ≡ false → Some (turned w.settings w.clock.time q).after ≡ Some x
        → All (P x) ((turned w.settings w.clock.time q).told ∷ [])
    at_turn q x same free e =
        let t = turned w.settings w.clock.time r in
        let after : t.after ≡ x = same_some t.after x (rw same at e) in
        rw (same, ← after) (All-cons (P t.after) t.told [] (turn (rw same at free)) (All-nil (P t.after)))

pub step_takes : (P : Takes → Record → Record → Type 0) → OfTakings P → CallsAreOfEcall
    → (w : World) (slot : ℕ) (choice : Choice) (r s : Record)
    → slice_get w.records slot ≡ Some r → slice_get (after w choice).records slot ≡ Some s
    → All (λ told. P (takes (wait_of r) told.call) r s) (told_in slot w choice)
step_takes P each of_ecall w slot choice r s is left =
    each_turn_told (λ x told. P (takes (wait_of r) told.call) r x) w slot choice r s is left
    (turn_takes w.settings w.clock.time P each r of_ecall)
