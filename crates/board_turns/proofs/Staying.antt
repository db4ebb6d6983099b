-- A call that is neither a memop nor an exit leaves what its process may access.
use Rattle.std.proofs.Common.{◌≡◌, ℕ, ◌==◌, Bool, false, List, [], Option, None, Some, refl, sym, ap, subst}
use Rattle.std.proofs.lemmas.Bool.{cond_both}
use Rattle.tk_base.specs.Kinds.{is_buffer}
use Rattle.tk_base.specs.declared.call.CallRule.{CallRule}
use Rattle.tk_base.specs.declared.call.CallRule.TheVariants.{Permission}
use Rattle.tk_base.specs.declared.kinds.PairKind.{PairKind}
use Rattle.pmp_regions.specs.declared.Entry.{Entry}
use Rattle.process_layout.specs.Bounds.{Bounds}
use Rattle.board_memory.specs.Registers.{Protect}
use Rattle.process_model.specs.Own.{Own}
use Rattle.process_model.specs.Handed.{lies_in_ram, marked}
use Rattle.process_record.specs.declared.outcome.Outcome.{Outcome}
use Rattle.process_record.specs.declared.process.Process.{Process}
use Rattle.driver_model.specs.Drivers.{CommandContext, CommandHandler, handler_of}
use Rattle.driver_model.specs.Laws.{CommandsStayInPlace}
use Rattle.syscall_abi.specs.declared.form.CallForm.{CallForm}
use Rattle.syscall_abi.specs.declared.form.CallForm.TheVariants as forms
use Rattle.syscall_abi.specs.declared.form.Swap.{Swap}
use Rattle.kernel_model.specs.Record.{Record}
use Rattle.kernel_model.specs.Calls.{Served, by_form, failure_of, refused_with, served}
use Rattle.kernel_model.specs.Calls.{swap_by, swap_refusal, taken_by, yielding}
use Rattle.kernel_model.specs.Parts.{object_permits}
use Rattle.kernel_model.specs.Turn.{surroundings}
use Rattle.kernel_model.proofs.Calling.{of_commanded}
use Rattle.kernel_model.proofs.Memops.{by_test}
use Rattle.kernel_model.proofs.Yields.{flag_so, of_yield}
use Rattle.kernel_calls.specs.Own.{record_in}
use Rattle.grant_enter.specs.Homes.{own_of}
use Rattle.board_drivers.specs.Driven.{beside_in}
use Rattle.kernel_calls.specs.Residents.{resident}
use Rattle.board_turns.specs.declared.machine.Machine.{Machine}
use Rattle.board_turns.specs.Guards.{DiffersInMark, may_move}
use Rattle.board_turns.specs.Turning.{Finishes}

-- registers that protect a process protect it where its layout differs in the mark alone
pub protects_still : (pmp : List Entry) (e f : Bounds) → DiffersInMark e f → Protect pmp e → Protect pmp f
protects_still pmp e f same p = subst (Protect pmp) (sym same) (record { deny = p.deny })

-- a pair that is handed moves the mark at most
marked_stays : (kind : PairKind) (pair : ℕ × ℕ) (e : Bounds) → DiffersInMark e (marked kind pair e)
marked_stays kind pair e =
    cond_both (is_buffer kind) _ _ (DiffersInMark e) (λ buffer. cond_both (pair.1 == 0) _ _ (DiffersInMark e)
    (λ none. refl) (λ some. cond_both (lies_in_ram e pair.0 pair.1) _ _ (DiffersInMark e) (λ ram. refl) (λ no. refl)))
    (λ no. refl)

-- what was served leaves what the process of a record may access
module _ (r : Record) where
  abbrev Stays : Served → Type 0
  Stays s = DiffersInMark r.own.layout s.after.own.layout

  yield_stays : (number a1 a2 : ℕ) → Stays (yielding r number a1 a2)
  yield_stays number a1 a2 =
      let flag = λ (byte : ℕ). flag_so (λ o. DiffersInMark r.own.layout o.layout) a1 byte r.own (λ ram. refl) in
      of_yield Stays r number a1 a2 (record {
        none = λ is none. flag 0;
        first = λ upcall is some. flag 1;
        waits = λ is. refl;
        waits_for = λ is none. refl;
        found = λ upcall is some. refl;
        goes_on = λ zero asks. refl;
      })

  swap_stays : (swap : Swap) (refusal : Option CallRule) → Stays (swap_by r swap refusal)
  swap_stays swap None = marked_stays swap.kind swap.pair r.own.layout
  swap_stays swap (Some rule) = refl

  command_stays : CommandsStayInPlace → (around : CommandContext) (driver number a2 a3 : ℕ) (o : Option CommandHandler)
      → handler_of driver ≡ o → Stays (taken_by around number a2 a3 r o)
  command_stays law around driver number a2 a3 None is = refl
  command_stays law around driver number a2 a3 (Some taker) is =
      let c = taker around number a2 a3 r.own in
      let same = ap (λ (o : Own). o.layout) (law driver taker is around number a2 a3 r.own) in
      of_commanded Stays r c (λ reply is. rw same) (λ rule is. rw same)

  form_stays : CommandsStayInPlace → (around : CommandContext) (call : CallForm) → may_move call ≡ false
      → Stays (by_form around r call)
  unfolding by_form
  form_stays law around (forms.Yield number a1 a2) none = yield_stays number a1 a2
  form_stays law around (forms.Swap swap) none = swap_stays swap (swap_refusal swap r.own)
  form_stays law around (forms.Command driver number a2 a3) none =
      command_stays law around driver number a2 a3 (handler_of driver) refl
  form_stays law around _ none = absurd (cc)

  call_stays : CommandsStayInPlace → (strict : Bool) (around : CommandContext) (call : CallForm)
      → may_move call ≡ false → Stays (served strict around r call)
  unfolding served
  call_stays law strict around call none =
      by_test Stays (object_permits strict r.object call) _ (refused_with r Permission (failure_of call Permission))
      (form_stays law around call none) refl

-- so does a call of the process in a slot, once it is served on a machine
pub finished_in_place : CommandsStayInPlace → (slot : ℕ) (x y : Machine) (call : CallForm) (o : Outcome)
    (p q : Process) → may_move call ≡ false
    → Finishes slot x y call o (resident x.home slot p) (resident y.home slot q)
    → DiffersInMark (own_of x.home slot).layout (own_of y.home slot).layout
finished_in_place law slot x y call o p q none finish =
    let before = record_in x.home.flash p (own_of x.home slot) (beside_in x.drivers []) in
    rw (finish.serves []) at
    (call_stays before law x.moment.settings.strict (surroundings x.moment.settings x.moment.time before) call none)
