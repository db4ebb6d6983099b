-- What a turn, an answer and an operator's act leave of what is scheduled, case by case: the inbox after is that which
-- the label alone computes from the one before (`Exact`). By the walk over turns, and over calls by their class.
use Rattle.std.proofs.Math.Bool.{and-false}
use Rattle.std.proofs.Common.{◌≡◌, ℕ, ◌==◌, ◌&&◌, true, false, cond, not, List, [], ◌∷◌, filter, slice_get}
use Rattle.std.proofs.Common.{Option, None, Some, is_some, Result, Ok, Err, refl, sym, ap, ◌∙◌}
use Rattle.std.specs.Prelude.{is_none, remove}
use Rattle.std.specs.Result.{result_err}
use Rattle.std.proofs.lemmas.List.Elements.{filter_agree}
use Rattle.tk_base.specs.declared.call.CallRule.{CallRule}
use Rattle.tk_base.specs.declared.kinds.PairKind.{PairKind}
use Rattle.tk_base.specs.declared.kinds.PairKind.TheVariants.{Upcall}
use Rattle.tk_base.specs.declared.process.Verb.{Verb}
use Rattle.tk_base.specs.declared.upcall.Upcall.{Upcall as Scheduled}
use Rattle.tk_base.specs.declared.upcall.Wait.{Wait}
use Rattle.tk_base.specs.declared.upcall.Wait.TheVariants.{No}
use Rattle.tk_base.specs.Regs.{Registers}
use Rattle.syscall_abi.specs.declared.reply.Reply.{Reply}
use Rattle.syscall_abi.specs.Call.{a0, a1, a2, a3}
use Rattle.upcall_queue.specs.declared.inbox.Inbox.{Inbox}
use Rattle.upcall_queue.specs.Pending.{is_of}
use Rattle.process_model.specs.Pairs.{OnlyHandingChangesPairs}
use Rattle.driver_model.specs.Drivers.{CommandContext, CommandHandler, handler_of}
use Rattle.driver_model.specs.Steps.{own_after}
use Rattle.driver_model.specs.Upcalls.{scheduled_if}
use Rattle.process_record.specs.Parts.{after_fault}
use Rattle.kernel_model.specs.Record.{Record, with_effect}
use Rattle.kernel_model.specs.declared.settings.Settings.{Settings}
use Rattle.kernel_model.specs.Calls.{Served}
use Rattle.kernel_model.specs.Calls.{refused_with, swap_by}
use Rattle.kernel_model.specs.Parts.{with_process}
use Rattle.kernel_model.specs.Turn.{Act, Event, Turn}
use Rattle.kernel_model.specs.Turn.{Turned, apply, is_turn, operated}
use Rattle.kernel_model.specs.Turn.{surroundings, turn_counted, turned}
use Rattle.kernel_model.specs.Laws.{CanStartAgain}
use Rattle.kernel_model.specs.Histories.{class_of, ends_life}
use Rattle.kernel_model.proofs.Classes.{swap_in}
use Rattle.kernel_model.proofs.Places.{free_turned}
use Rattle.kernel_model.proofs.Restarts.{restarts}
use Rattle.kernel_model.proofs.Turning.{of_denial}
use Rattle.kernel_model.proofs.Yields.{of_yield}
use Rattle.kernel_model.proofs.Steps.{of_operated}
use Rattle.kernel_laws.proofs.Between.{of_each_answer, of_each_turn}
use Rattle.kernel_model.proofs.Commands.{command_leaves}
use Rattle.kernel_laws.proofs.Scheduled.{flag_inbox, step_inbox, told_inbox}
use Rattle.kernel_histories.specs.Deliveries.{wait_of}
use Rattle.kernel_histories.specs.Inboxes.{AnswersLeaveInbox, InboxesAreExact, LeavesInbox, inbox_left, none_left}
use Rattle.kernel_histories.specs.Inboxes.{upcall_by_turn}
use Rattle.kernel_histories.proofs.CommandsSchedule.{cancelled, of_command}
use Rattle.std.proofs.Common.{inl, inr, ne_eqb, eqb-true, eq-eqb}
use Rattle.std.proofs.lemmas.Bool.{cases_Bool, false≢true}
use Rattle.std.proofs.lemmas.Option.{slice_get_cases}
use Rattle.upcall_queue.proofs.Places.{none_taken}
use Rattle.kernel_histories.proofs.Walk.{tells}
use Rattle.kernel_model.proofs.Calling.{of_commanded}
use Rattle.kernel_histories.proofs.Walk.{OfEachClass, of_class, of_state}

-- a filter that passes all
pub all_pass : {X : Type 0} (xs : List X) → filter (λ x. true) xs ≡ xs
all_pass [] = refl
all_pass {X} (x ∷ xs) = ap (λ (rest : List X). x ∷ rest) (all_pass xs)

-- where none is at a place, none is taken out there
pub none_there : {X : Type 0} (xs : List X) (place : ℕ) → slice_get xs place ≡ None → remove xs place ≡ xs
none_there xs place none =
    elim (slice_get_cases xs place).1 [
      | inl there ↦ let some = there.2 in absurd (cc)
      | inr past ↦ none_taken xs place past.0
    ]

-- a subscribe is of an upcall's key where the upcall is of what is subscribed
same_number : (a b : ℕ) → (a == b) ≡ (b == a)
same_number a b =
    elim (cases_Bool (a == b)) [
      | inl e ↦ rw (e, eq-eqb b a (sym (eqb-true a b e))) refl
      | inr e ↦ rw (e, ne_eqb b a (λ same. false≢true (sym e ∙ eq-eqb a b (sym same)))) refl
    ]

is_subscribed : (driver number : ℕ) (pair : ℕ × ℕ) (u : Scheduled)
    → is_some (cond ((driver == u.driver && number == u.number) && true) (Some pair) None) ≡ is_of driver number u
is_subscribed driver number pair u =
    rw (same_number driver u.driver, same_number number u.number) (elim (cases_Bool (is_of driver number u)) [
      | inl e ↦ rw e refl
      | inr e ↦ rw e refl
    ])

-- what is scheduled with other pending upcalls
abbrev with_pending : Inbox → List Scheduled → Inbox
with_pending inbox us = record inbox { pending = us }

-- all that is scheduled, as what no turn takes away
all_left : (inbox : Inbox) → inbox ≡ with_pending inbox (filter (λ u. true) inbox.pending)
all_left inbox = ap (with_pending inbox) (sym (all_pass inbox.pending))

-- what a turn leaves, by what its process waited for before it
abbrev pub Exact : Record → Option Wait → Turned → Type 0
Exact r before t =
    (ends_life t.told ≡ true → CanStartAgain r) →
    t.after.own.inbox ≡ scheduled_if (upcall_by_turn t.told.call r.own) (inbox_left before t.told r.own.inbox)

module _ (r : Record) where
  abbrev regs : Registers
  regs = r.process.regs

  abbrev inbox : Inbox
  inbox = r.own.inbox

  abbrev pending : List Scheduled
  pending = inbox.pending

  -- what the call of a class leaves
  abbrev ByCall : ℕ → Served → Type 0
  ByCall n s = Exact r None (record { after = s.after; told = tells regs n s.outcome; acts = s.acts })

  -- a refused call leaves all
  of_refused : (n : ℕ) (rule : CallRule) (reply : Reply) → ByCall n (refused_with r rule reply)
  of_refused n rule reply can = simp (and-false, all_pass)

  of_kind : (kind : PairKind) → ByCall (class_of kind) (swap_by r (swap_in kind regs) None)
  of_kind Upcall can =
      ap (with_pending inbox) (filter_agree (λ (u : Scheduled). not (is_of (a0 regs) (a1 regs) u)) _
      (λ u. ap not (sym (is_subscribed (a0 regs) (a1 regs) (a2 regs, a3 regs) u))) pending)
  of_kind _ can = all_left inbox

  module _ (law : OnlyHandingChangesPairs) (around : CommandContext) where
    -- a command, by its answer
    queued : (taker : CommandHandler) → handler_of (a0 regs) ≡ Some taker → (answer : Result Reply CallRule)
        → let c = taker around (a1 regs) (a2 regs) (a3 regs) r.own in c.answer ≡ answer
        → (own_after c.step).inbox
        ≡ scheduled_if (cond (is_none (result_err answer) && (a0 regs == 0x1 && a1 regs == 3)) (Some (cancelled r.own))
        None) (with_pending inbox (filter (λ u. true) pending))
    queued taker is answer answers =
        let c = taker around (a1 regs) (a2 regs) (a3 regs) r.own in
        step_inbox c.step inbox (command_leaves (a0 regs) taker is around (a1 regs) (a2 regs) (a3 regs) r.own)
        ∙ rw (of_command law r.own (a1 regs) around (a2 regs) (a3 regs) (a0 regs) taker is, answers, all_pass pending)
        refl

    of_calls : OfEachClass ByCall around r
    of_calls = record {
      refused = of_refused;
      yields = of_yield (ByCall 0) r _ _ _ (record {
        none = λ zero is can. rw (zero, all_pass, none_there pending 0 is, flag_inbox) refl;
        first = λ upcall zero is can. rw (zero, all_pass, flag_inbox) refl;
        waits = λ is can. rw (is, all_pass) refl;
        waits_for = λ asks is can. rw (asks, all_pass, none_there pending _ is, is) refl;
        found = λ upcall asks is can. rw (asks, all_pass, is) refl;
        goes_on = λ zero asks can. rw (zero, asks, all_pass) refl;
      });
      hands = λ kind is accepted. of_kind kind;
      commands = λ taker is. let c = taker around (a1 regs) (a2 regs) (a3 regs) r.own in
          of_commanded (ByCall 2) r c (λ reply answers can. queued taker is (Ok reply) answers)
          (λ rule answers can. queued taker is (Err rule) answers);
      replies = λ reply can. all_left inbox;
      moves = λ new reply can. all_left inbox;
      ends = λ code can. refl;
      again = λ can. restarts (λ s. s.own.inbox ≡ none_left inbox) r (can refl) (λ h m. refl);
    }

-- the turn of a process
pub exact : OnlyHandingChangesPairs → (settings : Settings) (time : ℕ) (r : Record) → r.process.held ≡ false
    → Exact r (wait_of r) (turned settings time r)
exact law settings time r free =
    rw (free_turned settings time r free) (of_state settings time r (Exact r) (record {
      idles = λ can. all_left r.own.inbox;
      went = λ t can. all_left r.own.inbox;
      faults = λ t denial can. let s = with_effect (turn_counted r) t in
          of_denial (λ x. x.own.inbox ≡ none_left r.own.inbox) settings s denial refl
          (restarts (λ x. x.own.inbox ≡ none_left r.own.inbox) (with_process s (after_fault s.process denial))
          (can refl) (λ h m. refl));
      makes = λ t form is calls runs makes. let s = with_effect (turn_counted r) t in
          let around = surroundings settings time s in
          of_class (ByCall s) around s (of_calls s law around) settings.strict form makes;
      empty = λ is yielded can. rw (all_pass, none_there r.own.inbox.pending 0 is) refl;
      first = λ u is yielded can. rw all_pass refl;
      rests = λ driver number can. all_left r.own.inbox;
      given = λ args can. all_left (record r.own.inbox { wait = No });
    }))

-- an operator's act, and what a device tells
of_act : (verb : Verb) (r : Record) → AnswersLeaveInbox (Act verb) r (operated verb r)
of_act verb r =
    of_operated (λ ended s. (ended ≡ true → CanStartAgain r) → s.own.inbox ≡ cond ended (none_left r.own.inbox)
    r.own.inbox) r (λ can. refl) (λ held can. refl) (λ lives can. refl)
    (λ can. restarts (λ s. s.own.inbox ≡ none_left r.own.inbox) r (can refl) (λ h m. refl)) verb

of_event : (settings : Settings) (event : Event) (r : Record) → is_turn event ≡ false
    → AnswersLeaveInbox event r (apply settings event r)
unfolding apply
of_event settings (Turn time) r no_turn = absurd (cc)
of_event settings (Act verb) r no_turn = of_act verb r
of_event settings event r no_turn = told_inbox settings event r refl

pub inboxes_are_exact : OnlyHandingChangesPairs → InboxesAreExact
inboxes_are_exact law = record {
  turns = of_each_turn LeavesInbox (λ settings time r. record { inbox = exact law settings time r });
  answers = of_each_answer AnswersLeaveInbox of_event;
}
