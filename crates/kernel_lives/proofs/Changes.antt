-- What holds of a process after each thing that may happen to it: the one walk over turns and answers, and then over
-- any choices. Before a turn I holds of the process, and then J. A new law gives a field of `IsKept` for each primitive
-- change of a record (registers and state, what drivers leave, bytes, an end, a start); `over_choices` is the induction
-- on the choices, and `stays` what it gives where turns and holding keep I too. Of a step's choice itself
-- `of_each_choice` is the walk, and `put_at` says what each slot has where one record is put.
use Rattle.std.proofs.Common.{◌≡◌, ◌≤◌, ℕ, suc, ◌+◌, Bool, true, false, List, [], ◌∷◌}
use Rattle.std.proofs.Common.{drop, length, slice_get, take, Option, None, Some, IfSome, refl}
use Rattle.std.proofs.Common.{sym, ap, subst, arith}
use Rattle.std.specs.Prelude.{remove}
use Rattle.std.proofs.lemmas.List.{length-append, length-drop, length-take}
use Rattle.tk_base.specs.declared.access.Denial.{Denial}
use Rattle.tk_base.specs.declared.call.CallRule.{CallRule}
use Rattle.tk_base.specs.declared.process.Choice.{Choice}
use Rattle.tk_base.specs.Regs.{Registers}
use Rattle.process_layout.specs.Bounds.{permits_break}
use Rattle.tk_base.specs.declared.upcall.Wait.TheVariants.{For}
use Rattle.upcall_queue.specs.declared.inbox.Delivery.{Delivery}
use Rattle.upcall_queue.specs.declared.inbox.Delivery.TheVariants.{Function, Arguments}
use Rattle.upcall_queue.specs.declared.inbox.Inbox.{Inbox}
use Rattle.upcall_queue.specs.Pending.{left_by, taken_at}
use Rattle.process_model.specs.Own.{Own, kernel_break_of, own_ended as ended_own, with_inbox}
use Rattle.process_model.specs.Flag.{with_flag}
use Rattle.driver_model.specs.Steps.{own_after}
use Rattle.driver_model.specs.Drivers.{CommandContext}
use Rattle.driver_model.specs.Services.{OfEachService}
use Rattle.tk_base.specs.declared.process.Verb.{Verb}
use Rattle.rv32_model.specs.UserTurn.{UserTurn}
use Rattle.syscall_abi.specs.declared.form.CallForm.{CallForm}
use Rattle.syscall_abi.specs.declared.form.Swap.{Swap}
use Rattle.syscall_abi.specs.declared.reply.Reply.{Reply}
use Rattle.syscall_abi.specs.declared.reply.Reply.TheVariants.{Failure}
use Rattle.tk_base.specs.Call.{error_of}
use Rattle.process_record.specs.declared.process.RecordedRefusal.{RecordedRefusal}
use Rattle.process_record.specs.Process.{after_call as after_call_of, after_refusal}
use Rattle.process_record.specs.Parts.{after_fault}
use Rattle.process_record.specs.Process.{after_reply, waiting}
use Rattle.process_record.specs.Parts.{past_call}
use Rattle.kernel_model.specs.Record.{Record, instruction, with_effect, record_with_step}
use Rattle.kernel_model.specs.Parts.{record_with_own, with_process}
use Rattle.kernel_model.specs.declared.settings.Settings.{Settings}
use Rattle.kernel_model.proofs.Calling.{of_commanded, of_served}
use Rattle.kernel_model.proofs.Turning.{of_denial, of_each_end}
use Rattle.kernel_model.proofs.Yields.{of_yield}
use Rattle.kernel_model.specs.Calls.{Served, deliver, failure_of}
use Rattle.kernel_model.specs.Calls.{flag_written}
use Rattle.kernel_model.specs.Calls.{refused_with, replied}
use Rattle.kernel_model.specs.Parts.{own_swapped}
use Rattle.kernel_model.specs.Calls.{restart, served, swap_refusal}
use Rattle.kernel_model.specs.Calls.{yielding}
use Rattle.kernel_model.specs.Parts.{with_break_at}
use Rattle.kernel_model.specs.Turn.{Event, apply, turn_counted}
use Rattle.kernel_model.specs.Turn.{operated, surroundings, turned, may_turn}
use Rattle.kernel_model.specs.World.{World, after}
use Rattle.kernel_model.specs.Replay.{after_all}
use Rattle.process_record.specs.Process.{is_alive}
use Rattle.kernel_model.proofs.Steps.{IsAnswer, answer_changes, of_answer, of_operated, of_step}
use Rattle.std.proofs.Common.{◌==◌, eqb-true, eq-eqb}
use Rattle.std.proofs.lemmas.Bool.{cases_Bool, cond_both, false≢true}
use Rattle.std.proofs.lemmas.List.{length-set}
use Rattle.tk_base.specs.Bus.{put}
use Rattle.tk_base.specs.declared.access.Width.{Width}
use Rattle.tk_base.specs.declared.access.Width.TheVariants.{Byte, Half, Word}
use Rattle.rv32_model.specs.UserTurn.{Write}
use Rattle.process_model.specs.Handed.{lies_in_ram}
use Rattle.process_model.specs.Instruction.{ram_after}
use Rattle.process_record.specs.declared.process.State.{State}
use Rattle.process_record.specs.declared.process.State.TheVariants.{Running, Yielded, Faulted, Terminated}
use Rattle.process_record.specs.Process.{delivery_regs}
use Rattle.tk_base.specs.declared.process.Choice.TheVariants.{Run, Device, Pass}
use Rattle.tk_base.specs.declared.process.Dev.{Dev}
use Rattle.kernel_model.specs.Lives.{HoldsThroughout}
use Rattle.kernel_model.specs.World.{Clock, Stepped, carried_out, device_step_of, done, ran, stepped, unmade}
use Rattle.kernel_model.proofs.Places.{of_stepped, set_own, slice_get-set_other}
use Rattle.kernel_model.proofs.Yields.{flag_rest}
use Rattle.std.proofs.Common.{◌-◌, slice_set}
use Rattle.std.proofs.Common.{inl, inr}
use Rattle.std.proofs.Common.{◌∙◌}
use Rattle.std.proofs.Common.{◌⊎◌}

-- other registers, and another recorded refusal
abbrev with_regs : Record → Registers → Option RecordedRefusal → Record
with_regs r regs refusal = record r { process = record r.process { regs = regs; refusal = refusal } }

-- no upcall more is pending, and as many were dropped
pub record Takes (before now : Inbox) : Type 0 where
  pub not_more : length now.pending ≤ length before.pending
  pub dropped : now.dropped ≡ before.dropped

-- so it is where one is taken out
takes_at : (place : ℕ) (inbox : Inbox) → Takes inbox (taken_at place inbox)
takes_at place inbox =
    let xs = inbox.pending in
    let whole : length (remove xs place) ≡ length (take place xs) + length (drop (suc place) xs) =
    length-append (take place xs) (drop (suc place) xs) in
    record { not_more = omega (arith, whole, length-take place xs, length-drop (suc place) xs); dropped = refl }

takes_next : (next : Delivery) (inbox : Inbox) → Takes inbox (left_by next inbox)
takes_next (Function upcall) inbox = takes_at 0 inbox
takes_next (Arguments args) inbox = record { not_more = omega arith; dropped = refl }

-- a value that is put leaves as many bytes, and so does a flag
put_size : (xs : List ℕ) (at : ℕ) (width : Width) (v : ℕ) → length (put xs at width v) ≡ length xs
put_size xs at Byte v = simp length-set
put_size xs at Half v = simp length-set
put_size xs at Word v = simp length-set

effect_size : (start : ℕ) (write : Option Write) (ram : List ℕ) → length (ram_after start write ram) ≡ length ram
unfolding ram_after
effect_size start None ram = refl
effect_size start (Some w) ram = put_size ram (w.address - start) w.width w.value

flag_size : (at byte : ℕ) (own : Own) → length (with_flag at byte own).ram ≡ length own.ram
flag_size at byte own =
    cond_both (lies_in_ram own.layout at 1) _ _ (λ (o : Own). length o.ram ≡ length own.ram)
    (λ in_ram. length-set own.ram (at - own.layout.start) byte) (λ outside. refl)

-- what each of these leaves: registers and state, of one that lives as long as it did; what drivers leave; a pair that
-- is handed; a moved break; as many bytes, and upcalls taken; an end; a start, also after a fault
pub record IsKept (R : Own → Own → Type 0) (I J : Record → Type 0) : Type 0 where
  pub done : (r : Record) → I r → J r
  pub goes : (r : Record) (regs : Registers) (state : State) (refusal : Option RecordedRefusal)
      → is_alive state ≡ is_alive r.process.state → I r
      → I (record r { process = record r.process { regs = regs; state = state; refusal = refusal } })
  pub serves : (r : Record) (o : Own) (storage : List ℕ) (pressed : ℕ) → R r.own o → I r
      → I (record r { own = o; storage = storage; pressed = pressed })
  pub hands : (r : Record) (swap : Swap) → swap_refusal swap r.own ≡ None → I r
      → I (record_with_own r (own_swapped swap r.own))
  pub moves : (r : Record) (new : ℕ) → permits_break r.own.layout (kernel_break_of r.own) new ≡ true → I r
      → I (with_break_at r new)
  pub bytes : (r : Record) (ram : List ℕ) (inbox : Inbox) → length ram ≡ length r.own.ram → Takes r.own.inbox inbox
      → I r → I (record_with_own r (record r.own { ram = ram; inbox = inbox }))
  pub ends : (r : Record) (state : State) (denial : Option Denial) → is_alive state ≡ false → I r
      → J (record r {
        process = record r.process { state = state; held = false; denial = denial };
        own = ended_own r.own;
      })
  pub again : (r : Record) → I r → J (restart r)
  pub faults_again : (r : Record) (denial : Denial) → I r → J (restart (with_process r (after_fault r.process denial)))

module _ (R : Own → Own → Type 0) (services : OfEachService R) (I J : Record → Type 0) (k : IsKept R I J) where
  -- other registers, and no more
  other_regs : (r : Record) → I r → (regs : Registers) (refusal : Option RecordedRefusal) → I (with_regs r regs refusal)
  other_regs r h regs refusal = k.goes r regs r.process.state refusal refl h

  Q : Served → Type 0
  Q s = J s.after

  by_refused : (r : Record) → I r → (rule : CallRule) (reply : Reply) → Q (refused_with r rule reply)
  unfolding Q
  by_refused r h rule reply = let p = after_refusal r.process rule reply in k.done _ (other_regs r h p.regs p.refusal)

  by_replied : (r : Record) → I r → (reply : Reply) → Q (replied r reply)
  unfolding Q
  by_replied r h reply = let p = after_reply r.process reply in k.done _ (other_regs r h p.regs p.refusal)

  past : (r : Record) → I r → I (with_process r (after_call_of r.process))
  past r h = other_regs r h (past_call r.process.regs) r.process.refusal

  -- what waits is taken, or asked for
  takes : (r : Record) (change : Inbox → Inbox) → Takes r.own.inbox (change r.own.inbox) → I r
      → I (record_with_own r (with_inbox change r.own))
  takes r change fewer h = k.bytes r r.own.ram (change r.own.inbox) refl fewer h

  by_delivery : (r : Record) (next : Delivery) (change : Inbox → Inbox) → is_alive r.process.state ≡ true
      → Takes r.own.inbox (change r.own.inbox) → I r → J (deliver r next change)
  by_delivery r next change alive fewer h =
      k.done _ (k.goes _ (delivery_regs next r.process.regs) Running r.process.refusal (sym alive)
      (takes r change fewer h))

  by_flag : (r : Record) → I r → (at byte : ℕ) → I (record_with_own r (with_flag at byte r.own))
  by_flag r h at byte =
      rw (flag_rest at byte r.own) (k.bytes r _ r.own.inbox (flag_size at byte r.own)
      (record { not_more = omega arith; dropped = refl }) h)

  waits : (r : Record) → is_alive r.process.state ≡ true → I r → J (with_process r (waiting r.process))
  waits r alive h = k.done _ (k.goes r (past_call r.process.regs) Yielded r.process.refusal (sym alive) h)

  by_yield : (r : Record) → is_alive r.process.state ≡ true → I r → (number a1 a2 : ℕ) → Q (yielding r number a1 a2)
  unfolding Q
  by_yield r alive h number a1 a2 =
      of_yield (λ s. J s.after) r number a1 a2 (record {
        none = λ zero is. k.done _ (past _ (by_flag r h a1 0));
        first = λ upcall zero is.
            by_delivery (flag_written r a1 1) (Function upcall) (taken_at 0) alive (takes_at 0 _)
            (past _ (by_flag r h a1 1));
        waits = λ one. waits r alive h;
        waits_for = λ two is.
            waits _ alive (takes r (λ inbox. record inbox { wait = For a1 a2 })
            (record { not_more = omega arith; dropped = refl }) h);
        found = λ upcall two is.
            by_delivery (with_process r (after_call_of r.process)) (Arguments upcall.args) (taken_at _) alive
            (takes_at _ r.own.inbox) (past r h);
        goes_on = λ zero two. k.done _ (past r h);
      })

  after_call : (strict : Bool) (around : CommandContext) (r : Record) → is_alive r.process.state ≡ true → I r
      → (call : CallForm) → J (served strict around r call).after
  unfolding Q
  after_call strict around r alive h call =
      of_served (λ s. J s.after) around r strict call (record {
        refused = λ rule. by_refused r h rule (failure_of call rule);
        same = λ reply. by_replied r h reply;
        moved = λ new reply may. by_replied (with_break_at r new) (k.moves r new may h) reply;
        swapped = λ swap reply may.
            by_replied (record_with_own r (own_swapped swap r.own)) (k.hands r swap may h) reply;
        yields = λ number a1 a2 same. by_yield r alive h number a1 a2;
        commands = λ driver number a2 a3 taker same is.
            let c = taker around number a2 a3 r.own in
            let left = k.serves r (own_after c.step) r.storage r.pressed
            (services.command driver taker is around number a2 a3 r.own) h in
            of_commanded (λ s. J s.after) r c (λ reply answers. by_replied (record_with_step r c.step) left reply)
            (λ rule answers. by_refused (record_with_step r c.step) left rule (Failure (error_of rule)));
        ends = λ kind code same. k.ends _ (Terminated code) r.process.denial refl (past r h);
        again = λ kind code same. k.again r h;
      })

  -- after a turn: where it had none, as it was; else by what stands once the turn was counted, and its instruction has
  -- had its effect
  pub after_turn : (settings : Settings) (time : ℕ) (r : Record) → (may_turn r ≡ false → J r) → I (turn_counted r)
      → I (with_effect (turn_counted r) (instruction r)) → J (turned settings time r).after
  after_turn settings time r none waited went =
      of_each_end settings time r (λ t. J t.after) (record {
        nothing = none;
        went = λ t is. k.done _ (has_gone t is);
        faults = λ t denial is runs.
            of_denial J settings (with_effect (turn_counted r) t) denial
            (k.ends _ Faulted (Some denial) refl (has_gone t is)) (k.faults_again _ denial (has_gone t is));
        makes = λ t form is calls runs made.
            let s = with_effect (turn_counted r) t in
            after_call settings.strict (surroundings settings time s) s (ap is_alive runs) (has_gone t is) form;
        delivers = λ next is yielded.
            by_delivery (turn_counted r) next (left_by next) (ap is_alive yielded) (takes_next next r.own.inbox) waited;
      })
    where
      has_gone : (t : UserTurn) → t ≡ instruction r → I (with_effect (turn_counted r) t)
      has_gone t is = rw is went

  -- after an answer
  pub after_answer : (settings : Settings) (event : Event) (r : Record) → IsAnswer event → I r
      → I (apply settings event r)
  after_answer settings event r is h =
      subst I (sym (answer_changes settings event r is)) (k.serves r _ _ _ (of_answer R services settings event r is) h)

-- what is so of a process in a slot is so after any choices, where it is after its turns, after answers and after acts
pub over_choices : (I : Record → Type 0)
    → ((settings : Settings) (time : ℕ) (r : Record) → I r → I (turned settings time r).after)
    → ((settings : Settings) (event : Event) (r : Record) → IsAnswer event → I r → I (apply settings event r))
    → ((verb : Verb) (r : Record) → I r → I (operated verb r))
    → (w : World) (choices : List Choice) (slot : ℕ) → IfSome (slice_get w.records slot) I
    → IfSome (slice_get (after_all w choices).records slot) I
over_choices I turns answers acts w [] slot h = h
over_choices I turns answers acts w (choice ∷ choices) slot h =
    over_choices I turns answers acts (after w choice) choices slot
    (of_step w slot (λ ended tolds o. IfSome o I)
    (record {
      stays = h;
      turn = λ r is free. turns w.settings w.clock.time r (rw is at h);
      answer = λ r is event answers_it. answers w.settings event r answers_it (rw is at h);
      act = λ r is verb. acts verb r (rw is at h);
    })
    choice)

-- so is what is kept by all of these, and where turns are counted, instructions have their effect, or one is held
module _ (R : Own → Own → Type 0) (services : OfEachService R) (I : Record → Type 0) (k : IsKept R I I)
    (counts : (r : Record) (turns : ℕ) (held : Bool) (regs : Registers) (ram : List ℕ) → length ram ≡ length r.own.ram
    → I r → I (record r {
      process = record r.process { turns = turns; held = held; regs = regs };
      own = record r.own { ram = ram };
    })) where
  pub stays : HoldsThroughout I
  stays =
      over_choices I (λ settings time r h.
      after_turn R services I I k settings time r (λ none. h) (counts r _ _ r.process.regs r.own.ram refl h)
      (counts r _ _ _ _ (effect_size r.own.layout.start (instruction (turn_counted r)).write r.own.ram) h))
      (λ settings event r is h. after_answer R services I I k settings event r is h)
      (λ verb r h. of_operated (λ ended s. I s) r h (λ held. counts r _ held r.process.regs r.own.ram refl h)
      (λ lives. k.ends r (Terminated 0) r.process.denial refl h) (k.again r h) verb)

-- there is none, or one
pub none_or_one : {X : Type 0} (o : Option X) → (o ≡ None) ⊎ ((x : X) × (o ≡ Some x))
none_or_one None = inl refl
none_or_one (Some x) = inr (x, refl)

-- what holds where nothing is made, of each turn, of each device's step and of each pass of time, holds of a step
pub of_each_choice : (P : Stepped → Type 0) (w : World) → P (unmade w)
    → ((slot : ℕ) (r : Record) → slice_get w.records slot ≡ Some r → P (ran w slot (Some r)))
    → ((device : Dev) → P (done w (device_step_of w device)))
    → ((clock : Clock) → P (record (unmade w) { after = record w { clock = clock } }))
    → (choice : Choice) → P (stepped w choice)
unfolding carried_out
of_each_choice P w none turns deeds passes choice = of_stepped P w choice none (λ ready. by_choice choice)
  where
    by_record : (slot : ℕ) (o : Option Record) → slice_get w.records slot ≡ o → P (ran w slot o)
    by_record slot None e = none
    by_record slot (Some r) e = turns slot r e

    by_choice : (choice : Choice) → P (carried_out w choice)
    by_choice (Run slot) = by_record slot (slice_get w.records slot) refl
    by_choice (Device device) = deeds device
    by_choice (Pass ticks) = passes _

-- what each slot has where a record is put in one: that record in its own slot, and what it had in any other
pub put_at : (P : ℕ → Bool → Option Record → Type 0) (rs : List Record) (at : ℕ) (q s : Record)
    → slice_get rs at ≡ Some q → P at true (Some s)
    → ((slot : ℕ) → (at == slot) ≡ false → P slot false (slice_get rs slot))
    → (slot : ℕ) → P slot (at == slot) (slice_get (slice_set rs at s) slot)
put_at P rs at q s there own other slot =
    elim (cases_Bool (at == slot)) [
      | inl e ↦ rw (e, ← eqb-true at slot e, set_own rs at s q there) own
      | inr e ↦
          rw (e, slice_get-set_other rs at slot s (λ same. false≢true (sym e ∙ eq-eqb at slot (sym same))))
          (other slot e)
    ]
