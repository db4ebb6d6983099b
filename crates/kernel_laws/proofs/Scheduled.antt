-- What a turn of a process, and an answer to it, leaves of what was scheduled for it, and what it schedules: what
-- remains is what was scheduled, less what the turn takes or drops (`IsRemainder`), and then comes one value, which the
-- call or the event tells. By the walk over calls and ends; each answer leaves the inbox until it schedules.
use Rattle.std.proofs.Common.{inl, inr}
use Rattle.driver_model.specs.Random.{Progress}
use Rattle.std.proofs.lemmas.Bool.{cases_Bool, cond_both}
use Rattle.kernel_laws.proofs.Asking.{of_request}
use Rattle.driver_model.specs.Commands.{Reads, Randoms, Stores, Writes}
use Rattle.driver_model.specs.Requests.{RequestAnswered}
use Rattle.std.proofs.Common.{◌≡◌, ℕ, suc, ◌+◌, ◌-◌, ◌==◌, ◌&&◌, nat_le, not, Bool, true, false, List, [], ◌∷◌}
use Rattle.std.proofs.Common.{drop, filter}
use Rattle.std.proofs.Common.{length, Option, None, Some, Result, Ok, Err, refl, sym, ap, ◌∙◌}
use Rattle.std.proofs.Common.{IfSome, arith, eqb-true}
use Rattle.std.specs.Prelude.{option_and_then, remove}
use Rattle.std.specs.List.{position_or_len}
use Rattle.std.specs.Option.{option_map, option_map_or}
use Rattle.std.proofs.lemmas.Bool.{and_parts}
use Rattle.std.proofs.Math.Seq.{drop-length}
use Rattle.tk_base.specs.declared.access.Denial.{Denial}
use Rattle.tk_base.specs.declared.call.CallRule.{CallRule}
use Rattle.tk_base.specs.declared.call.CallRule.TheVariants.{NoDriver, Permission}
use Rattle.tk_base.specs.declared.kinds.PairKind.{PairKind}
use Rattle.tk_base.specs.declared.kinds.PairKind.TheVariants.{Upcall}
use Rattle.tk_base.specs.Kinds.{is_buffer}
use Rattle.tk_base.specs.declared.upcall.Upcall.{Upcall as Scheduled}
use Rattle.tk_base.specs.declared.upcall.Wait.TheVariants.{Given}
use Rattle.tk_base.specs.Regs.{Registers}
use Rattle.tk_base.specs.declared.process.Verb.{Verb}
use Rattle.rv32_model.specs.Laws.{CallsAreOfEcall}
use Rattle.rv32_model.specs.UserTurn.{MemoryAccess}
use Rattle.syscall_abi.specs.declared.form.Swap.{Swap}
use Rattle.syscall_abi.specs.declared.form.CallForm.{CallForm}
use Rattle.syscall_abi.specs.declared.form.CallForm.TheVariants as forms
use Rattle.syscall_abi.specs.declared.reply.Reply.{Reply}
use Rattle.syscall_abi.specs.Call.{a0, a1, a2, a3, call_of, class}
use Rattle.upcall_queue.specs.declared.inbox.Delivery.{Delivery}
use Rattle.upcall_queue.specs.declared.inbox.Delivery.TheVariants.{Function, Arguments}
use Rattle.upcall_queue.specs.declared.inbox.Inbox.{Inbox}
use Rattle.upcall_queue.specs.Pending.{cleared, is_of, left_by, place_of, scheduled, taken_at, without_key}
use Rattle.grant_values.specs.declared.alarm.Armed.{Armed}
use Rattle.grant_values.specs.declared.random.RandomRequest.{RandomRequest}
use Rattle.grant_values.specs.declared.storage.StorageKind.TheVariants.{Read, Write}
use Rattle.grant_values.specs.declared.storage.StorageRequest.{StorageRequest}
use Rattle.process_model.specs.Own.{Own}
use Rattle.process_model.specs.Flag.{with_flag}
use Rattle.process_model.specs.Served.{ScheduledUpcall, own_scheduling, upcall_of}
use Rattle.driver_model.specs.Alarm.{answered as alarm_answered, due_alarm}
use Rattle.driver_model.specs.Parts.{fired_if}
use Rattle.driver_model.specs.Buttons.{buttons, edged, is_told}
use Rattle.driver_model.specs.Commands.{Commanded}
use Rattle.driver_model.specs.Drivers.{CommandContext, CommandHandler, handler_of}
use Rattle.driver_model.specs.Laws.{RefusedByAnyDriver}
use Rattle.driver_model.specs.Random.{answered as random_answered, drawing, progress}
use Rattle.driver_model.specs.Random.{wanted}
use Rattle.driver_model.specs.Steps.{DriverStep, own_after, silently}
use Rattle.driver_model.specs.Storage.{answered as storage_answered, moving, storage_served}
use Rattle.driver_model.specs.Upcalls.{scheduled_if}
use Rattle.process_record.specs.Parts.{after_fault}
use Rattle.kernel_model.specs.Record.{Record, record_with_step, with_effect}
use Rattle.kernel_model.specs.Parts.{with_process}
use Rattle.kernel_model.specs.declared.settings.Settings.{Settings}
use Rattle.kernel_model.specs.Calls.{Served, by_form, driver_answered, exit, failure_of, memop}
use Rattle.kernel_model.specs.Parts.{object_permits}
use Rattle.kernel_model.specs.Calls.{refused, refused_with, restart, served}
use Rattle.kernel_model.specs.Calls.{swap_by, swap_refusal}
use Rattle.kernel_model.specs.Calls.{taken_by, yielding}
use Rattle.kernel_model.specs.Parts.{swapped}
use Rattle.kernel_model.specs.Edges.{IsThenScheduled}
use Rattle.kernel_model.specs.Named.{is_of_edge}
use Rattle.kernel_model.specs.Histories.{class_of}
use Rattle.kernel_model.specs.Turn.{Event, Turn, Alarmed, Edge, Input, Word, NoWord, Stored, Turned}
use Rattle.kernel_model.specs.Turn.{apply, faulted, made, rule_shown}
use Rattle.kernel_model.specs.Parts.{calls}
use Rattle.kernel_model.specs.Turn.{Act, operated, surroundings}
use Rattle.kernel_model.specs.Turn.{turn_counted, turned}
use Rattle.kernel_model.proofs.Classes.{command_in, exit_in, memop_in, of_registers, swap_in, yield_in}
use Rattle.kernel_model.proofs.Memops.{by_test, memop_gives}
use Rattle.kernel_model.proofs.Steps.{IsAnswer, of_operated}
use Rattle.kernel_laws.specs.Scheduled.{answer_step, call_schedules, scheduled_by}
use Rattle.kernel_laws.specs.Scheduled.{turn_schedules, upcall_told}
use Rattle.kernel_model.proofs.Commands.{command_leaves}
use Rattle.kernel_model.proofs.Restarts.{restart_by}
use Rattle.kernel_model.proofs.Turning.{of_denial}
use Rattle.kernel_model.proofs.Yields.{flag_rest, of_yield}
use Rattle.kernel_laws.proofs.Between.{of_turn}
use Rattle.std.proofs.Math.Bool.{and-false}

-- an element that is not the first is taken out
later_removed : {X : Type 0} (x : X) (xs : List X) (n : ℕ) → remove (x ∷ xs) (1 + n) ≡ x ∷ remove xs n
later_removed x xs n = let one_more : 1 + n ≡ suc n = omega arith in ap (remove (x ∷ xs)) one_more

-- Of a list from which the first that passes a test is taken, and of one from which all that pass are: those that pass
-- it, and those that pass another one, which no element passes that passes the first.
module _ {X : Type 0} (q : X → Bool) where
  first_gone : (xs : List X) → filter q (remove xs (position_or_len q xs)) ≡ drop 1 (filter q xs)
  first_gone [] = refl
  first_gone (x ∷ xs) =
      elim (cases_Bool (q x)) [
        | inl e ↦ rw e
        | inr e ↦ rw (e, later_removed x xs (position_or_len q xs), e) (first_gone xs)
      ]

  all_gone : (xs : List X) → filter q (filter (λ x. not (q x)) xs) ≡ []
  all_gone [] = refl
  all_gone (x ∷ xs) =
      elim (cases_Bool (q x)) [
        | inl e ↦ rw e (all_gone xs)
        | inr e ↦ rw (e, e) (all_gone xs)
      ]

  module _ (p : X → Bool) (apart : (x : X) → q x ≡ true → p x ≡ false) where
    others_stay : (xs : List X) → filter p (remove xs (position_or_len q xs)) ≡ filter p xs
    others_stay [] = refl
    others_stay (x ∷ xs) =
        elim (cases_Bool (q x)) [
          | inl e ↦ rw (e, apart x e)
          | inr e ↦ rw (e, later_removed x xs (position_or_len q xs), others_stay xs)
        ]

    others_left : (xs : List X) → filter p (filter (λ x. not (q x)) xs) ≡ filter p xs
    others_left [] = refl
    others_left (x ∷ xs) =
        elim (cases_Bool (q x)) [
          | inl e ↦ rw (e, apart x e) (others_left xs)
          | inr e ↦ rw (e, others_left xs)
        ]

-- the first of all, which passes or does not
front_gone : {X : Type 0} (p : X → Bool) (xs : List X)
    → (gone : ℕ) × (filter p (remove xs 0) ≡ drop gone (filter p xs))
front_gone p [] = (0, refl)
front_gone p (x ∷ xs) =
    elim (cases_Bool (p x)) [
      | inl e ↦ (1, rw e)
      | inr e ↦ (0, rw e)
    ]

-- an upcall of a driver and a number is of an edge as these are those of edges
of_key : (driver number : ℕ) (u : Scheduled) → is_of driver number u ≡ true
    → is_of_edge u ≡ is_of_edge (record u { driver = driver; number = number })
of_key driver number u is =
    let both = and_parts (u.driver == driver) (u.number == number) is in
    rw (eqb-true u.driver driver both.0, eqb-true u.number number both.1)

-- a driver and a number are those of edges, or no upcall of them is of an edge
edge_key : (driver number : ℕ) (b : Bool) → (driver == buttons && number == 0) ≡ b
    → (P : ℕ → ℕ → Type 0) → P buttons 0 → (((u : Scheduled) → is_of driver number u ≡ true → is_of_edge u ≡ false)
    → P driver number) → P driver number
edge_key driver number true is P same apart =
    let both = and_parts (driver == buttons) (number == 0) is in
    rw (eqb-true driver buttons both.0, eqb-true number 0 both.1) same
edge_key driver number false is P same apart = apart (λ u e. of_key driver number u e ∙ is)

-- What remains of what was scheduled for a process.
pub record IsRemainder (before left : Inbox) : Type 0 where
  pub dropped : left.dropped ≡ before.dropped
  pub given : (args : List ℕ) → left.wait ≡ Given args → before.wait ≡ Given args
  pub gone : ℕ
  pub pending : filter (is_of buttons 0) left.pending ≡ drop gone (filter (is_of buttons 0) before.pending)

-- and then an upcall is scheduled, or none
pub then_scheduled : (upcall : Option Scheduled) (before left later : Inbox) → IsRemainder before left
    → later ≡ scheduled_if upcall left → IsThenScheduled upcall before later
then_scheduled upcall before left later r is = record {
  left = left;
  dropped = r.dropped;
  given = r.given;
  gone = r.gone;
  pending = r.pending;
  is = is ∙ elim upcall as (λ o. scheduled_if o left ≡ option_map_or (λ u. scheduled u left) o left)
      [ None ↦ refl | Some u ↦ refl ];
}

-- what is pending less those that go
less : (inbox : Inbox) (pending : List Scheduled) (gone : ℕ)
    → filter is_of_edge pending ≡ drop gone (filter is_of_edge inbox.pending)
    → IsRemainder inbox (record inbox { pending = pending })
less inbox pending gone is = record { dropped = refl; given = λ args e. e; gone = gone; pending = is }

-- what remains of what was scheduled: all; all, with something else that is waited for; all but the first, or the first
-- of a driver and a number; all but those of a driver and a number; nothing
pub all_remain : (inbox : Inbox) → IsRemainder inbox inbox
all_remain inbox = record { dropped = refl; given = λ args e. e; gone = 0; pending = refl }

taken_first : (inbox : Inbox) → IsRemainder inbox (taken_at 0 inbox)
taken_first inbox = let front = front_gone is_of_edge inbox.pending in less inbox _ front.0 front.1

taken_of : (driver number : ℕ) (inbox : Inbox)
    → IsRemainder inbox (taken_at (place_of driver number inbox.pending) inbox)
taken_of driver number inbox =
    edge_key driver number _ refl (λ d n. IsRemainder inbox (taken_at (place_of d n inbox.pending) inbox))
    (less inbox _ 1 (first_gone is_of_edge inbox.pending))
    (λ apart. less inbox _ 0 (others_stay (is_of driver number) is_of_edge apart inbox.pending))

without_remain : (driver number : ℕ) (inbox : Inbox)
    → IsRemainder inbox (record inbox { pending = without_key driver number inbox.pending })
without_remain driver number inbox =
    edge_key driver number _ refl
    (λ d n. IsRemainder inbox (record inbox { pending = without_key d n inbox.pending }))
    (less inbox _ (length (filter is_of_edge inbox.pending))
    (all_gone is_of_edge inbox.pending ∙ sym (drop-length (filter is_of_edge inbox.pending))))
    (λ apart. less inbox _ 0 (others_left (is_of driver number) is_of_edge apart inbox.pending))

none_remain : (inbox : Inbox) → IsRemainder inbox (cleared inbox)
none_remain inbox = record {
  dropped = refl;
  given = λ args e. absurd (cc);
  gone = length (filter is_of_edge inbox.pending);
  pending = sym (drop-length (filter is_of_edge inbox.pending));
}

delivered_remain : (next : Delivery) (inbox : Inbox) → IsRemainder inbox (left_by next inbox)
delivered_remain (Function upcall) inbox = taken_first inbox
delivered_remain (Arguments args) inbox =
    record { dropped = refl; given = λ args e. absurd (cc); gone = 0; pending = refl }

-- what a turn leaves of a process beside its bytes: what remains, and which buttons it knows to be pressed
record Keeps (r s : Record) : Type 0 where
  remains : IsRemainder r.own.inbox s.own.inbox
  pressed : s.pressed ≡ r.pressed

-- what is scheduled, if anything is, is scheduled with nothing of what was before gone
abbrev pub AtOnce : Option Scheduled → Inbox → Inbox → Type 0
AtOnce upcall before later = IfSome upcall (λ u. later ≡ scheduled u before)

-- so it is where no more is than that
pub at_once : (upcall : Option Scheduled) (before later : Inbox) → later ≡ scheduled_if upcall before
    → AtOnce upcall before later
at_once None before later is = tt
at_once (Some u) before later is = is

-- and with what it schedules
pub record Schedules (upcall : Option Scheduled) (r s : Record) : Type 0 where
  pub leaves : IsThenScheduled upcall r.own.inbox s.own.inbox
  pub whole : AtOnce upcall r.own.inbox s.own.inbox
  pub pressed : s.pressed ≡ r.pressed

nothing_more : (r s : Record) → Keeps r s → Schedules None r s
nothing_more r s k =
    record { leaves = then_scheduled None _ s.own.inbox _ k.remains refl; whole = tt; pressed = k.pressed }

same_inbox : (r s : Record) → s.own.inbox ≡ r.own.inbox → s.pressed ≡ r.pressed → Keeps r s
same_inbox r s inbox pressed = record { remains = rw inbox (all_remain r.own.inbox); pressed = pressed }

-- a process that starts again keeps nothing of what was scheduled
keeps_none : (r s : Record) → s.own.inbox ≡ r.own.inbox → s.pressed ≡ r.pressed → Keeps r (restart s)
keeps_none r s inbox pressed =
    restart_by (Keeps r) s (same_inbox r s inbox pressed)
    (λ h m is main. record { remains = rw inbox (none_remain r.own.inbox); pressed = pressed })

pub flag_inbox : (at byte : ℕ) (own : Own) → (with_flag at byte own).inbox ≡ own.inbox
flag_inbox at byte own = ap (λ (o : Own). o.inbox) (flag_rest at byte own)

-- what a step of a driver leaves, which leaves what was scheduled
pub step_inbox : (step : DriverStep) (inbox : Inbox) → step.own.inbox ≡ inbox
    → (own_after step).inbox ≡ scheduled_if (scheduled_by step) inbox
step_inbox step inbox same =
    elim step.schedules as (λ (o : Option ScheduledUpcall). (own_scheduling o step.own).inbox
    ≡ scheduled_if (option_map (λ u. upcall_of u.driver u.number u.args step.own) o) inbox) [
      | None ↦ same
      | Some u ↦ ap (scheduled (upcall_of u.driver u.number u.args step.own)) same
    ]

-- the turn of a process
module _ (refuse : RefusedByAnyDriver) (settings : Settings) (time : ℕ) (r : Record) where
  abbrev counted : Record
  counted = turn_counted r

  abbrev regs : Registers
  regs = r.process.regs

  abbrev around : CommandContext
  around = surroundings settings time r

  abbrev args : List ℕ
  args = a0 regs ∷ a1 regs ∷ a2 regs ∷ a3 regs ∷ []

  abbrev ByTurn : Turned → Type 0
  ByTurn t = Schedules (option_and_then (call_schedules around r.own) t.told.call) r t.after

  abbrev ByCall : Served → Type 0
  ByCall s = Schedules (call_schedules around r.own (made regs s.outcome)) r s.after

  abbrev Left : Served → Type 0
  Left s = Keeps r s.after

  -- where a call is no command, or was refused, it schedules nothing
  no_command : (n : ℕ) (s : Served) → (n == 2) ≡ false → class regs ≡ n → Left s → ByCall s
  no_command n s apart is left = rw (is, apart) (nothing_more r s.after left)

  was_refused : (s : Served) (rule : CallRule) → rule_shown s.outcome ≡ Some rule → Left s → ByCall s
  was_refused s rule is left = rw (is, and-false (class regs == 2)) (nothing_more r s.after left)

  yields : (number one two : ℕ) → Left (yielding counted number one two)
  yields number one two =
      of_yield Left counted number one two (record {
        none = λ zero is. same_inbox r _ (flag_inbox one 0 r.own) refl;
        first = λ upcall zero is.
            record { remains = rw (flag_inbox one 1 r.own) (taken_first r.own.inbox); pressed = refl };
        waits = λ is. same_inbox r _ refl refl;
        waits_for = λ asks is. record {
          remains = record { dropped = refl; given = λ args e. absurd (cc); gone = 0; pending = refl };
          pressed = refl;
        };
        found = λ upcall asks is. record { remains = taken_of one two r.own.inbox; pressed = refl };
        goes_on = λ zero asks. same_inbox r _ refl refl;
      })

  of_swap : (swap : Swap) (o : Option CallRule) → Left (swap_by counted swap o)
  of_swap swap None = record {
    remains = cond_both (is_buffer swap.kind) _ _ (λ pending. IsRemainder r.own.inbox (record r.own.inbox
        { pending = pending })) (λ e. all_remain r.own.inbox) (λ e. without_remain swap.driver swap.number r.own.inbox);
    pressed = refl;
  }
  of_swap swap (Some rule) = same_inbox r _ refl refl

  of_memop : (operation argument : ℕ) → Left (memop counted operation argument)
  of_memop operation argument =
      memop_gives Left counted operation argument (λ rule. same_inbox r _ refl refl) (λ reply. same_inbox r _ refl refl)
      (λ new reply. same_inbox r _ refl refl)

  of_exit : (kind code : ℕ) → Left (exit counted kind code)
  unfolding exit
  of_exit kind code =
      by_test Left (kind == 0) _ _ (record { remains = none_remain r.own.inbox; pressed = refl })
      (by_test Left (kind == 1) _ _ (keeps_none r counted refl refl) (same_inbox r _ refl refl))

  -- a command that is replied to, or refused
  of_answer : class regs ≡ 2 → (taker : CommandHandler) → handler_of (a0 regs) ≡ Some taker
      → let c = taker around (a1 regs) (a2 regs) (a3 regs) r.own in (answer : Result Reply CallRule) → c.answer ≡ answer
      → ByCall (record (driver_answered (record_with_step counted c.step) answer) { acts = c.acts })
  of_answer is taker taken (Ok reply) answers =
      let c = taker around (a1 regs) (a2 regs) (a3 regs) r.own in
      let queued = step_inbox c.step r.own.inbox
      (command_leaves (a0 regs) taker taken around (a1 regs) (a2 regs) (a3 regs) r.own) in
      rw (is, taken) (record {
        leaves = then_scheduled _ _ r.own.inbox _ (all_remain r.own.inbox) queued;
        whole = at_once (scheduled_by c.step) r.own.inbox (own_after c.step).inbox queued;
        pressed = refl;
      })
  of_answer is taker taken (Err rule) answers =
      let c = taker around (a1 regs) (a2 regs) (a3 regs) r.own in
      let same_step = refuse (a0 regs) taker around (a1 regs) (a2 regs) (a3 regs) r.own rule taken answers in
      let s = record (driver_answered (record_with_step counted c.step) (Err rule)) { acts = c.acts } in
      was_refused s rule refl (same_inbox r s.after (ap (λ (x : Commanded). (own_after x.step).inbox) same_step) refl)

  of_commanded : class regs ≡ 2 → (o : Option CommandHandler) → handler_of (a0 regs) ≡ o
      → ByCall (taken_by around (a1 regs) (a2 regs) (a3 regs) counted o)
  of_commanded is None taken = was_refused (refused counted NoDriver) NoDriver refl (same_inbox r _ refl refl)
  of_commanded is (Some taker) taken = of_answer is taker taken _ refl

  -- a call that its object permits, or does not
  of_served : (call : CallForm) → ByCall (by_form around counted call)
      → ByCall (served settings.strict around counted call)
  unfolding served
  of_served call serves =
      by_test ByCall (object_permits settings.strict r.object call) _ _ serves
      (was_refused (refused_with counted Permission (failure_of call Permission)) Permission refl
      (same_inbox r _ refl refl))

  of_fault : (s : Record) (denial : Denial) → s.own.inbox ≡ r.own.inbox → s.pressed ≡ r.pressed
      → ByTurn (faulted settings s denial)
  of_fault s denial inbox pressed =
      nothing_more r _ (of_denial (Keeps r) settings s denial
      (record { remains = rw inbox (none_remain r.own.inbox); pressed = pressed })
      (keeps_none r (with_process s (after_fault s.process denial)) inbox pressed))

  of_calls : (accesses : List MemoryAccess) → ByTurn (calls settings time counted accesses (call_of regs))
  unfolding by_form
  of_calls accesses =
      of_registers (λ (o : Option CallForm). ByTurn (calls settings time counted accesses o)) regs
      (λ is. of_served (yield_in regs) (no_command 0 (formed (yield_in regs)) refl is (yields (a0 regs) (a1 regs)
      (a2 regs))))
      (λ kind is. of_served (forms.Swap (swap_in kind regs))
      (no_command (class_of kind) (swapped counted (swap_in kind regs)) (no_swap kind) is
      (of_swap (swap_in kind regs) (swap_refusal (swap_in kind regs) r.own))))
      (λ is. of_served (command_in regs) (of_commanded is (handler_of (a0 regs)) refl))
      (λ is. of_served (memop_in regs) (no_command 5 (formed (memop_in regs)) refl is (of_memop (a0 regs) (a1 regs))))
      (λ is. of_served (exit_in regs) (no_command 6 (formed (exit_in regs)) refl is (of_exit (a0 regs) (a1 regs))))
      (of_fault counted _ refl refl)
    where
      formed : CallForm → Served
      formed call = by_form around counted call

      no_swap : (kind : PairKind) → (class_of kind == 2) ≡ false
      no_swap Upcall = refl
      no_swap kind = refl

-- the turn of a process leaves what remains of what was scheduled, and then schedules what its call does
pub turn_leaves : RefusedByAnyDriver → CallsAreOfEcall → (settings : Settings) (time : ℕ) (r : Record)
    → Schedules (turn_schedules settings time r) r (turned settings time r).after
turn_leaves refuse of_ecall settings time r =
    of_turn of_ecall settings time r (ByTurn refuse settings time r) (record {
      nothing = nothing_more r r (same_inbox r r refl refl);
      went = λ t is. nothing_more r _ (same_inbox r (with_effect (turn_counted r) t) refl refl);
      faults = λ t denial is. of_fault refuse settings time r (with_effect (turn_counted r) t) denial refl refl;
      makes = λ accesses form is runs.
          rw is at (of_calls refuse settings time r accesses);
      delivers = λ next is yielded.
          nothing_more r _ (record { remains = delivered_remain next r.own.inbox; pressed = refl });
    })

-- an operator's act leaves what remains of what was scheduled, all or nothing, and schedules nothing
pub act_leaves : (verb : Verb) (r : Record) → Schedules None r (operated verb r)
act_leaves verb r =
    nothing_more r (operated verb r)
    (of_operated (λ ended s. Keeps r s) r (same_inbox r r refl refl) (λ held. same_inbox r _ refl refl)
    (λ lives. record { remains = none_remain r.own.inbox; pressed = refl }) (keeps_none r r refl refl) verb)

-- What an answer leaves before its upcall is scheduled is what was scheduled before.
progress_inbox : (word : Option ℕ) (request : RandomRequest) (own : Own)
    → (progress word request own).step.own.inbox ≡ own.inbox
progress_inbox word request own =
    cond_both (nat_le (wanted request own) request.written) _ _ (λ (p : Progress). p.step.own.inbox ≡ own.inbox)
    (λ e. refl) (λ e. by_word word)
  where
    by_word : (o : Option ℕ)
        → (drawing (wanted request own - request.written) request own o).step.own.inbox ≡ own.inbox
    by_word None = refl
    by_word (Some drawn) =
        cond_both (nat_le (wanted request own - request.written) 4) _ _
        (λ (p : Progress). p.step.own.inbox ≡ own.inbox) (λ e. refl) (λ e. refl)

served_inbox : (fault : Bool) (flash : ℕ → ℕ) (bytes : List ℕ) (request : StorageRequest) (own : Own)
    → (storage_served fault flash bytes request own).step.own.inbox ≡ own.inbox
served_inbox true flash bytes request own = refl
served_inbox false flash bytes request own =
    elim request.kind as (λ kind. (moving kind flash bytes request own).step.own.inbox ≡ own.inbox)
    [ Read ↦ refl | Write ↦ refl ]

answer_inbox : (event : Event) (r : Record) → (answer_step event r).own.inbox ≡ r.own.inbox
unfolding answer_step alarm_answered random_answered storage_answered edged
answer_inbox (Turn time) r = refl
answer_inbox (Act verb) r = refl
answer_inbox (Alarmed now) r =
    elim (due_alarm now r.own) as (λ (o : Option Armed). (fired_if now r.own o).own.inbox ≡ r.own.inbox)
    [ None ↦ refl | Some alarm ↦ refl ]
answer_inbox (Edge button pressed) r =
    cond_both (is_told button r.own) _ (silently r.own) (λ step. step.own.inbox ≡ r.own.inbox) (λ e. refl) (λ e. refl)
answer_inbox (Input bytes) r =
    of_request Reads r.own (λ (s : DriverStep). s.own.inbox ≡ r.own.inbox) _ _ refl (λ read e. refl)
answer_inbox (Word word) r =
    of_request Randoms r.own (λ (a : RequestAnswered _). a.step.own.inbox ≡ r.own.inbox) _ _ refl
    (λ request e. progress_inbox (Some word) request r.own)
answer_inbox NoWord r =
    of_request Randoms r.own (λ (a : RequestAnswered _). a.step.own.inbox ≡ r.own.inbox) _ _ refl
    (λ request e. progress_inbox None request r.own)
answer_inbox (Stored moved) r =
    of_request Stores r.own (λ (a : RequestAnswered _). a.step.own.inbox ≡ r.own.inbox) _ _ refl
    (λ request e. served_inbox (not moved) _ r.storage request r.own)
answer_inbox event r =
    of_request Writes r.own (λ (s : DriverStep). s.own.inbox ≡ r.own.inbox) _ _ refl (λ write e. refl)

-- an answer is that step
answer_own : (settings : Settings) (event : Event) (r : Record) → IsAnswer event
    → (apply settings event r).own ≡ own_after (answer_step event r)
unfolding apply answer_step
answer_own settings (Turn time) r is = absurd (cc)
answer_own settings (Act verb) r is = absurd (cc)
answer_own settings event r is = refl

-- so what is scheduled then is what was, and its upcall
pub told_inbox : (settings : Settings) (event : Event) (r : Record) → IsAnswer event
    → (apply settings event r).own.inbox ≡ scheduled_if (upcall_told event r) r.own.inbox
told_inbox settings event r is =
    ap (λ (o : Own). o.inbox) (answer_own settings event r is)
    ∙ step_inbox (answer_step event r) r.own.inbox (answer_inbox event r)
