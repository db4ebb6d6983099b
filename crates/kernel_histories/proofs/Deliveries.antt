-- What a process's turn, and what a device's answer or an operator's act, leaves of the upcalls that wait for it
-- (`Leaves`): some of what waited, one upcall more at most, and each is still the one that is held. That what waits is
-- so is read off its inbox, which the label tells (`exact`), and that it is held still off what the turn hands
-- (`hands_turn`): what is not taken away has another key.
use Rattle.kernel_histories.proofs.Inboxes.{exact}
use Rattle.kernel_histories.proofs.Swaps.{Hands, hands_turn, held_by}
use Rattle.kernel_histories.specs.Inboxes.{cancels_read, inbox_left, upcall_by_turn}
use Rattle.std.proofs.lemmas.Bool.{and_parts, cases_Bool, cond_both}
use Rattle.std.proofs.lemmas.Option.{IfSome_then}
use Rattle.std.specs.Prelude.{option_and_then}
use Rattle.kernel_model.specs.Histories.{ends_life, handed_by}
use Rattle.kernel_model.proofs.Turning.{of_each_end}
use Rattle.kernel_model.proofs.Steps.{IsAnswer, answer_changes, of_answer, of_operated}
use Rattle.kernel_model.specs.Turn.{Event, apply, operated}
use Rattle.tk_base.specs.declared.process.Verb.{Verb}
use Rattle.process_record.specs.Operator.{ends_by}
use Rattle.process_record.specs.Parts.{with_held}
use Rattle.process_model.specs.Own.{own_ended}
use Rattle.std.proofs.Common.{suc, take, slice_index_or, inl, inr}
use Rattle.std.proofs.Common.{◌≡◌, ap₂, ◌≤◌, ℕ, ◌==◌, Bool, true, false, not, cond, List}
use Rattle.std.proofs.Common.{[], ◌∷◌, ◌++◌, drop, filter, length, Option, None, Some, is_some}
use Rattle.std.proofs.Common.{refl, sym, ap, ◌∙◌, arith, eqb-true, eq-eqb}
use Rattle.std.specs.Prelude.{All, IfSome}
use Rattle.std.proofs.lemmas.Bool.{false≢true}
use Rattle.std.proofs.lemmas.List.{append-nil, drop-map, map-append, take-map}
use Rattle.std.proofs.lemmas.List.Elements.{All-nil, All-append, All-cons, All-drop, All-filter, All-same, All-take}
use Rattle.std.proofs.lemmas.List.Elements.{All-weaker}
use Rattle.std.proofs.lemmas.List.Elements.{filter_passes}
use Rattle.tk_base.specs.declared.upcall.Upcall.{Upcall as Scheduled}
use Rattle.tk_base.specs.declared.kinds.PairKind.TheVariants.{Upcall}
use Rattle.syscall_abi.specs.Call.{class}
use Rattle.tk_base.specs.declared.upcall.Wait.{Wait}
use Rattle.upcall_queue.specs.declared.inbox.Inbox.{Inbox}
use Rattle.upcall_queue.specs.Pending.{awaits, has_room}
use Rattle.process_model.specs.Own.{Own}
use Rattle.process_model.specs.Pairs.{HandsTheSame, HasShape, OnlyHandingChangesPairs}
use Rattle.driver_model.specs.Pairs.{DriversLeavePairs}
use Rattle.driver_model.specs.Upcalls.{DriversScheduleHeld, IsHeld, SchedulesHeld, scheduled_if}
use Rattle.process_record.specs.declared.emit.CallMade.{CallMade}
use Rattle.process_record.specs.declared.process.Process.{Process}
use Rattle.process_record.specs.Process.{waiting}
use Rattle.kernel_model.specs.Record.{Record}
use Rattle.kernel_model.specs.Parts.{with_process}
use Rattle.kernel_model.specs.declared.settings.Settings.{Settings}
use Rattle.kernel_model.specs.Calls.{restarted_with}
use Rattle.kernel_model.specs.Turn.{TurnTrace}
use Rattle.kernel_model.specs.Turn.{made, turned}
use Rattle.kernel_model.specs.Laws.{CanStartAgain}
use Rattle.kernel_histories.specs.Deliveries.{takes}
use Rattle.kernel_histories.specs.Deliveries.{IsSubscribed, Scheduling, left_by_turn}
use Rattle.kernel_histories.specs.Deliveries.{place_taken}
use Rattle.kernel_histories.specs.Deliveries.{removed, subscription_key, upcalls}
use Rattle.kernel_histories.specs.Deliveries.{wait_of}
use Rattle.kernel_model.proofs.Restarts.{restarts}

-- what is known of pairs and of what drivers schedule
pub record Promise : Type 0 where
  pub pairs : OnlyHandingChangesPairs
  pub leave : DriversLeavePairs
  pub schedule : DriversScheduleHeld

-- each upcall that waits is the one that is held
pub record Sound (own : Own) : Type 0 where
  pub shape : HasShape own
  pub held : All (IsSubscribed own) own.inbox.pending

-- so it is of a process that can start again
pub record IsGood (r : Record) : Type 0 where
  pub can : CanStartAgain r
  pub sound : Sound r.own

-- What a turn, an answer or an act leaves of a process: what waits is what is left of it, and one upcall more at most;
-- and each is still the one that is held.
pub record Leaves (r s : Record) (left : List Scheduling → List Scheduling) : Type 0 where
  pub more : List Scheduled
  pub pending : (waiting : List Scheduling) → upcalls waiting ≡ r.own.inbox.pending
      → s.own.inbox.pending ≡ upcalls (left waiting) ++ more
  pub one : length more ≤ 1
  pub good : IsGood s

-- what waits once an upcall was scheduled that is held: what waited, and one upcall more at most
record Adds (own : Own) (before now : Inbox) : Type 0 where
  more : List Scheduled
  pending : now.pending ≡ before.pending ++ more
  one : length more ≤ 1
  each : All (IsSubscribed own) more

adds_none : (own : Own) (before now : Inbox) → now.pending ≡ before.pending → Adds own before now
adds_none own before now same = record {
  more = [];
  pending = same ∙ sym (append-nil before.pending);
  one = omega arith;
  each = All-nil (IsSubscribed own);
}

adds : (own : Own) (before : Inbox) (o : Option Scheduled) → IfSome o (IsHeld own)
    → Adds own before (scheduled_if o before)
adds own before None held = adds_none own before before refl
adds own before (Some u) held =
    cond_both (awaits before.wait u) _ _ (Adds own before) (λ e. adds_none own before _ refl)
    (λ e. cond_both (u.function == 0) _ _ (Adds own before) (λ null. adds_none own before _ refl)
    (λ null. cond_both (has_room before.pending) _ _ (Adds own before) (λ room. record {
      more = u ∷ [];
      pending = refl;
      one = omega arith;
      each = All-cons (IsSubscribed own) u [] (held, λ zero. false≢true (sym null ∙ eq-eqb u.function 0 zero))
          (All-nil (IsSubscribed own));
    }) (λ full. adds_none own before _ refl)))

-- what is left of what waited, and then an upcall that is scheduled, or none
leaves : (r s : Record) (left : List Scheduling → List Scheduling) (o : Option Scheduled) (before : Inbox)
    → s.own.inbox ≡ scheduled_if o before
    → ((waiting : List Scheduling) → upcalls waiting ≡ r.own.inbox.pending → before.pending ≡ upcalls (left waiting))
    → IfSome o (IsHeld s.own) → All (IsSubscribed s.own) before.pending → HasShape s.own → CanStartAgain s
    → Leaves r s left
leaves r s left o before is rest new old shape can =
    let a = adds s.own before o new in
    let now : s.own.inbox.pending ≡ before.pending ++ a.more = ap (λ (i : Inbox). i.pending) is ∙ a.pending in
    record {
      more = a.more;
      pending = λ waiting same. now ∙ ap (λ (us : List Scheduled). us ++ a.more) (rest waiting same);
      one = a.one;
      good = record {
        can = can;
        sound = record {
          shape = shape;
          held = All-same (IsSubscribed s.own) s.own.inbox.pending _ now
              (All-append (IsSubscribed s.own) before.pending a.more old a.each);
        };
      };
    }

-- what is left where some place is taken out, and where only some pass, of schedulings and of their upcalls
pub all_removed : {X : Type 0} (P : X → Type 0) (place : Option ℕ) (xs : List X) → All P xs → All P (removed place xs)
all_removed P None xs all = all
all_removed P (Some place) xs all =
    All-append P (take place xs) (drop (suc place) xs) (All-take P place xs all) (All-drop P (suc place) xs all)

removed_upcalls : (place : Option ℕ) (waiting : List Scheduling)
    → removed place (upcalls waiting) ≡ upcalls (removed place waiting)
removed_upcalls None waiting = refl
removed_upcalls (Some place) waiting =
    ap₂ ◌++◌ (take-map (λ (s : Scheduling). s.upcall) place waiting)
    (drop-map (λ (s : Scheduling). s.upcall) (suc place) waiting)
    ∙ sym (map-append (λ (s : Scheduling). s.upcall) (take place waiting) (drop (suc place) waiting))

filter_upcalls : (test : Scheduled → Bool) (waiting : List Scheduling)
    → filter test (upcalls waiting) ≡ upcalls (filter (λ s. test s.upcall) waiting)
filter_upcalls test [] = refl
filter_upcalls test (s ∷ rest) =
    elim (cases_Bool (test s.upcall)) [
      | inl e ↦ rw (e, filter_upcalls test rest) refl
      | inr e ↦ rw (e, filter_upcalls test rest) refl
    ]

passes_none : (waiting : List Scheduling) → filter (λ s. false) waiting ≡ []
passes_none [] = refl
passes_none (s ∷ rest) = passes_none rest

left_upcalls : (wait : Option Wait) (told : TurnTrace) (inbox : Inbox) (waiting : List Scheduling)
    → upcalls waiting ≡ inbox.pending
    → (inbox_left wait told inbox).pending ≡ upcalls (left_by_turn wait told waiting)
left_upcalls wait told inbox waiting is =
    let place = place_taken (takes wait told.call) (upcalls waiting) in
    rw (← is) (elim (cases_Bool (ends_life told)) [
      | inl e ↦ rw e (sym (ap upcalls (passes_none (removed place waiting))))
      | inr e ↦ rw (e, removed_upcalls place waiting) (filter_upcalls _ (removed place waiting))
    ])

none_some : {X : Type 0} (o : Option X) → not (is_some o) ≡ true → o ≡ None
none_some None e = refl
none_some (Some x) e = absurd (false≢true e)

-- a turn that commands ends no life
commands_end_none : (settings : Settings) (time : ℕ) (r : Record) → let t = turned settings time r in
    (made : CallMade) → t.told.call ≡ Some made → made.class ≡ 2 → ends_life t.told ≡ false
commands_end_none settings time r =
    of_each_end settings time r
    (λ t. (made : CallMade) → t.told.call ≡ Some made → made.class ≡ 2 → ends_life t.told ≡ false)
    (record {
      nothing = λ none made e commands. refl;
      went = λ t is made e commands. refl;
      faults = λ t denial is runs made e commands. absurd (cc);
      makes = λ t form is calls runs asks made e commands.
          let class_is : class t.regs ≡ 2 = cc in rw class_is refl;
      delivers = λ next is yielded made e commands. refl;
    })

module _ (promise : Promise) where
  abbrev law : OnlyHandingChangesPairs
  law = promise.pairs

  -- what the turn leaves is held still, as it hands no other of its key; so is what it schedules
  module _ (r s : Record) (good : IsGood r) (told : TurnTrace)
      (hands : Hands (λ key. held_by key r.own) s (ends_life told) told.call) where
    held_still : (wait : Option Wait) → All (IsSubscribed s.own) (inbox_left wait told r.own.inbox).pending
    held_still wait =
        let pending = r.own.inbox.pending in
        let place = place_taken (takes wait told.call) pending in
        let stays : Scheduled → Bool
        = λ u. not (is_some (option_and_then (handed_by (subscription_key u)) told.call)) in
        let left = filter stays (removed place pending) in
        let all = All-filter stays (IsSubscribed r.own) (removed place pending)
        (all_removed (IsSubscribed r.own) place pending good.sound.held) in
        elim (cases_Bool (ends_life told)) [
          | inl e ↦ rw e (All-nil (IsSubscribed s.own))
          | inr e ↦ rw e (λ k d lt. one (slice_index_or left k d) e (all k d lt)
              (filter_passes stays (removed place pending) k d lt))
        ]
      where
        one : (u : Scheduled) → ends_life told ≡ false → IsSubscribed r.own u
            → not (is_some (option_and_then (handed_by (subscription_key u)) told.call)) ≡ true → IsSubscribed s.own u
        one u e held apart = (
          hands.pairs (λ ends. absurd (false≢true (sym e ∙ ends))) (subscription_key u)
              ∙ rw (e, none_some _ apart) held.0,
          held.1,
        )

    new_held : ((made : CallMade) → told.call ≡ Some made → made.class ≡ 2 → ends_life told ≡ false)
        → (call : Option CallMade) → told.call ≡ call → IfSome (upcall_by_turn call r.own) (IsHeld s.own)
    new_held none None is = tt
    new_held none (Some made) is =
        cond_both (cancels_read made) _ _ (λ o. IfSome o (IsHeld s.own))
        (λ e. let commands = eqb-true made.class 2 (and_parts _ _ (and_parts _ _ e).0).0 in
        let goes_on = none made is commands in
        hands.pairs (λ ends. absurd (false≢true (sym goes_on ∙ ends)))
        (record { kind = Upcall; driver = 0x1; number = 2 }) ∙ rw (goes_on, is, commands) refl) (λ e. tt)

  pub turn_leaves : (settings : Settings) (time : ℕ) (r : Record) → r.process.held ≡ false → IsGood r
      → let t = turned settings time r in Leaves r t.after (left_by_turn (wait_of r) t.told)
  turn_leaves settings time r free good =
      let t = turned settings time r in
      let hands = hands_turn law promise.leave settings time r good.sound.shape good.can in
      leaves r t.after _ (upcall_by_turn t.told.call r.own) (inbox_left (wait_of r) t.told r.own.inbox)
      (exact law settings time r free (λ ends. good.can)) (left_upcalls (wait_of r) t.told r.own.inbox)
      (new_held r t.after good t.told hands (commands_end_none settings time r) t.told.call refl)
      (held_still r t.after good t.told hands (wait_of r)) hands.shape hands.application

  pub answer_leaves : (settings : Settings) (event : Event) (r : Record) → IsAnswer event → IsGood r
      → Leaves r (apply settings event r) (λ waiting. waiting)
  answer_leaves settings event r is good =
      let s = apply settings event r in
      let same = of_answer HandsTheSame promise.leave settings event r is in
      let new = of_answer SchedulesHeld promise.schedule settings event r is in
      let still : (u : Scheduled) → IsHeld r.own u → IsHeld s.own u
      = λ u held. law.held r.own s.own same Upcall u.driver u.number ∙ held in
      leaves r s _ new.upcall r.own.inbox new.inbox (λ waiting e. sym e) (IfSome_then new.upcall new.held still)
      (All-weaker (IsSubscribed r.own) (IsSubscribed s.own) (λ u h. (still u h.0, h.1)) r.own.inbox.pending
      good.sound.held)
      (law.shape r.own s.own same good.sound.shape) (rw (answer_changes settings event r is) good.can)

  -- an operator's act leaves what waits, or nothing of it
  pub act_leaves : (verb : Verb) (r : Record) → IsGood r
      → Leaves r (operated verb r) (λ waiting. cond (ends_by verb r.process) [] waiting)
  act_leaves verb r good =
      of_operated (λ ended s. Leaves r s (λ waiting. cond ended [] waiting)) r (same r.process)
      (λ held. same (with_held held r.process))
      (λ lives. none _ (law.shape r.own (own_ended r.own) (law.grants r.own (own_ended r.own) refl) good.sound.shape)
      refl good.can)
      (restarts (λ s. Leaves r s (λ waiting. [])) r good.can
      (λ h m. none (restarted_with r h m) (law.none (restarted_with r h m).own refl).shape refl good.can)) verb
    where
      same : (process : Process) → Leaves r (with_process r process) (λ waiting. waiting)
      same process =
          leaves r _ _ None r.own.inbox refl (λ waiting e. sym e) tt good.sound.held good.sound.shape good.can

      none : (s : Record) → HasShape s.own → s.own.inbox.pending ≡ [] → CanStartAgain s
          → Leaves r s (λ waiting. [])
      none s shape empty can =
          leaves r s _ None s.own.inbox refl (λ waiting e. empty) tt
          (All-same (IsSubscribed s.own) _ [] empty (All-nil (IsSubscribed s.own))) shape can
