-- How many upcalls are dropped adds up over any choices.
use Rattle.std.proofs.Common.{◌≡◌, ℕ, ◌+◌, ◌==◌, List, [], ◌∷◌}
use Rattle.std.proofs.Common.{slice_get, Option, None, Some, refl, sym, ap, ◌∙◌, arith}
use Rattle.std.specs.Prelude.{unwrap_or}
use Rattle.std.proofs.lemmas.Bool.{cases_Bool}
use Rattle.std.proofs.Common.{inl, inr}
use Rattle.std.specs.Option.{option_map}
use Rattle.tk_base.specs.declared.process.Choice.{Choice}
use Rattle.tk_base.specs.declared.upcall.Upcall.{Upcall as Scheduled}
use Rattle.rv32_model.specs.Laws.{CallsAreOfEcall}
use Rattle.upcall_queue.specs.declared.inbox.Inbox.{Inbox}
use Rattle.upcall_queue.specs.Pending.{awaits, has_room, scheduled}
use Rattle.driver_model.specs.Laws.{RefusedByAnyDriver}
use Rattle.driver_model.specs.Upcalls.{DriversScheduleTheirOwn}
use Rattle.kernel_model.specs.Record.{Record}
use Rattle.kernel_model.specs.declared.settings.Settings.{Settings}
use Rattle.kernel_model.specs.Edges.{IsThenScheduled}
use Rattle.kernel_model.specs.Laws.{OnlyItsOwnEvents}
use Rattle.kernel_model.specs.Turn.{Event, Turn, Act}
use Rattle.kernel_model.specs.Turn.{apply}
use Rattle.kernel_model.specs.World.{Answer, World, after}
use Rattle.kernel_model.specs.Parts.{happens}
use Rattle.kernel_model.specs.Replay.{after_all}
use Rattle.kernel_laws.specs.Scheduled.{answer_schedules, answer_step, event_schedules, step_schedules}
use Rattle.kernel_laws.specs.Scheduled.{upcall_told}
use Rattle.kernel_laws.proofs.EdgeSteps.{answer_leaves, step_happens}
use Rattle.kernel_laws.proofs.Scheduled.{AtOnce, at_once, told_inbox, turn_leaves}
use Rattle.kernel_histories.proofs.EdgeRuns.{step_told, told_in}
use Rattle.kernel_histories.specs.Drops.{DropsAddUp, drops_by, drops_in, drops_of, dropped_in}

-- an upcall is counted where it is dropped
counts_drop : (u : Scheduled) (inbox : Inbox)
    → (scheduled u inbox).dropped ≡ inbox.dropped + drops_by (Some u) inbox
counts_drop u inbox =
    elim (cases_Bool (awaits inbox.wait u)) [
      | inl e ↦ rw e (omega arith)
      | inr e ↦ rw e (elim (cases_Bool (u.function == 0)) [
        | inl null ↦ rw null (omega arith)
        | inr null ↦ rw null (elim (cases_Bool (has_room inbox.pending)) [
          | inl room ↦ rw room (omega arith)
          | inr full ↦ rw full refl
        ])
      ])
    ]

-- so is what is scheduled at once, where else none more is counted
counts_drops : (upcall : Option Scheduled) (before later : Inbox) → IsThenScheduled upcall before later
    → AtOnce upcall before later → later.dropped ≡ before.dropped + drops_by upcall before
counts_drops None before later leaves whole =
    let same : later.dropped ≡ before.dropped = ap (λ (i : Inbox). i.dropped) leaves.is ∙ leaves.dropped in
    omega (arith, same)
counts_drops (Some u) before later leaves whole = ap (λ (i : Inbox). i.dropped) whole ∙ counts_drop u before

module _ (law : DriversScheduleTheirOwn) (refuse : RefusedByAnyDriver) (of_ecall : CallsAreOfEcall)
    (only : OnlyItsOwnEvents) where
  -- what happens to a process schedules at once
  event_at_once : (settings : Settings) (event : Event) (r : Record)
      → AtOnce (event_schedules settings event r) r.own.inbox (apply settings event r).own.inbox
  unfolding apply answer_step
  event_at_once settings (Turn time) r = (turn_leaves refuse of_ecall settings time r).whole
  event_at_once settings (Act verb) r = tt
  event_at_once settings event r =
      at_once (upcall_told event r) r.own.inbox (apply settings event r).own.inbox (told_inbox settings event r refl)

  happens_at_once : (settings : Settings) (told : Option Answer) (r : Record)
      → AtOnce (answer_schedules settings told r) r.own.inbox (happens settings told r).own.inbox
  happens_at_once settings None r = tt
  happens_at_once settings (Some a) r = event_at_once settings a.event r

  happens_counts : (settings : Settings) (told : Option Answer) (r : Record)
      → (happens settings told r).own.inbox.dropped
      ≡ r.own.inbox.dropped + drops_by (answer_schedules settings told r) r.own.inbox
  happens_counts settings told r =
      counts_drops (answer_schedules settings told r) r.own.inbox (happens settings told r).own.inbox
      (answer_leaves law refuse of_ecall settings told r) (happens_at_once settings told r)

  module _ (slot : ℕ) where
    -- one step
    step_counts : (w : World) (choice : Choice)
        → dropped_in slot (after w choice)
        ≡ option_map (λ (dropped : ℕ). dropped + drops_in slot w choice) (dropped_in slot w)
    step_counts w choice =
        ap (option_map (λ (r : Record). r.own.inbox.dropped)) (step_happens law refuse of_ecall only w slot choice)
        ∙ by_record (slice_get w.records slot) refl
      where
        by_record : (o : Option Record) → slice_get w.records slot ≡ o
            → option_map (λ (r : Record). r.own.inbox.dropped)
            (option_map (happens w.settings (told_in slot w choice)) o)
            ≡ option_map (λ (dropped : ℕ). dropped
            + unwrap_or (option_map (λ (r : Record). drops_by (step_schedules slot w choice) r.own.inbox) o) 0)
            (option_map (λ (r : Record). r.own.inbox.dropped) o)
        by_record None there = refl
        by_record (Some r) there =
            ap Some (happens_counts w.settings (told_in slot w choice) r
            ∙ ap (λ (o : Option Scheduled). r.own.inbox.dropped + drops_by o r.own.inbox)
            (sym (step_told slot w choice (Some r) there)))

    -- and all
    all_count : (choices : List Choice) (w : World)
        → dropped_in slot (after_all w choices)
        ≡ option_map (λ (dropped : ℕ). dropped + drops_of slot w choices) (dropped_in slot w)
    all_count [] w = none_more (dropped_in slot w)
      where
        none_more : (o : Option ℕ) → o ≡ option_map (λ (dropped : ℕ). dropped + 0) o
        none_more None = refl
        none_more (Some dropped) = ap Some (omega arith)
    all_count (choice ∷ choices) w =
        all_count choices (after w choice)
        ∙ ap (option_map (λ (dropped : ℕ). dropped + drops_of slot (after w choice) choices)) (step_counts w choice)
        ∙ in_turn (drops_in slot w choice) (drops_of slot (after w choice) choices) (dropped_in slot w)
      where
        in_turn : (a b : ℕ) (o : Option ℕ)
            → option_map (λ (dropped : ℕ). dropped + b) (option_map (λ (dropped : ℕ). dropped + a) o)
            ≡ option_map (λ (dropped : ℕ). dropped + (a + b)) o
        in_turn a b None = refl
        in_turn a b (Some dropped) = ap Some (omega arith)

pub drops_add_up : DriversScheduleTheirOwn → RefusedByAnyDriver → CallsAreOfEcall → OnlyItsOwnEvents → DropsAddUp
drops_add_up law refuse of_ecall only w choices slot = all_count law refuse of_ecall only slot choices w
