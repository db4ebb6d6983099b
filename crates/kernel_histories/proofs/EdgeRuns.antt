-- Each edge of a button schedules one upcall for a process that is told of it, in every run. One step schedules a value
-- (`step_schedules`), of which those of edges are exactly the edge that the process hears (`step_happens`); in a run
-- they follow one another, by induction on the choices.
use Rattle.std.proofs.Common.{◌≡◌, ℕ, Bool, false, cond, List, [], ◌∷◌, ◌++◌, filter, slice_get, Option, None}
use Rattle.std.proofs.Common.{Some}
use Rattle.std.proofs.Common.{IfSome, refl, ap, ◌∙◌, eq-eqb}
use Rattle.std.specs.Prelude.{option_and_then}
use Rattle.std.specs.List.{cons_option}
use Rattle.std.specs.Option.{option_map}
use Rattle.std.proofs.lemmas.Bool.{cases_Bool}
use Rattle.std.proofs.Common.{inl, inr}
use Rattle.tk_base.specs.declared.process.Choice.{Choice}
use Rattle.tk_base.specs.declared.upcall.Upcall.{Upcall as Scheduled}
use Rattle.rv32_model.specs.Laws.{CallsAreOfEcall}
use Rattle.upcall_queue.specs.declared.inbox.Inbox.{Inbox}
use Rattle.upcall_queue.specs.Pending.{awaits, scheduled}
use Rattle.process_model.specs.Own.{Own}
use Rattle.driver_model.specs.Laws.{RefusedByAnyDriver}
use Rattle.driver_model.specs.Upcalls.{DriversScheduleTheirOwn}
use Rattle.kernel_model.specs.Record.{Record}
use Rattle.kernel_model.specs.Choices.{Throughout}
use Rattle.kernel_model.specs.Edges.{IsThenScheduled, SchedulesEdge, arrival_in, arrivals_in, edge_in}
use Rattle.kernel_model.specs.Edges.{pressed_after_all}
use Rattle.kernel_model.specs.Named.{is_of_edge}
use Rattle.kernel_model.specs.Edges.{told_edge_in}
use Rattle.kernel_model.specs.Named.{pressed_by}
use Rattle.kernel_model.specs.Named.{edge_upcall}
use Rattle.kernel_model.specs.Laws.{OnlyItsOwnEvents, answer_by}
use Rattle.kernel_model.specs.World.{Answer, World, after, is_ready}
use Rattle.kernel_model.specs.Parts.{happens}
use Rattle.kernel_model.specs.Replay.{after_all}
use Rattle.kernel_laws.specs.Scheduled.{answer_schedules, step_schedules}
use Rattle.kernel_laws.proofs.Arrivals.{arrives_in_order}
use Rattle.kernel_laws.proofs.EdgeSteps.{answer_leaves, each_is_scheduled_once, pressed_on, same_record}
use Rattle.kernel_laws.proofs.EdgeSteps.{step_happens, step_serves, steps_serve_edges}
use Rattle.kernel_histories.specs.Edges.{ComesOnce, EachEdgeComesOnce, edge_scheduled, edges_in, schedules_in}

-- what follows what comes first, if anything does
first_of : {X : Type 0} (o : Option X) (xs ys : List X) → cons_option o (xs ++ ys) ≡ cons_option o xs ++ ys
first_of None xs ys = refl
first_of (Some x) xs ys = refl

in_order : (choices : List Choice) (w : World)
    → w.devices.arrivals ≡ arrivals_in w choices ++ (after_all w choices).devices.arrivals
in_order [] w = refl
in_order (choice ∷ choices) w =
    arrives_in_order w choice ∙ ap (cons_option (arrival_in w choice)) (in_order choices (after w choice))
    ∙ first_of (arrival_in w choice) (arrivals_in (after w choice) choices) _

-- what a process in a slot is told in a step
abbrev pub told_in : ℕ → World → Choice → Option Answer
told_in slot w choice = cond (is_ready w choice) (answer_by w choice slot) None

pub step_told : (slot : ℕ) (w : World) (choice : Choice) (o : Option Record) → slice_get w.records slot ≡ o
    → step_schedules slot w choice ≡ option_and_then (answer_schedules w.settings (told_in slot w choice)) o
step_told slot w choice o there =
    elim (cases_Bool (is_ready w choice)) [
      | inl e ↦ rw (e, there) refl
      | inr e ↦ rw e (nothing o)
    ]
  where
    nothing : (x : Option Record) → ◌≡◌ {A = Option Scheduled} None
        (option_and_then (answer_schedules w.settings None) x)
    nothing None = refl
    nothing (Some r) = refl

-- a null upcall for which the process does not wait changes nothing
null_changes_nothing : (u : Scheduled) (before : Inbox) → awaits before.wait u ≡ false → u.function ≡ 0
    → scheduled u before ≡ before
null_changes_nothing u before unawaited null = rw (unawaited, eq-eqb u.function 0 null) refl

-- of what is scheduled none is of an edge, where no upcall of one is in it
none_of_edge : (upcall : Option Scheduled) → filter is_of_edge (cons_option upcall []) ≡ []
    → IfSome upcall (λ u. is_of_edge u ≡ false)
none_of_edge None none = tt
none_of_edge (Some u) none =
    elim (cases_Bool (is_of_edge u)) [
      | inl e ↦ let some = rw e at none in absurd (cc)
      | inr e ↦ e
    ]

-- an edge of which a process is told comes once; where it is told of none, none does
comes_once : (edge : Option (ℕ × Bool)) (upcall : Option Scheduled) (own o : Own) → SchedulesEdge edge own o
    → filter is_of_edge (cons_option upcall []) ≡ cons_option (option_map (edge_upcall own) edge) []
    → ComesOnce (option_map (edge_upcall own) edge) upcall own.inbox o.inbox
comes_once None upcall own o schedules filters = none_of_edge upcall filters
comes_once (Some edge) upcall own o schedules filters =
    let u = edge_upcall own edge in
    let is : o.inbox ≡ scheduled u own.inbox = ap (λ (x : Own). x.inbox) schedules in
    rw is (each_is_scheduled_once u own.inbox, null_changes_nothing u own.inbox)

-- what holds in every step holds throughout any choices
throughout : (P : World → Choice → Type 0) → ((w : World) (choice : Choice) → P w choice)
    → (w : World) (choices : List Choice) → Throughout P w choices
throughout P each w [] = tt
throughout P each w (choice ∷ choices) = (each w choice, throughout P each (after w choice) choices)

module _ (law : DriversScheduleTheirOwn) (refuse : RefusedByAnyDriver) (of_ecall : CallsAreOfEcall)
    (only : OnlyItsOwnEvents) (slot : ℕ) where
  -- one step
  step_knows : (w : World) (choice : Choice)
      → option_map (λ (r : Record). r.pressed) (slice_get (after w choice).records slot)
      ≡ option_map (λ (r : Record). pressed_by (edge_in w choice r) r.pressed) (slice_get w.records slot)
  step_knows w choice =
      ap (option_map (λ (r : Record). r.pressed)) (step_happens law refuse of_ecall only w slot choice)
      ∙ by_record (slice_get w.records slot) refl
    where
      by_record : (o : Option Record) → slice_get w.records slot ≡ o
          → option_map (λ (r : Record). r.pressed) (option_map (happens w.settings (told_in slot w choice)) o)
          ≡ option_map (λ (r : Record). pressed_by (edge_in w choice r) r.pressed) o
      by_record None there = refl
      by_record (Some r) there = ap Some (step_serves law refuse of_ecall w slot r there choice).knows

  step_filters : (w : World) (choice : Choice) (us : List Scheduled)
      → filter is_of_edge (cons_option (step_schedules slot w choice) us)
      ≡ cons_option (edge_scheduled slot w choice) (filter is_of_edge us)
  step_filters w choice us = by_record (slice_get w.records slot) refl
    where
      by_record : (o : Option Record) → slice_get w.records slot ≡ o
          → filter is_of_edge (cons_option (step_schedules slot w choice) us)
          ≡ cons_option (option_and_then (λ (r : Record). option_map (edge_upcall r.own) (told_edge_in w choice r)) o)
          (filter is_of_edge us)
      by_record None there = rw (step_told slot w choice None there) refl
      by_record (Some r) there =
          rw (step_told slot w choice (Some r) there)
          ((step_serves law refuse of_ecall w slot r there choice).filters us)

  step_leaves : (w : World) (choice : Choice) (r s : Record) → slice_get w.records slot ≡ Some r
      → slice_get (after w choice).records slot ≡ Some s
      → IsThenScheduled (step_schedules slot w choice) r.own.inbox s.own.inbox
  step_leaves w choice r s there left =
      let told = told_in slot w choice in
      let is = same_record law refuse of_ecall (slice_get (after w choice).records slot) (happens w.settings told r) s
      (step_happens law refuse of_ecall only w slot choice ∙ ap (option_map (happens w.settings told)) there) left in
      rw (step_told slot w choice (Some r) there, ← is) (answer_leaves law refuse of_ecall w.settings told r)

  step_comes : (w : World) (choice : Choice) (r s : Record) → slice_get w.records slot ≡ Some r
      → slice_get (after w choice).records slot ≡ Some s
      → ComesOnce (edge_scheduled slot w choice) (step_schedules slot w choice) r.own.inbox s.own.inbox
  step_comes w choice r s there left =
      let is : edge_scheduled slot w choice ≡ option_map (edge_upcall r.own) (told_edge_in w choice r) =
      ap (option_and_then (λ (x : Record). option_map (edge_upcall x.own) (told_edge_in w choice x))) there in
      rw is (comes_once (told_edge_in w choice r) (step_schedules slot w choice) r.own s.own
      (steps_serve_edges law refuse of_ecall only w choice slot r s there left).schedules
      (step_filters w choice [] ∙ ap (λ (o : Option Scheduled). cons_option o []) is))

  -- and all
  each_knows : (choices : List Choice) (w : World)
      → option_map (λ (r : Record). r.pressed) (slice_get (after_all w choices).records slot)
      ≡ option_map (λ (r : Record). pressed_after_all (arrivals_in w choices) r.pressed) (slice_get w.records slot)
  each_knows [] w = refl
  each_knows (choice ∷ choices) w =
      let v = after w choice in
      let later = pressed_after_all (arrivals_in v choices) in
      each_knows choices v ∙ in_turn later (λ (r : Record). r.pressed) (slice_get v.records slot)
      ∙ ap (option_map later) (step_knows w choice) ∙ by_record (slice_get w.records slot)
    where
      in_turn : (g : ℕ → ℕ) (f : Record → ℕ) (o : Option Record)
          → option_map (λ (r : Record). g (f r)) o ≡ option_map g (option_map f o)
      in_turn g f None = refl
      in_turn g f (Some r) = refl

      by_record : (o : Option Record)
          → option_map (pressed_after_all (arrivals_in (after w choice) choices))
          (option_map (λ (r : Record). pressed_by (edge_in w choice r) r.pressed) o)
          ≡ option_map (λ (r : Record). pressed_after_all (arrivals_in w (choice ∷ choices)) r.pressed) o
      by_record None = refl
      by_record (Some r) = ap Some (pressed_on (arrival_in w choice) (arrivals_in (after w choice) choices) r.pressed)

  each_filters : (choices : List Choice) (w : World) → filter is_of_edge (schedules_in slot w choices)
      ≡ edges_in slot w choices
  each_filters [] w = refl
  each_filters (choice ∷ choices) w =
      step_filters w choice (schedules_in slot (after w choice) choices)
      ∙ ap (cons_option (edge_scheduled slot w choice)) (each_filters choices (after w choice))

pub each_edge_comes_once : DriversScheduleTheirOwn → RefusedByAnyDriver → CallsAreOfEcall → OnlyItsOwnEvents
    → EachEdgeComesOnce
each_edge_comes_once law refuse of_ecall only w slot choices = record {
  order = in_order choices w;
  knows = each_knows law refuse of_ecall only slot choices w;
  scheduled = each_filters law refuse of_ecall only slot choices w;
  steps = throughout _ (step_leaves law refuse of_ecall only slot) w choices;
  once = throughout _ (step_comes law refuse of_ecall only slot) w choices;
}
