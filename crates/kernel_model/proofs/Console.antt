-- What an operator's act leaves of the board.
use Rattle.std.proofs.Common.{◌≡◌, ℕ, ◌+◌, Bool, true, false, cond, List, [], ◌∷◌, drop, slice_get, slice_set, Option}
use Rattle.std.proofs.Common.{None, Some, refl, sym, ap, subst, ◌∙◌}
use Rattle.std.specs.Option.{option_and_then}
use Rattle.tk_base.specs.declared.process.Choice.{Choice}
use Rattle.tk_base.specs.declared.process.Choice.TheVariants.{Device}
use Rattle.tk_base.specs.declared.process.Dev.TheVariants as dev
use Rattle.tk_base.specs.declared.process.Verb.{Verb}
use Rattle.board_devices.specs.Arriving.{act_of}
use Rattle.script_text.specs.Settings.{ScriptEvent as Arrival, EventKind}
use Rattle.script_text.specs.Settings as script
use Rattle.process_record.specs.Operator.{ends_by}
use Rattle.driver_model.specs.Commands.{leaving_all}
use Rattle.kernel_model.specs.Record.{Record}
use Rattle.kernel_model.specs.Turn.{Act, apply, operated}
use Rattle.kernel_model.specs.World.{Devices, Label, Stepped, World, answer_label, arrived}
use Rattle.kernel_model.specs.World.{after, labels}
use Rattle.kernel_model.specs.Parts.{acting_on}
use Rattle.kernel_model.specs.World.{carried_out, coming_in, done, is_ready, listed, operating, routed}
use Rattle.kernel_model.specs.Parts.{slot_of_name}
use Rattle.kernel_model.specs.Edges.{first_for}
use Rattle.kernel_model.specs.Console.{ActsOnOne, StepsOperateOne, on_process, waiting_after, without_slot}
use Rattle.kernel_model.proofs.Places.{stepped_ready}
use Rattle.kernel_model.proofs.Told.{done_one, done_quietly, with_rest}
use Rattle.std.proofs.lemmas.Option.{some_pair_parts}
use Rattle.std.proofs.Common.{inl, inr}
use Rattle.kernel_model.proofs.Places.{cases_Option}
use Rattle.kernel_model.specs.Laws.{quiet, one_answered}

-- what an act tells the process in a slot
abbrev told_of_act : Verb → ℕ → Record → List Label
told_of_act verb slot r = answer_label slot (record { event = Act verb; printed = listed verb slot r }) ∷ []

-- a process whose life ends leaves every queue, and no other does
let_go : (slot : ℕ) (d : Devices) (rest : List Arrival) (ends : Bool)
    → routed slot (cond ends leaving_all []) (with_rest d rest)
    ≡ record d { waiting = cond ends (without_slot slot d.waiting) d.waiting; arrivals = rest }
let_go slot d rest true = refl
let_go slot d rest false = refl

module _ (w : World) (a : Arrival) (rest : List Arrival) (verb : Verb) where
  abbrev d : Devices
  d = with_rest w.devices rest

  -- what a step leaves and tells of an act on the process in a slot, if one is meant
  abbrev Acts : Option ℕ → Stepped → Type 0
  Acts slot s =
      (s.after ≡ record w {
        records = on_process w.records (λ slot r. slice_set w.records slot (operated verb r)) w.records slot;
        devices = record w.devices {
          waiting = on_process w.devices.waiting (waiting_after verb w.devices.waiting) w.records slot;
          arrivals = drop 1 (a ∷ rest);
        };
        clock = record w.clock { steps = w.clock.steps + 1 };
      }) × (s.labels ≡ on_process [] (told_of_act verb) w.records slot)

  by_slot : (o : Option ℕ) → Acts o (done w (Some (acting_on verb w.records d o)))
  unfolding apply
  by_slot None = subst (Acts None) (sym (done_quietly w d)) (refl, refl)
  by_slot (Some slot) =
      elim (cases_Option (slice_get w.records slot)) [
        | inl none ↦
            let same : done w (Some (acting_on verb w.records d (Some slot))) ≡ quiet w d =
            rw none (done_quietly w d) in
            subst (Acts (Some slot)) (sym same) (rw none (refl, refl))
        | inr is ↦
            let r = is.0 in
            let act = operating verb d slot r in
            let same : done w (Some (acting_on verb w.records d (Some slot))) ≡ one_answered w slot r act =
            rw is.1 (done_one w slot act r is.1) in
            subst (Acts (Some slot)) (sym same)
            (rw (is.1, let_go slot w.devices rest (ends_by verb r.process)) (refl, refl))
      ]

-- what a step leaves and tells that lets the first of these in
abbrev Lets : World → List Arrival → Verb → List ℕ → Stepped → Type 0
Lets w arrivals verb name s =
    let slot = slot_of_name name w.records in
    (s.after ≡ record w {
      records = on_process w.records (λ slot r. slice_set w.records slot (operated verb r)) w.records slot;
      devices = record w.devices {
        waiting = on_process w.devices.waiting (waiting_after verb w.devices.waiting) w.records slot;
        arrivals = drop 1 arrivals;
      };
      clock = record w.clock { steps = w.clock.steps + 1 };
    }) × (s.labels ≡ on_process [] (told_of_act verb) w.records slot)

of_arrivals : (w : World) (arrivals : List Arrival) (verb : Verb) (name : List ℕ)
    → option_and_then (λ (arrival : Arrival). act_of arrival.kind) (slice_get arrivals 0) ≡ Some (verb, name)
    → Lets w arrivals verb name (done w (arrived w.records w.devices arrivals))
of_arrivals w [] verb name is = absurd (cc)
of_arrivals w (a ∷ rest) verb name is = by_kind a.kind is
  where
    by_kind : (kind : EventKind) → act_of kind ≡ Some (verb, name)
        → Lets w (a ∷ rest) verb name (done w (Some (coming_in kind w.records (with_rest w.devices rest))))
    by_kind (script.Act v n) e =
        let same = some_pair_parts v verb n name e in
        rw (← same.0, ← same.1) (by_slot w a rest v (slot_of_name n w.records))
    by_kind kind e = absurd (cc)

pub steps_operate_one : StepsOperateOne
unfolding carried_out
steps_operate_one w choice verb name meant = by_ready (is_ready w choice) refl meant
  where
    by_choice : (c : Choice) → is_ready w c ≡ true
        → option_and_then (λ (arrival : Arrival). act_of arrival.kind) (first_for c w.devices.arrivals)
        ≡ Some (verb, name) → ActsOnOne w (after w c) (labels w c) verb name
    by_choice (Device dev.Event) ready is =
        let made = stepped_ready w (Device dev.Event) ready in
        let lets = of_arrivals w w.devices.arrivals verb name is in
        record {
          world = ap (λ (s : Stepped). s.after) made ∙ lets.0;
          tells = ap (λ (s : Stepped). s.labels) made ∙ lets.1;
        }
    by_choice c ready is = absurd (cc)

    by_ready : (b : Bool) → is_ready w choice ≡ b
        → option_and_then (λ (arrival : Arrival). act_of arrival.kind)
        (cond b (first_for choice w.devices.arrivals) None) ≡ Some (verb, name)
        → ActsOnOne w (after w choice) (labels w choice) verb name
    by_ready true ready is = by_choice choice ready is
    by_ready false ready is = absurd (cc)
