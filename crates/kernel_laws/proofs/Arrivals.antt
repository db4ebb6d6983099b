-- What comes in comes in the order in which it was to.
use Rattle.std.proofs.lemmas.Bool.{cases_Bool}
use Rattle.std.proofs.Common.{inl, inr}
use Rattle.std.proofs.Common.{◌≡◌, ℕ, List, [], ◌∷◌, slice_get, Option, None, Some}
use Rattle.std.proofs.Common.{refl, sym, ap}
use Rattle.std.specs.List.{cons_option}
use Rattle.std.specs.Option.{option_map}
use Rattle.std.specs.Prelude.{unwrap_or}
use Rattle.tk_base.specs.declared.process.Verb.{Verb}
use Rattle.tk_base.specs.declared.process.Choice.{Choice}
use Rattle.tk_base.specs.declared.process.Choice.TheVariants.{Run, Device, Pass}
use Rattle.tk_base.specs.declared.process.Dev.{Dev}
use Rattle.tk_base.specs.declared.process.Dev.TheVariants as dev
use Rattle.script_text.specs.Settings.{ScriptEvent as Arrival, EventKind}
use Rattle.script_text.specs.Settings as script
use Rattle.driver_model.specs.Commands.{BoardRequest}
use Rattle.kernel_model.specs.Record.{Record}
use Rattle.kernel_model.specs.Turn.{turned}
use Rattle.kernel_model.specs.World.{DeviceAnswer, Devices, World, after, answering, arrived}
use Rattle.kernel_model.specs.Parts.{alarmed}
use Rattle.kernel_model.specs.World.{carried_out}
use Rattle.kernel_model.specs.World.{coming_in, device_step_of, done, is_ready, ran, random_step}
use Rattle.kernel_model.specs.World.{operating, receive_step, routed, serving}
use Rattle.kernel_model.specs.Parts.{served_by}
use Rattle.kernel_model.specs.Parts.{acting_on, acts_of}
use Rattle.kernel_model.specs.World.{lane_in, storing, telling_nobody, transmitting}
use Rattle.kernel_model.specs.Parts.{slot_of_name}
use Rattle.kernel_model.specs.Edges.{arrival_in, first_for}
use Rattle.kernel_model.proofs.Places.{stepped_else, stepped_ready, routed_rest}

-- what a turn asks of the board, and an answer to a request, lets nothing come in
routed_arrivals : (slot : ℕ) (acts : List BoardRequest) (d : Devices) → (routed slot acts d).arrivals ≡ d.arrivals
routed_arrivals slot acts d = ap (λ (x : Devices). x.arrivals) (routed_rest slot acts d)

-- nor does an operator's act let anything in beside itself
acting_arrivals : (verb : Verb) (rs : List Record) (d : Devices) (o : Option ℕ)
    → (acting_on verb rs d o).devices.arrivals ≡ d.arrivals
acting_arrivals verb rs d None = refl
acting_arrivals verb rs d (Some slot) =
    elim (slice_get rs slot) as (λ o. (unwrap_or
    (option_map (λ (r : Record). answering slot (operating verb d slot r)) o) (telling_nobody d)).devices.arrivals
    ≡ d.arrivals) [ None ↦ refl | Some r ↦ routed_arrivals slot (acts_of verb r) d ]

module _ (w : World) where
  serving_arrivals : (make : ℕ → Record → DeviceAnswer)
      → ((slot : ℕ) (r : Record) → (make slot r).devices.arrivals ≡ w.devices.arrivals) → (served : Option ℕ)
      → w.devices.arrivals ≡ (done w (serving w.records make served)).after.devices.arrivals
  serving_arrivals make each None = refl
  serving_arrivals make each (Some slot) =
      elim (slice_get w.records slot) as (λ o. w.devices.arrivals
      ≡ (done w (option_map (λ (r : Record). answering slot (make slot r)) o)).after.devices.arrivals)
      [ None ↦ refl | Some r ↦ sym (each slot r) ]

  of_arrived : (arrivals : List Arrival) → w.devices.arrivals ≡ arrivals
      → arrivals ≡ cons_option (slice_get arrivals 0) (done w
      (arrived w.records w.devices arrivals)).after.devices.arrivals
  of_arrived [] is = sym is
  of_arrived (arrival ∷ rest) is = by_kind arrival.kind
    where
      by_kind : (kind : EventKind) → arrival ∷ rest
          ≡ arrival ∷ (coming_in kind w.records (record w.devices { arrivals = rest })).devices.arrivals
      by_kind (script.Act verb name) =
          ap (λ (arrivals : List Arrival). arrival ∷ arrivals) (sym (acting_arrivals verb w.records
          (record w.devices { arrivals = rest }) (slot_of_name name w.records)))
      by_kind kind = refl

  of_device : (device : Dev)
      → w.devices.arrivals ≡ cons_option (first_for (Device device) w.devices.arrivals)
      (done w (device_step_of w device)).after.devices.arrivals
  of_device dev.Event = of_arrived w.devices.arrivals refl
  of_device dev.Alarm =
      serving_arrivals (λ slot r. alarmed w.settings w.clock.time w.devices) (λ slot r. refl) (served_by w dev.Alarm)
  of_device dev.Uart =
      serving_arrivals (transmitting (lane_in w) w.clock.time w.devices) (λ slot r. refl)
      (served_by w dev.Uart)
  of_device dev.Receive =
      serving_arrivals (receive_step (lane_in w) w.devices) (λ slot r. refl) (served_by w dev.Receive)
  of_device dev.Random =
      serving_arrivals (random_step (lane_in w) w.devices) (λ slot r. refl) (served_by w dev.Random)
  of_device dev.Store =
      serving_arrivals (storing (lane_in w) w.devices) (λ slot r. refl) (served_by w dev.Store)

  of_choice : (choice : Choice)
      → w.devices.arrivals
      ≡ cons_option (first_for choice w.devices.arrivals) (carried_out w choice).after.devices.arrivals
  unfolding carried_out
  of_choice (Run slot) =
      elim (slice_get w.records slot) as (λ o. w.devices.arrivals ≡ (ran w slot o).after.devices.arrivals) [
        | None ↦ refl
        | Some r ↦ sym (routed_arrivals slot (turned w.settings w.clock.time r).acts w.devices)
      ]
  of_choice (Device device) = of_device device
  of_choice (Pass ticks) = refl

  -- what was to come in is what comes in by a step, and then what is still to
  pub arrives_in_order : (choice : Choice)
      → w.devices.arrivals ≡ cons_option (arrival_in w choice) (after w choice).devices.arrivals
  arrives_in_order choice =
      elim (cases_Bool (is_ready w choice)) [
        | inl e ↦ rw (e, stepped_ready w choice e, after) (of_choice choice)
        | inr e ↦ rw (e, stepped_else w choice e, after)
      ]
