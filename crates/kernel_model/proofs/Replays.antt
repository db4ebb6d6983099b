-- A record after any choices is the replay of what the labels tell of it, by induction on the choices. In one step a
-- turn changes the record of its slot alone, and a device's step each record by what it tells that slot; labels of
-- other slots count nothing.
use Rattle.std.proofs.Common.{◌≡◌, ◌≢◌, ℕ, zero, suc, ◌==◌, cond, List, [], ◌∷◌, ◌++◌}
use Rattle.std.proofs.Common.{slice_get, Option, None, Some, refl, sym, ap, ◌∙◌, eq-eqb}
use Rattle.std.specs.List.{flat_map}
use Rattle.std.specs.Option.{option_and_then, option_map}
use Rattle.tk_base.specs.declared.process.Choice.{Choice}
use Rattle.tk_base.specs.declared.process.Choice.TheVariants.{Run, Device, Pass}
use Rattle.kernel_model.specs.Record.{Record}
use Rattle.kernel_model.specs.declared.settings.Settings.{Settings}
use Rattle.kernel_model.specs.Turn.{Event, Turn, apply}
use Rattle.kernel_model.specs.World.{Answer, DeviceStep, Stepped, World, after, carried_out, device_step_of}
use Rattle.kernel_model.specs.World.{done, ran, stepped}
use Rattle.kernel_model.specs.Parts.{happens, labels_of}
use Rattle.kernel_model.specs.Run.{next, round, stays, runs_on}
use Rattle.kernel_model.specs.Parts.{on_choice}
use Rattle.kernel_model.specs.Replay.{after_all, chosen, events, history, replay, RecordIsReplay}
use Rattle.kernel_model.specs.Parts.{happened}
use Rattle.kernel_model.specs.Replay.{RoundFollowsChoices, SameHistorySameRecord}
use Rattle.kernel_model.proofs.Places.{of_stepped, of_world, ran-other, ran-own}
use Rattle.kernel_model.proofs.Told.{heard_at, told_at}
use Rattle.std.proofs.lemmas.Bool.{cases_Bool, eqb-true, eqb-false}
use Rattle.std.proofs.Common.{inl, inr}

-- no step changes the settings
pub kept_settings : (w : World) (choice : Choice) → (after w choice).settings ≡ w.settings
kept_settings w choice =
    of_world (λ v. v.settings ≡ w.settings) w refl (λ slot t. refl) (λ deed. refl) (λ ticks. refl) choice

mapped_none : (settings : Settings) (o : Option Record) → o ≡ option_map (replay settings []) o
mapped_none settings None = refl
mapped_none settings (Some r) = refl

replayed_once : (settings : Settings) (event : Event) (o : Option Record)
    → option_map (apply settings event) o ≡ option_map (replay settings (event ∷ [])) o
replayed_once settings event None = refl
replayed_once settings event (Some r) = refl

-- records of which an event changed that of one slot alone are the replay of it
lands : (w : World) (records : List Record) (at slot : ℕ) (event : Event)
    → slice_get records at ≡ option_map (apply w.settings event) (slice_get w.records at)
    → ((other : ℕ) → other ≢ at → slice_get records other ≡ slice_get w.records other)
    → slice_get records slot
    ≡ option_map (replay w.settings (cond (at == slot) (event ∷ []) [] ++ [])) (slice_get w.records slot)
lands w records at slot event own others =
    elim (cases_Bool (at == slot)) [
      | inl e ↦ rw (e, ← eqb-true at slot e, own) (replayed_once w.settings event (slice_get w.records at))
      | inr e ↦
          rw (e, others slot (λ same. eqb-false at slot e (sym same)))
          (mapped_none w.settings (slice_get w.records slot))
    ]

-- what a step told, as what happened to a slot
abbrev replayed : World → ℕ → Stepped → Type 0
replayed w slot s =
    slice_get s.after.records slot
    ≡ option_map (replay w.settings (flat_map (happened slot) s.labels)) (slice_get w.records slot)

ran_replayed : (w : World) (other slot : ℕ) (o : Option Record) → slice_get w.records other ≡ o
    → replayed w slot (ran w other o)
ran_replayed w other slot None e = mapped_none w.settings (slice_get w.records slot)
ran_replayed w other slot (Some r) e =
    lands w (ran w other (Some r)).after.records other slot (Turn w.clock.time)
    (ran-own w other (Some r) e ∙ ap (option_map (apply w.settings (Turn w.clock.time))) (sym e))
    (λ s ne. ran-other w other s (Some r) ne)

-- a device's step, whatever it tells
deed_replayed : (w : World) (slot : ℕ) (o : Option DeviceStep) → replayed w slot (done w o)
deed_replayed w slot None = mapped_none w.settings (slice_get w.records slot)
deed_replayed w slot (Some deed) =
    rw (told_at w.settings deed.told w.records slot, heard_at deed.told w.records slot)
    (elim (slice_get w.records slot) as (λ o. option_map (happens w.settings (deed.told slot)) o
    ≡ option_map (replay w.settings (flat_map (happened slot) (labels_of slot
    (option_and_then (λ (r : Record). deed.told slot) o)))) o) [ None ↦ refl | Some r ↦ by_answer (deed.told slot) r ])
  where
    by_answer : (o : Option Answer) (r : Record)
        → Some (happens w.settings o r) ≡ Some (replay w.settings (flat_map (happened slot) (labels_of slot o)) r)
    by_answer None r = refl
    by_answer (Some a) r = rw (eq-eqb slot slot refl)

choice_replayed : (w : World) (choice : Choice) (slot : ℕ) → replayed w slot (carried_out w choice)
unfolding carried_out
choice_replayed w (Run other) slot = ran_replayed w other slot (slice_get w.records other) refl
choice_replayed w (Device device) slot = deed_replayed w slot (device_step_of w device)
choice_replayed w (Pass ticks) slot = mapped_none w.settings (slice_get w.records slot)

-- a step is the replay of what it does to the process
pub one_step : (w : World) (choice : Choice) (slot : ℕ)
    → slice_get (after w choice).records slot
    ≡ option_map (replay w.settings (events slot w choice)) (slice_get w.records slot)
one_step w choice slot =
    of_stepped (replayed w slot) w choice (mapped_none w.settings (slice_get w.records slot))
    (λ ready. choice_replayed w choice slot)

replay_joined : (settings : Settings) (first then : List Event) (r : Record)
    → replay settings then (replay settings first r) ≡ replay settings (first ++ then) r
replay_joined settings [] then r = refl
replay_joined settings (e ∷ es) then r = replay_joined settings es then (apply settings e r)

replayed_joined : (settings : Settings) (first then : List Event) (o : Option Record)
    → option_map (replay settings then) (option_map (replay settings first) o)
    ≡ option_map (replay settings (first ++ then)) o
replayed_joined settings first then None = refl
replayed_joined settings first then (Some r) = ap Some (replay_joined settings first then r)

pub record_is_replay : RecordIsReplay
record_is_replay w [] slot = mapped_none w.settings (slice_get w.records slot)
record_is_replay w (choice ∷ choices) slot =
    let v = after w choice in
    rw (record_is_replay v choices slot, kept_settings w choice, one_step w choice slot)
    (replayed_joined w.settings (events slot w choice) (history slot v choices) (slice_get w.records slot))

pub same_history_same_record : SameHistorySameRecord
same_history_same_record v w choices others slot place settings records histories =
    rw (record_is_replay v choices slot, histories, records, settings) (sym (record_is_replay w others place))

pub round_follows_choices : RoundFollowsChoices
unfolding round chosen
round_follows_choices zero w = refl
round_follows_choices (suc n) w =
    elim (next w) as (λ o. (on_choice (stays w) (λ choice. runs_on (round n) (stepped w choice)) o).world
    ≡ after_all w (on_choice [] (λ choice. choice ∷ chosen n (after w choice)) o))
    [ None ↦ refl | Some choice ↦ round_follows_choices n (after w choice) ]
