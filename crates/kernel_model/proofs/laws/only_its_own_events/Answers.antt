-- What a step makes of a slot's record is what it tells that slot, by the choice: a turn tells its own slot alone
-- (`ran-own`, `ran-other`), a device's step each slot what its deed says of it (`told_at`), and a pass nobody anything.
-- A step that is not ready leaves all.
use Rattle.std.proofs.Common.{◌≡◌, ℕ, ◌==◌, Option, None, Some, slice_get, refl, ap}
use Rattle.std.proofs.Common.{◌∙◌}
use Rattle.std.proofs.Common.{eqb-true, option_and_then}
use Rattle.std.specs.Option.{option_map}
use Rattle.tk_base.specs.declared.process.Choice.{Choice}
use Rattle.tk_base.specs.declared.process.Choice.TheVariants.{Run, Device, Pass}
use Rattle.kernel_model.specs.Laws.{answer_by}
use Rattle.kernel_model.specs.World.{DeviceStep, Stepped, World, carried_out, device_step_of, done}
use Rattle.kernel_model.specs.Parts.{happens}
use Rattle.kernel_model.specs.World.{Answer}
use Rattle.kernel_model.proofs.Places.{ran-other, ran-own, stepped_else, stepped_ready}
use Rattle.kernel_model.proofs.Told.{told_at}
use Rattle.kernel_model.proofs.laws.only_its_own_events.Goals as goal
use Rattle.std.proofs.lemmas.Bool.{cases_Bool, eqb-true, eqb-false}
use Rattle.std.proofs.Common.{inl, inr}

-- what a step tells, its record is
abbrev Happens : World → ℕ → Option Answer → Stepped → Type 0
Happens w slot answer s =
    slice_get s.after.records slot ≡ option_map (happens w.settings answer) (slice_get w.records slot)

nothing : (w : World) (slot : ℕ) → slice_get w.records slot ≡ option_map (happens w.settings None) (slice_get
    w.records slot)
nothing w slot =
    elim (slice_get w.records slot) as (λ o. o ≡ option_map (happens w.settings None) o) [ None ↦ refl | Some r ↦ refl ]

happened : (w : World) (choice : Choice) (slot : ℕ) → Happens w slot (answer_by w choice slot) (carried_out w choice)
unfolding carried_out
happened w (Run other) slot =
    elim (cases_Bool (slot == other)) [
      | inl e ↦ rw (e, eqb-true slot other e) (ran-own w other (slice_get w.records other) refl)
      | inr e ↦
          rw (e, ran-other w other slot (slice_get w.records other) (eqb-false slot other e)) (nothing w slot)
    ]
happened w (Device device) slot =
    elim (device_step_of w device)
    as (λ o. Happens w slot (option_and_then (λ (deed : DeviceStep). deed.told slot) o) (done w o))
    [ None ↦ nothing w slot | Some deed ↦ told_at w.settings deed.told w.records slot ]
happened w (Pass ticks) slot = nothing w slot

pub returns : goal.returns
returns c = record {
  each = λ w choice slot ready.
      ap (λ (s : Stepped). slice_get s.after.records slot) (stepped_ready w choice ready) ∙ happened w choice slot;
  unready = λ w choice none. (
    ap (λ (s : Stepped). s.after) (stepped_else w choice none),
    ap (λ (s : Stepped). s.labels) (stepped_else w choice none),
  );
}
