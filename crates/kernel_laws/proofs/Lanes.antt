-- What is read of the labels of one lane, label by label; and that whom a lane serves is of that lane.
use Rattle.std.proofs.lemmas.Bool.{cases_Bool, cond_both}
use Rattle.std.proofs.Common.{inl, inr}
use Rattle.std.proofs.Common.{◌≡◌, ℕ, zero, suc, ◌==◌, List, [], ◌∷◌, ◌++◌, filter, slice_get}
use Rattle.std.proofs.Common.{Some, refl, sym, ap, ◌∙◌, eqb-true}
use Rattle.std.specs.Prelude.{All}
use Rattle.std.specs.List.{flat_map}
use Rattle.std.proofs.lemmas.List.{append_assoc}
use Rattle.std.proofs.lemmas.List.Elements.{All-head, All-tail, filter-append}
use Rattle.tk_base.specs.declared.process.Choice.{Choice}
use Rattle.kernel_model.specs.World.{Label, World, after, labels, may_serve, only_at, only_for}
use Rattle.kernel_model.specs.Named.{lane_by}
use Rattle.kernel_model.specs.Choices.{labels_of_all}
use Rattle.kernel_laws.specs.Words.{of_lane}
use Rattle.kernel_laws.proofs.Turns.{step_same}
use Rattle.partition_turns.specs.Windows.{window_slot}

-- whom a lane serves is of that lane
first_served : (only slot : ℕ) (slots : List ℕ) → slice_get (filter (λ (s : ℕ). s == only) slots) 0 ≡ Some slot
    → slot ≡ only
first_served only slot [] e = absurd (cc)
first_served only slot (s ∷ slots) e =
    elim (cases_Bool (s == only)) [
      | inl is ↦
          let found = rw is at e in
          let same : s ≡ slot = cc in
          sym same ∙ eqb-true s only is
      | inr is ↦ first_served only slot slots (rw is at e)
    ]

pub served_here : (time window slot : ℕ) (slots : List ℕ)
    → slice_get (may_serve (only_at time window) slots) 0 ≡ Some slot
    → lane_by (only_for window slot) ≡ lane_by (only_at time window)
served_here time zero slot slots e = refl
served_here time (suc n) slot slots e = first_served (window_slot time (suc n)) slot slots e

module _ (read : Label → List ℕ) where
  -- what is read of some labels, and then of others
  pub joined : (first then : List Label) → flat_map read (first ++ then) ≡ flat_map read first ++ flat_map read then
  joined [] then = refl
  joined (label ∷ labels) then =
      ap (λ (words : List ℕ). read label ++ words) (joined labels then)
      ∙ sym (append_assoc (read label) (flat_map read labels) (flat_map read then))

  module _ (window lane : ℕ) where
    -- a label of which nothing is read has nothing in any lane
    pub one_silent : (label : Label) → read label ≡ [] → flat_map read (of_lane window lane (label ∷ [])) ≡ []
    one_silent label none =
        cond_both (lane_by (only_for window label.slot) == lane) (label ∷ []) [] (λ ls. flat_map read ls ≡ [])
        (λ e. ap (λ (words : List ℕ). words ++ []) none) (λ e. refl)

    pub tells_none : (ls : List Label) → All (λ label. read label ≡ []) ls → flat_map read (of_lane window lane ls) ≡ []
    tells_none [] none = refl
    tells_none (label ∷ ls) none =
        let rest = tells_none ls (All-tail (λ label. read label ≡ []) label ls none) in
        elim (cases_Bool (lane_by (only_for window label.slot) == lane)) [
          | inl e ↦ rw (e, All-head (λ label. read label ≡ []) label ls none) rest
          | inr e ↦ rw e rest
        ]

  -- what is read in a lane of a step, and then of further choices
  pub lane_joined : (w : World) (choice : Choice) (choices : List Choice) (lane : ℕ)
      → flat_map read (of_lane w.pace.window lane (labels_of_all w (choice ∷ choices)))
      ≡ flat_map read (of_lane w.pace.window lane (labels w choice))
      ++ flat_map read (of_lane (after w choice).pace.window lane (labels_of_all (after w choice) choices))
  lane_joined w choice choices lane =
      let v = after w choice in
      rw (
        filter-append (λ (label : Label). lane_by (only_for w.pace.window label.slot) == lane) (labels w choice)
            (labels_of_all v choices),
        joined (of_lane w.pace.window lane (labels w choice)) (of_lane w.pace.window lane (labels_of_all v choices)),
        (step_same w choice).pace,
      )
