-- Who waits first for a device, of those that may be served.
use Rattle.std.proofs.Common.{◌≡◌, ℕ, zero, suc, ◌%◌, ◌==◌, ◌<◌, List, [], ◌∷◌}
use Rattle.std.proofs.Common.{slice_get, is_some, Option, None, Some, refl, sym, ap, subst, ◌∙◌, arith}
use Rattle.std.specs.List.{AllByRecursion}
use Rattle.std.specs.Option.{option_map}
use Rattle.std.proofs.Common.{inl, inr}
use Rattle.std.proofs.lemmas.Bool.{cases_Bool, eqb-true}
use Rattle.std.proofs.lemmas.Bool.Decides.{nat_tests}
use Rattle.tk_base.specs.declared.limits.TheConstants.{SLOT_COUNT}
use Rattle.tk_base.specs.declared.process.ProcessId.{ProcessId}
use Rattle.partition_turns.specs.Windows.{window_slot}
use Rattle.kernel_model.specs.World.{lane_count, may_serve, only_at}
use Rattle.kernel_model.specs.Named.{lane_by}
use Rattle.kernel_model.specs.Parts.{is_waited_for}
use Rattle.driver_requests.specs.Waiting.{first_of}
use Rattle.board_drivers.specs.Driven.{slots_of}

the_one : (x y : ProcessId) → Some x ≡ Some y → x ≡ y
the_one x y e = cc

-- what holds of all that wait holds of the first that is served
pub first_is : (P : ProcessId → Type 0) (only : Option ℕ) (ids : List ProcessId) (id : ProcessId)
    → first_of only ids ≡ Some id → AllByRecursion P ids → P id
first_is P None [] id e all = cc
first_is P None (x ∷ ids) id e all = subst P (the_one x id e) all.0
first_is P (Some only) [] id e all = cc
first_is P (Some only) (x ∷ ids) id e all = elim (cases_Bool (x.slot == only)) [
  | inl is ↦ subst P (the_one x id (rw is at e)) all.0
  | inr not ↦ first_is P (Some only) ids id (rw not at e) all.1
]

-- it is in the slot that alone is served, if one is
first_in_slot : (only : ℕ) (ids : List ProcessId) (id : ProcessId) → first_of (Some only) ids ≡ Some id
    → id.slot ≡ only
first_in_slot only [] id e = cc
first_in_slot only (x ∷ ids) id e = elim (cases_Bool (x.slot == only)) [
  | inl is ↦ sym (ap (λ (y : ProcessId). y.slot) (the_one x id (rw is at e))) ∙ eqb-true x.slot only is
  | inr not ↦ first_in_slot only ids id (rw not at e)
]

-- so its own lane is the one by which it is served
pub first_in_lane : (time window : ℕ) (ids : List ProcessId) (id : ProcessId)
    → first_of (only_at time window) ids ≡ Some id → id.slot < SLOT_COUNT
    → id.slot % lane_count window ≡ lane_by (only_at time window)
first_in_lane time zero ids id e h = omega arith
first_in_lane time (suc n) ids id e h = omega (arith, h, first_in_slot (window_slot time (suc n)) ids id e)

-- there is that lane
pub lane_there : (time window : ℕ) → lane_by (only_at time window) < lane_count window
lane_there time zero = omega arith
lane_there time (suc n) = omega arith

-- the slot of the first is the first of their slots that may be served
pub first_slot : (only : Option ℕ) (ids : List ProcessId)
    → slice_get (may_serve only (slots_of ids)) 0 ≡ option_map (λ (id : ProcessId). id.slot) (first_of only ids)
first_slot None [] = refl
first_slot None (id ∷ ids) = refl
first_slot (Some only) [] = refl
first_slot (Some only) (id ∷ ids) = elim (cases_Bool (id.slot == only)) [
  | inl is ↦ rw is refl
  | inr not ↦ rw not (first_slot (Some only) ids)
]

-- some wait that may be served exactly where there is a first
pub waits_if_first : (only : Option ℕ) (ids : List ProcessId)
    → is_waited_for (may_serve only (slots_of ids)) ≡ is_some (first_of only ids)
waits_if_first only ids =
    some_first (may_serve only (slots_of ids)) ∙ ap is_some (first_slot only ids) ∙ same (first_of only ids)
  where
    some_first : (slots : List ℕ) → is_waited_for slots ≡ is_some (slice_get slots 0)
    some_first [] = refl
    some_first (slot ∷ slots) = grind (arith, nat_tests)

    same : (o : Option ProcessId) → is_some (option_map (λ (id : ProcessId). id.slot) o) ≡ is_some o
    same None = refl
    same (Some id) = refl
