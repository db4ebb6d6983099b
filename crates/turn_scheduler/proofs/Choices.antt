-- What the next choice is in each case.
use Rattle.std.proofs.Common.{◌≡◌, ℕ, ◌+◌, ◌-◌, ◌<◌, Bool, true, false, nat_lt, List, find}
use Rattle.std.proofs.Common.{Option, Some, None, refl, sym, ap, subst, ◌∙◌, inl, inr, arith}
use Rattle.std.specs.List.{range_with_len}
use Rattle.std.specs.Option.{option_or, option_map}
use Rattle.std.proofs.lemmas.Bool.{cases_lt}
use Rattle.std.proofs.lemmas.List.Folds.{find-append}
use Rattle.tk_base.specs.declared.limits.TheConstants.{SLOT_COUNT}
use Rattle.tk_base.specs.declared.process.Choice.{Choice}
use Rattle.tk_base.specs.declared.process.Choice.TheVariants.{Run, Device, Pass}
use Rattle.tk_base.specs.declared.process.Dev.{Dev}
use Rattle.partition_turns.proofs.Found.{find-passes}
use Rattle.turn_scheduler.specs.Situation.{Situation}
use Rattle.turn_scheduler.specs.RoundRobin.{device_place, device_order, slots_after, next_slot}
use Rattle.turn_scheduler.specs.Parts.{place_is_ready}
use Rattle.turn_scheduler.specs.Parts.{goes_on}
use Rattle.turn_scheduler.specs.RoundRobin.{ready_device, choice, IsNextAhead}
use Rattle.turn_scheduler.specs.Laws.{CanBeMade, ChoiceIsReady, PresentGoesOn}
use Rattle.turn_scheduler.proofs.Order.{time_ahead}
use Rattle.turn_scheduler.proofs.Waiting.{find_range-none}
use Rattle.std.proofs.lemmas.Bool.{cases_Bool, and_parts, lt-ltb}
use Rattle.std.proofs.lemmas.Option.{same_Some}

device_is_ready : (devices : List Bool) (device : Dev) → ready_device devices ≡ Some device
    → place_is_ready devices (device_place device) ≡ true
unfolding ready_device
device_is_ready devices device h = find-passes (λ d. place_is_ready devices (device_place d)) device_order device h

slot_is_ready : (ready : List Bool) (present : Option ℕ) (used slice slot : ℕ)
    → next_slot ready present used slice ≡ Some slot → place_is_ready ready slot ≡ true
unfolding next_slot
slot_is_ready ready present used slice slot h =
    elim (cases_Bool (goes_on ready present used slice)) [
      | inl e ↦ on present e (rw e at h)
      | inr e ↦ find-passes (place_is_ready ready) (slots_after present) slot (rw e at h)
    ]
  where
    on : (o : Option ℕ) → goes_on ready o used slice ≡ true → o ≡ Some slot → place_is_ready ready slot ≡ true
    on None e h = absurd (cc)
    on (Some q) e h = rw (← same_Some q slot h) (and_parts (place_is_ready ready q) (nat_lt used slice) e).0

-- where no slot has the turn, none is ready
none_in_order : (p : ℕ → Bool) (present : Option ℕ) → find p (slots_after present) ≡ None → (slot : ℕ)
    → slot < SLOT_COUNT → p slot ≡ false
none_in_order p None h slot lt = find_range-none p 0 SLOT_COUNT h slot (omega arith) (omega arith)
none_in_order p (Some present) h slot lt =
    let parts = neither (find p (range_with_len (present + 1) (SLOT_COUNT - (present + 1)))) _
    (sym (find-append p (range_with_len (present + 1) (SLOT_COUNT - (present + 1)))
    (range_with_len 0 (present + 1))) ∙ h) in
    elim (cases_lt present slot) [
      | inl less ↦
          find_range-none p (present + 1) (SLOT_COUNT - (present + 1)) parts.0 slot (omega arith) (omega arith)
      | inr more ↦ find_range-none p 0 (present + 1) parts.1 slot (omega arith) (omega arith)
    ]
  where
    neither : (after up_to : Option ℕ) → option_or after up_to ≡ None → (after ≡ None) × (up_to ≡ None)
    neither None up_to e = (refl, e)
    neither (Some q) up_to e = absurd (cc)

no_slot_is_ready : (ready : List Bool) (present : Option ℕ) (used slice : ℕ) → next_slot ready present used slice ≡ None
    → (slot : ℕ) → slot < SLOT_COUNT → place_is_ready ready slot ≡ false
unfolding next_slot
no_slot_is_ready ready present used slice h =
    elim (cases_Bool (goes_on ready present used slice)) [
      | inl e ↦ absurd (on present e (rw e at h))
      | inr e ↦ none_in_order (place_is_ready ready) present (rw e at h)
    ]
  where
    on : (o : Option ℕ) → goes_on ready o used slice ≡ true → o ≡ None → ⊥
    on None e h = cc
    on (Some q) e h = cc

made : (s : Situation) (c : Choice) (device : Option Dev) (slot next : Option ℕ) → ready_device s.devices ≡ device
    → next_slot s.ready s.present s.used s.slice ≡ slot → s.next ≡ next → IsNextAhead s
    → option_or (option_map Device device)
    (option_or (option_map Run slot) (option_map (λ at. Pass (at - s.time)) next)) ≡ Some c → CanBeMade s c
made s c (Some device) slot next d n t ahead h =
    let same : Device device ≡ c = cc in
    subst (CanBeMade s) same (device_is_ready s.devices device d)
made s c None (Some slot) next d n t ahead h =
    let same : Run slot ≡ c = cc in
    subst (CanBeMade s) same (d, slot_is_ready s.ready s.present s.used s.slice slot n)
made s c None None (Some at) d n t ahead h =
    let same : Pass (at - s.time) ≡ c = cc in
    let later = time_ahead s at d t ahead in
    let leads : at ≡ s.time + (at - s.time) = omega (arith, later.0) in
    subst (CanBeMade s) same (
      d,
      no_slot_is_ready s.ready s.present s.used s.slice n,
      t ∙ ap Some leads,
      omega (arith, later.0),
      later.1,
    )
made s c None None None d n t ahead h = absurd (cc)

pub choice_is_ready : ChoiceIsReady
unfolding choice
choice_is_ready s c ahead h = made s c _ _ _ refl refl refl ahead h

next_slot-on : (ready : List Bool) (o : Option ℕ) (used slice slot : ℕ) → o ≡ Some slot
    → place_is_ready ready slot ≡ true → used < slice → next_slot ready o used slice ≡ Some slot
unfolding next_slot
next_slot-on ready o used slice slot e r lt = rw (e, r, lt-ltb used slice lt)

pub present_goes_on : PresentGoesOn
unfolding choice
present_goes_on s slot none e r lt = rw (none, next_slot-on s.ready s.present s.used s.slice slot e r lt)
