-- In the window of a slot that is ready each tick is a turn of it.
use Rattle.std.proofs.Common.{◌≡◌, ℕ, ◌+◌, ◌-◌, ◌*◌, ◌/◌, ◌%◌, Bool, true, false}
use Rattle.std.proofs.Common.{[], ◌∷◌, Option, None, Some, refl, ap, eq-eqb, ◌∙◌, arith, div-add-mod'}
use Rattle.std.proofs.lemmas.List.Elements.{All-tail}
use Rattle.tk_base.specs.declared.process.Dev.{Dev}
use Rattle.partition_turns.specs.LanesView.{LanesView, slot_is_ready}
use Rattle.partition_turns.specs.Windows.{device_in_window, is_left, passes_to, slot_choice, window_choice}
use Rattle.partition_turns.specs.Windows.{window_end, window_slot}
use Rattle.partition_turns.specs.Turns.{EachTickIsATurn, IsInOwnWindow, ReadyHasItsWindow, ticks_of}
use Rattle.partition_turns.specs.Turns.{turns_by}
use Rattle.partition_turns.proofs.Made.{chosen}

tick_chosen : (slot : ℕ) (device : Option Dev) (ready left : Bool) (ticks : ℕ) → ready ≡ true
    → ticks_of (chosen slot device ready left ticks) ≡ turns_by slot (chosen slot device ready left ticks)
tick_chosen slot (Some device) ready left ticks is = refl
tick_chosen slot None true left ticks is = rw (eq-eqb slot slot refl)
tick_chosen slot None false left ticks is = absurd (cc)

tick_in : (l : LanesView) (slot : ℕ) → slot_is_ready l slot ≡ true
    → ticks_of (slot_choice l slot) ≡ turns_by slot (slot_choice l slot)
unfolding slot_choice
tick_in l slot is =
    tick_chosen slot (device_in_window l slot) (slot_is_ready l slot) (is_left l) (passes_to l slot - l.time) is

tick_is_turn : (slot n : ℕ) (l : LanesView) → IsInOwnWindow slot n l
    → ticks_of (window_choice l) ≡ turns_by slot (window_choice l)
tick_is_turn slot n l h =
    let same : window_slot l.time l.n ≡ slot = ap (λ (each : ℕ). window_slot l.time each) h.each ∙ h.window in
    rw same (tick_in l slot h.ready)

pub each_tick_is_a_turn : EachTickIsATurn
each_tick_is_a_turn slot n from to [] leads ready = omega (arith, leads)
each_tick_is_a_turn slot n from to (l ∷ rest) leads ready =
    let later = each_tick_is_a_turn slot n (from + ticks_of (window_choice l)) to rest leads.1
    (All-tail (IsInOwnWindow slot n) l rest ready) in
    let now = tick_is_turn slot n l (ready 0 l (omega arith)) in
    omega (arith, later, now)

-- a window that begins has all of its ticks ahead
whole_ahead : (n from : ℕ) → from % n ≡ 0 → window_end from n ≡ from + n
whole_ahead n from first =
    let parts : from / n * n + from % n ≡ from = div-add-mod' from n in
    let split : (from / n + 1) * n ≡ from / n * n + n = grind arith in
    omega (arith, parts, first, split)

pub ready_has_its_window : ReadyHasItsWindow
ready_has_its_window slot n from steps some first leads ready =
    let turns = each_tick_is_a_turn slot n from (window_end from n) steps leads ready in
    let whole = whole_ahead n from first in
    omega (arith, turns, whole)
