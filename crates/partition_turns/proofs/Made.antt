-- What the next choice is in each case.
use Rattle.std.proofs.Common.{◌≡◌, ℕ, ◌+◌, ◌-◌, Bool, true, false, cond, Option}
use Rattle.std.proofs.Common.{None, Some, refl, subst, arith}
use Rattle.std.specs.Option.{option_map, option_or}
use Rattle.tk_base.specs.declared.process.Choice.{Choice}
use Rattle.tk_base.specs.declared.process.Choice.TheVariants.{Run, Device, Pass}
use Rattle.tk_base.specs.declared.process.Dev.{Dev}
use Rattle.partition_turns.specs.LanesView.{LanesView, slot_is_ready}
use Rattle.partition_turns.specs.Windows.{device_in_window}
use Rattle.partition_turns.specs.Windows.{is_left, passes_to, slot_choice, window_slot}
use Rattle.partition_turns.specs.Laws.{AreAlikeIn, CanBeMadeIn, ChoiceIsOfTheWindow}
use Rattle.partition_turns.specs.Laws.{OtherSlotsDecideNothing, PassEndsInTime, PassesNone}
use Rattle.partition_turns.proofs.Found.{device_ready}
use Rattle.partition_turns.proofs.Passing.{passes_ahead, passes_last, passes_none}
use Rattle.partition_turns.proofs.Rotation.{end_is_near}

-- the choice in the window of a slot, by what it rests on
abbrev pub chosen : ℕ → Option Dev → Bool → Bool → ℕ → Option Choice
chosen slot device ready left ticks =
    option_or (option_map Device device) (cond ready (Some (Run slot)) (cond left (Some (Pass ticks)) None))

made : (l : LanesView) (slot : ℕ) (c : Choice) (device : Option Dev) (ready left : Bool)
    → device_in_window l slot ≡ device → slot_is_ready l slot ≡ ready
    → chosen slot device ready left (passes_to l slot - l.time) ≡ Some c
    → CanBeMadeIn l slot c
made l slot c (Some device) ready left d r h =
    let same : Device device ≡ c = cc in
    subst (CanBeMadeIn l slot) same (device_ready l slot device d)
made l slot c None true left d r h =
    let same : Run slot ≡ c = cc in
    subst (CanBeMadeIn l slot) same (refl, d, r)
made l slot c None false true d r h =
    let same : Pass (passes_to l slot - l.time) ≡ c = cc in
    subst (CanBeMadeIn l slot) same (d, r)
made l slot c None false false d r h = absurd (cc)

made_in : (l : LanesView) (slot : ℕ) (c : Choice) → slot_choice l slot ≡ Some c → CanBeMadeIn l slot c
unfolding slot_choice
made_in l slot c h = made l slot c _ _ (is_left l) refl refl h

pub choice_is_of_the_window : ChoiceIsOfTheWindow
choice_is_of_the_window l c h = made_in l (window_slot l.time l.n) c h

-- how many ticks a Pass takes
ticks_are : (slot : ℕ) (device : Option Dev) (ready left : Bool) (ticks t : ℕ)
    → chosen slot device ready left ticks ≡ Some (Pass t) → t ≡ ticks
ticks_are slot (Some device) ready left ticks t h = absurd (cc)
ticks_are slot None true left ticks t h = absurd (cc)
ticks_are slot None false true ticks t h = cc
ticks_are slot None false false ticks t h = absurd (cc)

ticks_in : (l : LanesView) (slot ticks : ℕ) → slot_choice l slot ≡ Some (Pass ticks)
    → ticks ≡ passes_to l slot - l.time
unfolding slot_choice
ticks_in l slot ticks h =
    ticks_are slot (device_in_window l slot) (slot_is_ready l slot) (is_left l) (passes_to l slot - l.time) ticks h

pub pass_ends_in_time : PassEndsInTime
pass_ends_in_time l ticks some ahead h =
    let slot = window_slot l.time l.n in
    let none = (made_in l slot (Pass ticks) h).0 in
    let is = ticks_in l slot ticks h in
    let after = passes_ahead l some ahead none in
    let leads : passes_to l slot ≡ l.time + ticks = omega (arith, is, after) in
    let passes : PassesNone l slot (l.time + ticks) = subst (PassesNone l slot) leads (passes_none l slot) in
    let near = end_is_near l.time l.n some in
    record {
      some = omega (arith, is, after);
      few = omega (arith, near, passes.window);
      passes_none = passes;
      last = λ to h. (let most = passes_last l slot to h in omega (arith, most, leads));
    }

-- where the rest is alike, what is left decides no choice but whether there is one
same_chosen : (slot : ℕ) (device : Option Dev) (ready left left' : Bool) (ticks : ℕ) (c d : Choice)
    → chosen slot device ready left ticks ≡ Some c → chosen slot device ready left' ticks ≡ Some d → c ≡ d
same_chosen slot (Some device) ready left left' ticks c d h k = cc
same_chosen slot None true left left' ticks c d h k = cc
same_chosen slot None false true true ticks c d h k = cc
same_chosen slot None false false left' ticks c d h k = absurd (cc)
same_chosen slot None false left false ticks c d h k = absurd (cc)

alike_device : (l m : LanesView) (slot : ℕ) → AreAlikeIn slot l m → device_in_window l slot ≡ device_in_window m slot
unfolding device_in_window
alike_device l m slot h = let event = h.event_ready in let lane = h.lane in rw (event, lane) refl

alike_to : (l m : LanesView) (slot : ℕ) → AreAlikeIn slot l m → passes_to l slot ≡ passes_to m slot
unfolding passes_to
alike_to l m slot h =
    let time = h.time in let n = h.n in let event = h.event_at in let alarm = h.alarm in let uart = h.uart in
    rw (time, n, event, alarm, uart) refl

alike : (l m : LanesView) (slot : ℕ) (c d : Choice) → AreAlikeIn slot l m → slot_choice l slot ≡ Some c
    → slot_choice m slot ≡ Some d → c ≡ d
unfolding slot_choice
alike l m slot c d h left right =
    let device = alike_device l m slot h in
    let ready = h.slot_ready in
    let to = alike_to l m slot h in
    let time = h.time in
    let ticks : passes_to l slot - l.time ≡ passes_to m slot - m.time = omega (arith, to, time) in
    same_chosen slot (device_in_window l slot) (slot_is_ready l slot) (is_left l) (is_left m)
    (passes_to l slot - l.time) c d left (rw (device, ready, ticks) right)

pub other_slots_decide_nothing : OtherSlotsDecideNothing
other_slots_decide_nothing l m c d h left right =
    let time = h.time in let n = h.n in
    let same : window_slot m.time m.n ≡ window_slot l.time l.n = rw (time, n) refl in
    alike l m (window_slot l.time l.n) c d h left (rw (← same) right)
