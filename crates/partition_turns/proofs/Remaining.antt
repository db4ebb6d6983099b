-- Where nothing is left to do.
use Rattle.std.proofs.Common.{◌≡◌, ℕ, ◌+◌, ◌-◌, ◌/◌, ◌<◌, Bool, true, false, find}
use Rattle.std.proofs.Common.{Option, None, Some, is_some, refl, sym, ap, ◌∙◌, arith}
use Rattle.std.specs.List.{range_with_len}
use Rattle.std.proofs.Math.Nat.{mod-lt}
use Rattle.tk_base.specs.declared.limits.TheConstants.{SLOT_COUNT}
use Rattle.tk_base.specs.declared.process.Dev.{Dev}
use Rattle.tk_base.specs.declared.process.Dev.TheVariants.{Event, Alarm, Uart}
use Rattle.partition_turns.specs.LanesView.{LanesView, alarm_time, slot_is_ready, uart_time}
use Rattle.partition_turns.specs.Windows.{device_in_window, is_left, is_left_in, passes_to}
use Rattle.partition_turns.specs.Windows.{ready_time, slot_choice, window_slot}
use Rattle.partition_turns.specs.Laws.{NoneExactlyWhereAllIsDone, AllIsDone}
use Rattle.partition_turns.proofs.Found.{devices_none, find_range-none, none-devices, none-find_range}
use Rattle.partition_turns.proofs.Made.{chosen}
use Rattle.std.proofs.lemmas.Bool.{or_parts, or_from}

-- none of four
record NoneOf (a b c d : Bool) : Type 0 where
  one : a ≡ false
  two : b ≡ false
  three : c ≡ false
  four : d ≡ false

is_none : {Y : Type 0} (o : Option Y) → is_some o ≡ false → o ≡ None
is_none None is = refl
is_none (Some y) is = absurd (grind arith)

-- of a slot
nothing_in : (l : LanesView) (slot : ℕ) → is_left_in l slot ≡ false
    → NoneOf (slot_is_ready l slot) (is_some (device_in_window l slot)) (is_some (alarm_time l slot))
    (is_some (uart_time l slot))
nothing_in l slot h =
    let one = or_parts _ _ h in
    let two = or_parts _ _ one.1 in
    let three = or_parts _ _ two.1 in
    record { one = one.0; two = two.0; three = three.0; four = three.1 }

nothing_left : (l : LanesView) → is_left l ≡ false → AllIsDone l
unfolding is_left
nothing_left l h =
    let both : (is_some l.event_at ≡ false)
    × (is_some (find (is_left_in l) (range_with_len 0 SLOT_COUNT)) ≡ false) = or_parts _ _ h in
    let each : (slot : ℕ) → slot < SLOT_COUNT → is_left_in l slot ≡ false =
    λ slot below. (let same : 0 + slot ≡ slot = omega arith in
    ap (is_left_in l) (sym same) ∙ find_range-none (is_left_in l) 0 SLOT_COUNT both.1 slot below) in
    record {
      slots = λ slot below. (nothing_in l slot (each slot below)).one;
      devices = λ slot device below.
          devices_none l slot (is_none _ (nothing_in l slot (each slot below)).two) device;
      times = λ slot device below. times slot (is_none _ both.0) (nothing_in l slot (each slot below)) device;
    }
  where
    times : (slot : ℕ) → l.event_at ≡ None
        → NoneOf (slot_is_ready l slot) (is_some (device_in_window l slot)) (is_some (alarm_time l slot))
        (is_some (uart_time l slot)) → (device : Dev) → ready_time l slot device ≡ None
    times slot event h Event = event
    times slot event h Alarm = is_none _ h.three
    times slot event h Uart = is_none _ h.four
    times slot event h device = refl

none_left : (l : LanesView) → AllIsDone l → is_left l ≡ false
unfolding is_left
none_left l h =
    let some : 0 < SLOT_COUNT = omega arith in
    let event : l.event_at ≡ None = h.times 0 Event some in
    let slots : is_some (find (is_left_in l) (range_with_len 0 SLOT_COUNT)) ≡ false =
    none-find_range (is_left_in l) 0 SLOT_COUNT
    (λ i below.
    let same : 0 + i ≡ i = omega arith in
    let ready : slot_is_ready l i ≡ false = h.slots i below in
    let device : device_in_window l i ≡ None = none-devices l i (λ device. h.devices i device below) in
    let alarm : alarm_time l i ≡ None = h.times i Alarm below in
    let uart : uart_time l i ≡ None = h.times i Uart below in
    ap (is_left_in l) same ∙ rw (ready, device, alarm, uart) refl) in
    or_from _ _ (ap is_some event) slots

none_chosen : (l : LanesView) (slot : ℕ) (device : Option Dev) (ready left : Bool) (ticks : ℕ) → is_left l ≡ left
    → chosen slot device ready left ticks ≡ None → AllIsDone l
none_chosen l slot (Some device) ready left ticks is h = absurd (cc)
none_chosen l slot None true left ticks is h = absurd (cc)
none_chosen l slot None false true ticks is h = absurd (cc)
none_chosen l slot None false false ticks is h = nothing_left l is

none_in : (l : LanesView) (slot : ℕ) → slot_choice l slot ≡ None → AllIsDone l
unfolding slot_choice
none_in l slot h =
    none_chosen l slot (device_in_window l slot) (slot_is_ready l slot) _ (passes_to l slot - l.time) refl h

in_none : (l : LanesView) (slot : ℕ) → slot < SLOT_COUNT → AllIsDone l → slot_choice l slot ≡ None
unfolding slot_choice
in_none l slot below h =
    let device : device_in_window l slot ≡ None = none-devices l slot (λ device. h.devices slot device below) in
    let ready : slot_is_ready l slot ≡ false = h.slots slot below in
    let left : is_left l ≡ false = none_left l h in
    rw (device, ready, left) refl

pub none_exactly : NoneExactlyWhereAllIsDone
none_exactly l =
    let some : 0 < SLOT_COUNT = omega arith in
    let below : window_slot l.time l.n < SLOT_COUNT = mod-lt (l.time / l.n) some in
    (λ h. none_in l (window_slot l.time l.n) h, λ h. in_none l (window_slot l.time l.n) below h)
