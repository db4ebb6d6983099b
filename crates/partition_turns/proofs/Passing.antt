-- Up to when time passes.
use Rattle.std.proofs.Common.{◌≡◌, ℕ, ◌+◌, ◌<◌, ◌≤◌, Option, None, Some, refl, arith}
use Rattle.std.specs.Option.{ForSome}
use Rattle.tk_base.specs.declared.process.Dev.{Dev}
use Rattle.tk_base.specs.declared.process.Dev.TheVariants.{Event, Alarm, Uart}
use Rattle.partition_turns.specs.LanesView.{LanesView, alarm_time, uart_time}
use Rattle.partition_turns.specs.Windows.{AreAhead, earlier, ready_time, passes_to, device_in_window, window_end}
use Rattle.partition_turns.specs.Windows.{window_slot}
use Rattle.partition_turns.specs.Laws.{PassesNone}
use Rattle.partition_turns.proofs.Found.{devices_none}
use Rattle.partition_turns.proofs.Rotation.{end_is_ahead}

-- the earlier of two times is no later than either, and no earlier than what is no later than both
earlier-first : (o : Option ℕ) (time : ℕ) → ForSome o (λ at. earlier o time ≤ at)
earlier-first None time at is = absurd (cc)
earlier-first (Some first) time at is = let same : first ≡ at = cc in omega (arith, same)

earlier-second : (o : Option ℕ) (time : ℕ) → earlier o time ≤ time
earlier-second None time = omega arith
earlier-second (Some first) time = omega arith

earlier-both : (to : ℕ) (o : Option ℕ) (time : ℕ) → ForSome o (λ at. to ≤ at) → to ≤ time → to ≤ earlier o time
earlier-both to None time first second = second
earlier-both to (Some at) time first second =
    let upto : to ≤ at = first at refl in
    omega (arith, upto, second)

module _ (l : LanesView) (slot : ℕ) where
  abbrev free : ℕ
  free = earlier (uart_time l slot) (window_end l.time l.n)

  abbrev due : ℕ
  due = earlier (alarm_time l slot) free

  abbrev to : ℕ
  to = earlier l.event_at due

  to-devices : (device : Dev) → ForSome (ready_time l slot device) (λ at. to ≤ at)
  to-devices Event at is = earlier-first l.event_at due at is
  to-devices Alarm at is =
      let first = earlier-second l.event_at due in
      let second = earlier-first (alarm_time l slot) free at is in
      omega (arith, first, second)
  to-devices Uart at is =
      let first = earlier-second l.event_at due in
      let second = earlier-second (alarm_time l slot) free in
      let third = earlier-first (uart_time l slot) (window_end l.time l.n) at is in
      omega (arith, first, second, third)
  to-devices device at is = absurd (cc)

  to-window : to ≤ window_end l.time l.n
  to-window =
      let first = earlier-second l.event_at due in
      let second = earlier-second (alarm_time l slot) free in
      let third = earlier-second (uart_time l slot) (window_end l.time l.n) in
      omega (arith, first, second, third)

  to-last : (t : ℕ) → PassesNone l slot t → t ≤ to
  to-last t h =
      earlier-both t l.event_at due (h.devices Event)
      (earlier-both t (alarm_time l slot) free (h.devices Alarm)
      (earlier-both t (uart_time l slot) (window_end l.time l.n) (h.devices Uart) h.window))

-- it passes none of these times, and is the last that passes none
pub passes_none : (l : LanesView) (slot : ℕ) → PassesNone l slot (passes_to l slot)
unfolding passes_to
passes_none l slot = record { window = to-window l slot; devices = to-devices l slot }

pub passes_last : (l : LanesView) (slot t : ℕ) → PassesNone l slot t → t ≤ passes_to l slot
unfolding passes_to
passes_last l slot t h = to-last l slot t h

-- it lies ahead
pub passes_ahead : (l : LanesView) → 1 ≤ l.n → AreAhead l → device_in_window l (window_slot l.time l.n) ≡ None
    → l.time < passes_to l (window_slot l.time l.n)
passes_ahead l some ahead none =
    let slot = window_slot l.time l.n in
    let later : (device : Dev) → ForSome (ready_time l slot device) (λ at. l.time + 1 ≤ at) =
    λ device at is. (let after = ahead device (devices_none l slot none device) at is in omega (arith, after)) in
    let end = end_is_ahead l.time l.n some in
    let reached = passes_last l slot (l.time + 1) (record { window = omega (arith, end); devices = later }) in
    omega (arith, reached)
