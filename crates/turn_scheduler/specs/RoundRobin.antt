-- Round robin: first a device that is ready; else the present process while its slice lasts; else the processes in
-- turn, the present one last; else time passes until a device becomes ready. The turns are after Tock's round robin;
-- that a process which waits, and goes on before another had a turn, has the rest of its slice, the devices' order and
-- the passes are this board's own rule.
use Rattle.std.specs.Prelude.{◌≡◌, ◌<◌, ◌^◌, ℕ, ◌+◌, ◌-◌, ◌==◌, Bool, false, ◌&&◌, nat_lt, if◌then◌else◌, List, [], ◌∷◌}
use Rattle.std.specs.Prelude.{◌++◌, find, slice_index_or, unwrap_or, Option, None, Some}
use Rattle.std.specs.List.{range_with_len}
use Rattle.std.specs.Option.{option_map, option_or, ForSome}
use Rattle.tk_base.specs.declared.limits.TheConstants.{SLOT_COUNT}
use Rattle.tk_base.specs.declared.process.Choice.{Choice}
use Rattle.tk_base.specs.declared.process.Choice.TheVariants.{Run, Device, Pass}
use Rattle.tk_base.specs.declared.process.Dev.{Dev}
pub use Rattle.partition_turns.specs.Windows.{device_order, device_place}
use Rattle.turn_scheduler.specs.Situation.{Situation}

-- the first device step that is ready; what a table lacks is not ready
unfoldable pub ready_device : List Bool → Option Dev
ready_device devices = find (λ device. slice_index_or devices (device_place device) false) device_order

-- all slots in cyclic order after the present one, which is the last
abbrev pub slots_after : Option ℕ → List ℕ
slots_after None = range_with_len 0 SLOT_COUNT
slots_after (Some present) = range_with_len (present + 1) (SLOT_COUNT - (present + 1)) ++ range_with_len 0 (present + 1)

-- the slot that has the next turn of a process: the present one, where it is ready and its slice lasts; else the first
-- that is ready
unfoldable pub next_slot : List Bool → Option ℕ → ℕ → ℕ → Option ℕ
next_slot ready present used slice =
    let goes_on = unwrap_or (option_map (λ slot. slice_index_or ready slot false && nat_lt used slice) present) false in
    if goes_on then present else find (λ slot. slice_index_or ready slot false) (slots_after present)

-- the next step, or none
unfoldable pub choice : Situation → Option Choice
choice s =
    option_or (option_map Device (ready_device s.devices))
    (option_or (option_map Run (next_slot s.ready s.present s.used s.slice))
    (option_map (λ at. Pass (at - s.time)) s.next))

-- a time lies ahead of another, and a Pass leads to it
abbrev pub LiesAhead : ℕ → ℕ → Type 0
LiesAhead time at = (time < at) × (at - time < 2 ^ 32)

-- Where no device step is ready, the time at which one becomes ready lies ahead.
abbrev pub IsNextAhead : Situation → Type 0
IsNextAhead s = ready_device s.devices ≡ None → ForSome s.next (LiesAhead s.time)

-- How many turns of its slice a slot has used after one more: the present slot goes on with its slice while it lasts;
-- else a slice begins.
abbrev pub used_after : Option ℕ → ℕ → ℕ → ℕ → ℕ
used_after None used slice slot = 1
used_after (Some present) used slice slot = if (present == slot) && nat_lt used slice then used + 1 else 1
