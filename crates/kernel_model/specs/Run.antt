-- Runs: a fold of steps by the round robin's choices. The order is after Tock's round robin; passes of time are this
-- board's own rule, and so are time partitions.
use Rattle.std.specs.Prelude.{ℕ, zero, suc, ◌+◌, ◌*◌, ◌/◌, Bool, false, ◌||◌, if◌then◌else◌, List, [], ◌++◌, find, map}
use Rattle.std.specs.Prelude.{slice_get}
use Rattle.std.specs.Prelude.{slice_index_or, slice_set, Option, None, Some, is_none, is_some, option_map, unwrap_or}
use Rattle.std.specs.List.{flat_map, range_with_len}
use Rattle.tk_base.specs.declared.limits.TheConstants.{SLOT_COUNT}
use Rattle.tk_base.specs.declared.process.Choice.{Choice}
use Rattle.turn_scheduler.specs.Situation.{Situation}
use Rattle.turn_scheduler.specs.RoundRobin.{choice as chosen, device_order, ready_device}
use Rattle.driver_model.specs.Alarm.{nearer}
use Rattle.kernel_model.specs.Turn.{may_turn}
use Rattle.kernel_model.specs.World.{World, Label, Stepped, only_in, stepped, work_in}

-- of flags of the slots those of slots that may have a turn: all, or that of the one that alone is served
abbrev pub may_go : Option ℕ → List Bool → List Bool
may_go None flags = flags
may_go (Some only) flags = slice_set (map (λ flag. false) flags) only (slice_index_or flags only false)

-- whether anything is left to do for a slot: its process can have a turn, or a device step is ready for it, or becomes
-- so
abbrev pub is_left_for : World → ℕ → Bool
is_left_for w slot =
    let work = work_in w (Some slot) in
    unwrap_or (option_map may_turn (slice_get w.records slot)) false
    || (is_some (ready_device (map work.ready device_order)) || is_some work.next)

-- and for any slot
unfoldable pub is_left : World → Bool
is_left w = is_some (find (is_left_for w) (range_with_len 0 SLOT_COUNT))

-- Up to when time passes where nothing is ready: to the nearest time at which a device step becomes so; with time
-- partitions no further than to the window's end, and as long as anything is left to do for any slot.
abbrev pub passes_to : World → ℕ → Option ℕ
passes_to w zero = (work_in w (only_in w)).next
passes_to w (suc n) =
    if is_left w then nearer (work_in w (only_in w)).next (Some ((w.clock.time / suc n + 1) * suc n)) else None

-- What the round robin reads of a world; with time partitions that of the slot whose window it is, as if it were alone.
abbrev pub situation_of : World → Situation
situation_of w = record {
  ready = may_go (only_in w) (map may_turn w.records);
  devices = map (work_in w (only_in w)).ready device_order;
  next = passes_to w w.pace.window;
  time = w.clock.time;
  present = w.present.slot;
  used = w.present.used;
  slice = w.pace.slice;
}

-- which slots can have a turn
abbrev pub ready_slots : World → List Bool
ready_slots w = (situation_of w).ready

-- which device steps are ready, in their order
abbrev pub ready_devices : World → List Bool
ready_devices w = (situation_of w).devices

-- when the next device step becomes ready by itself
abbrev pub next_time : World → Option ℕ
next_time w = (situation_of w).next

-- the next choice of the round robin; none where nothing is ready, and nothing becomes so by itself
unfoldable pub next : World → Option Choice
next w = chosen (situation_of w)

-- a run: where it led, and what its steps told, in order
pub record Ran : Type 0 where
  pub world : World
  pub labels : List Label

-- a run without steps
abbrev pub stays : World → Ran
stays w = record { world = w; labels = [] }

-- a step, and then a run from where it led
abbrev pub runs_on : (World → Ran) → Stepped → Ran
runs_on run s = let r = run s.after in record r { labels = s.labels ++ r.labels }

-- the run of n steps by the round robin; shorter where no choice is left
unfoldable pub round : ℕ → World → Ran
round zero w = stays w
round (suc n) w = unwrap_or (option_map (λ choice. runs_on (round n) (stepped w choice)) (next w)) (stays w)

-- whether nothing is left to do
abbrev pub is_over : World → Bool
is_over w = is_none (next w)

-- the bytes that a run printed
abbrev pub printed : List Label → List ℕ
printed labels = flat_map (λ label. label.printed) labels
