-- How many upcalls of a process were dropped in a run (TRD 104, "Subscribe", "Yield"). That each is counted is this
-- board's own rule.
use Rattle.std.specs.Prelude.{◌≡◌, ℕ, ◌+◌, ◌==◌, Bool, not, ◌&&◌, if◌then◌else◌, List, [], ◌∷◌, slice_get, Option, None}
use Rattle.std.specs.Prelude.{Some, option_map, unwrap_or}
use Rattle.tk_base.specs.declared.process.Choice.{Choice}
use Rattle.tk_base.specs.declared.upcall.Upcall.{Upcall as Scheduled}
use Rattle.upcall_queue.specs.declared.inbox.Inbox.{Inbox}
use Rattle.upcall_queue.specs.Pending.{awaits, has_room}
use Rattle.kernel_model.specs.World.{World, after}
use Rattle.kernel_model.specs.Replay.{after_all}
use Rattle.kernel_laws.specs.Scheduled.{step_schedules}

-- whether an upcall that is scheduled is dropped: the process does not wait for it alone, it is not the null upcall,
-- and as many upcalls wait as may
abbrev pub is_dropped : Inbox → Scheduled → Bool
is_dropped inbox upcall =
    not (awaits inbox.wait upcall) && (not (upcall.function == 0) && not (has_room inbox.pending))

-- how many are dropped of what is scheduled for a process, which is one upcall at most: 1 or 0
abbrev pub drops_by : Option Scheduled → Inbox → ℕ
drops_by None inbox = 0
drops_by (Some upcall) inbox = if is_dropped inbox upcall then 1 else 0

-- the same of what a step schedules for the process in a slot, by what was scheduled for it before the step
abbrev pub drops_in : ℕ → World → Choice → ℕ
drops_in slot w choice =
    unwrap_or (option_map (λ r. drops_by (step_schedules slot w choice) r.own.inbox) (slice_get w.records slot)) 0

-- how many are dropped in some choices, one after another
abbrev pub drops_of : ℕ → World → List Choice → ℕ
drops_of slot w [] = 0
drops_of slot w (choice ∷ choices) = drops_in slot w choice + drops_of slot (after w choice) choices

-- the count of dropped upcalls that the process in a slot has, if there is one
abbrev pub dropped_in : ℕ → World → Option ℕ
dropped_in slot w = option_map (λ r. r.own.inbox.dropped) (slice_get w.records slot)

-- After any choices the count of dropped upcalls of each process is what it was before, and as many more as steps among
-- these choices scheduled an upcall for it that was dropped.
abbrev pub DropsAddUp : Type 0
DropsAddUp = (w : World) (choices : List Choice) (slot : ℕ) →
    dropped_in slot (after_all w choices)
    ≡ option_map (λ dropped. dropped + drops_of slot w choices) (dropped_in slot w)
