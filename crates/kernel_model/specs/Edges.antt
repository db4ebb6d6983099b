-- What edges of buttons schedule, step by step (TRD 104, "Subscribe", "Yield"; the buttons are Tock's driver 0x3): an
-- edge of which a process is told schedules one upcall for it, and nothing else schedules any. When edges come is this
-- board's own rule.
use Rattle.std.specs.Prelude.{◌≡◌, ◌≢◌, ◌≤◌, ◌<◌, ◌⊎◌, ℕ, ◌+◌, Bool, true, false, if◌then◌else◌, List, [], ◌∷◌}
use Rattle.std.specs.Prelude.{◌++◌, drop}
use Rattle.std.specs.Prelude.{filter}
use Rattle.std.specs.Prelude.{length, slice_get, Option, None, Some, IfSome, option_and_then, option_map, unwrap_or}
use Rattle.std.specs.List.{cons_option}
use Rattle.std.specs.Option.{option_map_or}
use Rattle.tk_base.specs.Bits.{bit_of, with_bit}
use Rattle.tk_base.specs.declared.limits.TheConstants.{PENDING_LIMIT}
use Rattle.tk_base.specs.declared.process.Choice.{Choice}
use Rattle.tk_base.specs.declared.process.Choice.TheVariants.{Device}
use Rattle.tk_base.specs.declared.process.Dev.TheVariants as dev
use Rattle.tk_base.specs.declared.upcall.Upcall.{Upcall as Scheduled}
use Rattle.tk_base.specs.declared.upcall.Wait.TheVariants.{Given}
use Rattle.script_text.specs.Settings.{ScriptEvent as Arrival}
use Rattle.board_devices.specs.Arriving.{change_by}
use Rattle.upcall_queue.specs.declared.inbox.Inbox.{Inbox}
use Rattle.upcall_queue.specs.Pending.{awaits, is_of, scheduled}
use Rattle.process_model.specs.Own.{Own}
use Rattle.process_model.specs.Served.{own_scheduled}
use Rattle.driver_model.specs.Buttons.{buttons, is_told}
use Rattle.kernel_model.specs.Record.{Record}
use Rattle.kernel_model.specs.World.{World, after, is_ready}
use Rattle.kernel_model.specs.Choices.{OfEachProcess}
use Rattle.kernel_model.specs.Named.{pressed_by}

-- what comes in by a choice: the first thing that is still to, if it is the step that lets it in
abbrev pub first_for : Choice → List Arrival → Option Arrival
first_for (Device dev.Event) arrivals = slice_get arrivals 0
first_for other arrivals = None

-- what comes in by a step, if anything does
abbrev pub arrival_in : World → Choice → Option Arrival
arrival_in w choice = if is_ready w choice then first_for choice w.devices.arrivals else None

-- the edge that a step is for a process: a button and the state that it then has, where it had another one for it
abbrev pub edge_in : World → Choice → Record → Option (ℕ × Bool)
edge_in w choice r = option_and_then (λ arrival. change_by arrival.kind r.pressed) (arrival_in w choice)

-- what comes in by some choices, one after another
abbrev pub arrivals_in : World → List Choice → List Arrival
arrivals_in w [] = []
arrivals_in w (choice ∷ choices) = cons_option (arrival_in w choice) (arrivals_in (after w choice) choices)

-- the edge of which a process is told in a step, if it is of one: it lives, and has enabled the button
abbrev pub told_edge_in : World → Choice → Record → Option (ℕ × Bool)
told_edge_in w choice r = option_and_then (λ e. if is_told e.0 r.own then Some e else None) (edge_in w choice r)

-- What is scheduled for a process is what is left of what was before, and one upcall more, or none. In what is left no
-- upcall more is dropped; nothing is given that was not given before; of the pending upcalls of edges the first ones,
-- which were delivered or taken away, are gone, and the others stand as they stood.
pub record IsThenScheduled (upcall : Option Scheduled) (before later : Inbox) : Type 0 where
  pub left : Inbox
  pub dropped : left.dropped ≡ before.dropped
  pub given : (args : List ℕ) → left.wait ≡ Given args → before.wait ≡ Given args
  pub gone : ℕ
  pub pending : filter (is_of buttons 0) left.pending ≡ drop gone (filter (is_of buttons 0) before.pending)
  pub is : later ≡ option_map_or (λ u. scheduled u left) upcall left

-- an edge of which a process is told schedules its upcall, that which it now holds, with the button and its state, 1
-- for pressed, and changes nothing else of what is its own; where there is none no upcall of an edge is scheduled: one
-- upcall at most is, which is of another driver
abbrev pub SchedulesEdge : Option (ℕ × Bool) → Own → Own → Type 0
SchedulesEdge (Some edge) own o = o ≡ own_scheduled buttons 0 (edge.0 ∷ bit_of edge.1 ∷ 0 ∷ []) own
SchedulesEdge None own o =
    (upcall : Option Scheduled) × IfSome upcall (λ u. u.driver ≢ buttons) × IsThenScheduled upcall own.inbox o.inbox

-- which buttons are pressed after what came in
abbrev pub pressed_after_all : List Arrival → ℕ → ℕ
pressed_after_all [] mask = mask
pressed_after_all (arrival ∷ arrivals) mask =
    pressed_after_all arrivals (pressed_by (change_by arrival.kind mask) mask)

-- what a step leaves of a process, which is told of its edge, if it is one, and knows then whether the button is
-- pressed
pub record ServesEdge (w : World) (choice : Choice) (r s : Record) : Type 0 where
  pub schedules : SchedulesEdge (told_edge_in w choice r) r.own s.own
  pub knows :
      s.pressed ≡ unwrap_or (option_map (λ edge. with_bit r.pressed edge.0 edge.1) (edge_in w choice r)) r.pressed

-- so it is with the process in each slot
abbrev pub ServesEdges : World → Choice → Type 0
ServesEdges w choice = OfEachProcess w choice (λ slot. ServesEdge w choice)

-- in every step of every world
abbrev pub StepsServeEdges : Type 0
StepsServeEdges = (w : World) (choice : Choice) → ServesEdges w choice

-- an upcall that is scheduled otherwise than for a process that waits for it alone, and that is not null
abbrev pub IsQueued : Scheduled → Inbox → Type 0
IsQueued u before = (awaits before.wait u ≡ false) × (u.function ≢ 0)

-- One upcall that is scheduled is one of three, and no two: it is given to a process that waits for it alone; or it is
-- another one, not null, and put last where fewer are pending than may be; or, where as many are, it is dropped, and
-- counted.
abbrev pub IsScheduledOnce : Scheduled → Inbox → Inbox → Type 0
IsScheduledOnce u before now =
    ((awaits before.wait u ≡ true) × (now ≡ record before { wait = Given u.args }))
    ⊎ ((IsQueued u before × (length before.pending < PENDING_LIMIT)
    × (now ≡ record before { pending = before.pending ++ u ∷ [] }))
    ⊎ (IsQueued u before × (PENDING_LIMIT ≤ length before.pending)
    × (now ≡ record before { dropped = before.dropped + 1 })))

-- so it is of each upcall for which its process waits, or which is not null
abbrev pub EachIsScheduledOnce : Type 0
EachIsScheduledOnce =
    (u : Scheduled) (before : Inbox) → ((awaits before.wait u ≡ true) ⊎ (u.function ≢ 0))
    → IsScheduledOnce u before (scheduled u before)
