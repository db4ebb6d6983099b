-- What edges of buttons schedule for a process in a run (TRD 104, "Subscribe", "Yield"; the buttons are Tock's driver
-- 0x3): each edge of the script that it is told of one upcall, in the order of the script, and nothing else any. When
-- edges come is this board's own rule.
use Rattle.std.specs.Prelude.{◌≡◌, ◌≢◌, ◌⊎◌, ℕ, true, false, List, [], ◌∷◌, ◌++◌, filter, slice_get, Option, None, Some}
use Rattle.std.specs.Prelude.{IfSome, option_and_then, option_map}
use Rattle.std.specs.List.{cons_option}
use Rattle.tk_base.specs.declared.process.Choice.{Choice}
use Rattle.tk_base.specs.declared.upcall.Upcall.{Upcall as Scheduled}
use Rattle.upcall_queue.specs.declared.inbox.Inbox.{Inbox}
use Rattle.upcall_queue.specs.Pending.{awaits}
use Rattle.kernel_model.specs.Record.{Record}
use Rattle.kernel_model.specs.World.{World, after}
use Rattle.kernel_model.specs.Replay.{after_all}
use Rattle.kernel_model.specs.Choices.{Throughout}
use Rattle.kernel_model.specs.Edges.{IsScheduledOnce, IsThenScheduled, arrivals_in, pressed_after_all}
use Rattle.kernel_model.specs.Named.{is_of_edge}
use Rattle.kernel_model.specs.Named.{edge_upcall}
use Rattle.kernel_model.specs.Edges.{told_edge_in}
use Rattle.kernel_laws.specs.Scheduled.{step_schedules}

-- what some choices schedule for the process in a slot, one after another: its turns, and what devices tell it
abbrev pub schedules_in : ℕ → World → List Choice → List Scheduled
schedules_in slot w [] = []
schedules_in slot w (choice ∷ choices) =
    cons_option (step_schedules slot w choice) (schedules_in slot (after w choice) choices)

-- the upcall of the edge of which the process in a slot is told in a step, if there is one
abbrev pub edge_scheduled : ℕ → World → Choice → Option Scheduled
edge_scheduled slot w choice =
    option_and_then (λ r. option_map (edge_upcall r.own) (told_edge_in w choice r)) (slice_get w.records slot)

-- those of the edges of which it is told in some choices, in the order in which they come in
abbrev pub edges_in : ℕ → World → List Choice → List Scheduled
edges_in slot w [] = []
edges_in slot w (choice ∷ choices) = cons_option (edge_scheduled slot w choice) (edges_in slot (after w choice) choices)

-- What becomes of the upcall of an edge of which a process is told in a step, by what is scheduled before the step and
-- after it: where the process waits for it alone, or where it is not null, it is given, put last or dropped, once; else
-- nothing changes. In a step in which it is told of no edge, what is scheduled, if anything is, is of none.
abbrev pub ComesOnce : Option Scheduled → Option Scheduled → Inbox → Inbox → Type 0
ComesOnce (Some u) upcall before now =
    (((awaits before.wait u ≡ true) ⊎ (u.function ≢ 0)) → IsScheduledOnce u before now)
    × (awaits before.wait u ≡ false → u.function ≡ 0 → now ≡ before)
ComesOnce None upcall before now = IfSome upcall (λ u. is_of_edge u ≡ false)

-- what holds of the process in a slot in a step, by its records before the step and after it
abbrev pub OfProcess : ℕ → (World → Choice → Record → Record → Type 0) → World → Choice → Type 0
OfProcess slot P w choice =
    (r s : Record) → slice_get w.records slot ≡ Some r → slice_get (after w choice).records slot ≡ Some s
    → P w choice r s

-- Of a world, a slot, and choices that are made. What came in by them, and then what is still to, is what was to come
-- in at first. The slot's process knows of each button whether it is pressed after that. Of what was scheduled for it
-- the upcalls of edges are those of the edges of which it was told, one of each, in the order in which they came in.
-- What is scheduled after each step is what remains of what was, and then what the step schedules; and in each step
-- the edge of which it is told comes once, and no other.
pub record EdgesCome (w : World) (slot : ℕ) (choices : List Choice) : Type 0 where
  pub order : w.devices.arrivals ≡ arrivals_in w choices ++ (after_all w choices).devices.arrivals
  pub knows : option_map (λ r. r.pressed) (slice_get (after_all w choices).records slot)
      ≡ option_map (λ r. pressed_after_all (arrivals_in w choices) r.pressed) (slice_get w.records slot)
  pub scheduled : filter is_of_edge (schedules_in slot w choices) ≡ edges_in slot w choices
  pub steps : Throughout (OfProcess slot (λ v choice r s.
      IsThenScheduled (step_schedules slot v choice) r.own.inbox s.own.inbox)) w choices
  pub once : Throughout (OfProcess slot (λ v choice r s.
      ComesOnce (edge_scheduled slot v choice) (step_schedules slot v choice) r.own.inbox s.own.inbox)) w choices

-- so it is of a world and a slot, whatever choices are made
abbrev pub EdgesComeOnce : World → ℕ → Type 0
EdgesComeOnce w slot = (choices : List Choice) → EdgesCome w slot choices

-- and of every process
abbrev pub EachEdgeComesOnce : Type 0
EachEdgeComesOnce = (w : World) (slot : ℕ) → EdgesComeOnce w slot
