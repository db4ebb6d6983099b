-- Which processes have turns (TRD 104, "Yield", "Exit"). That one which an operator holds has none is this board's own
-- rule.
use Rattle.std.specs.Prelude.{◌≡◌, ◌⊎◌, ◌<◌, ℕ, List, length, true, false, All, slice_get, IsSomeAnd}
use Rattle.tk_base.specs.declared.process.Choice.{Choice}
use Rattle.tk_base.specs.declared.upcall.Wait.TheVariants.{No, Given}
use Rattle.process_record.specs.declared.process.State.TheVariants.{Running, Yielded}
use Rattle.upcall_queue.specs.declared.inbox.Inbox.{Inbox}
use Rattle.kernel_model.specs.Record.{Record}
use Rattle.kernel_model.specs.declared.settings.Settings.{Settings}
use Rattle.kernel_model.specs.Turn.{Turned, idle, is_turn, may_turn, turned}
use Rattle.kernel_model.specs.World.{Label, World, labels}

-- a turn that a label tells is that of a process which may have one then: no operator holds it; and it runs, or has
-- yielded and something is due to it
abbrev pub IsOfReady : World → Label → Type 0
IsOfReady w label = is_turn label.event ≡ true → IsSomeAnd (slice_get w.records label.slot) (λ r. may_turn r ≡ true)

-- so it is in every step of every world, whoever makes the choice
abbrev pub TurnsAreOfReadyProcesses : Type 0
TurnsAreOfReadyProcesses = (w : World) (choice : Choice) → All (IsOfReady w) (labels w choice)

-- a turn of a process that may have none changes nothing, tells nothing and asks for nothing
abbrev pub DoesNothingUnready : Record → Turned → Type 0
DoesNothingUnready r t = may_turn r ≡ false → t ≡ idle r

-- so it is with each turn
abbrev pub UnreadyTurnsDoNothing : Type 0
UnreadyTurnsDoNothing = (settings : Settings) (time : ℕ) (r : Record) → DoesNothingUnready r (turned settings time r)

-- Something is due to a process that has yielded: it waits for any upcall, and one is pending; or it waited for one
-- alone, which came.
abbrev pub HasDue : Inbox → Type 0
HasDue inbox =
    ((inbox.wait ≡ No) × (0 < length inbox.pending)) ⊎ ((args : List ℕ) × (inbox.wait ≡ Given args))

-- A process that may have a turn: no operator holds it; and it runs, or it has yielded and something is due to it.
pub record MayHaveTurn (r : Record) : Type 0 where
  pub free : r.process.held ≡ false
  pub state : (r.process.state ≡ Running) ⊎ ((r.process.state ≡ Yielded) × HasDue r.own.inbox)

-- each turn that a step tells is that of such a process
abbrev pub TurnsAreOfThose : Type 0
TurnsAreOfThose =
    (w : World) (choice : Choice) →
    All (λ label. is_turn label.event ≡ true → IsSomeAnd (slice_get w.records label.slot) MayHaveTurn)
    (labels w choice)
