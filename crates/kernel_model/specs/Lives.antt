-- When a process lives, and what stays of it: where it lies, the order of its memory, what a restart makes of it. The
-- order is that of Levy et al., SOSP 2017, section 4; restarts are those of TRD 104, "Exit".
use Rattle.std.specs.Prelude.{◌≡◌, ◌≢◌, ◌≤◌, ◌<◌, ℕ, false, List, length, slice_get, Option, Some, IfSome, All}
use Rattle.tk_base.specs.declared.limits.TheConstants.{PENDING_LIMIT}
use Rattle.tk_base.specs.declared.process.Choice.{Choice}
use Rattle.tk_base.specs.declared.process.Verb.TheVariants.{Restart}
use Rattle.tbf_headers.specs.Meaning.{header_reading, main_by}
use Rattle.process_layout.specs.LayoutView.{first_break}
use Rattle.driver_model.specs.Keeping.{IsInOrder}
use Rattle.process_record.specs.Process.{is_alive}
use Rattle.kernel_model.specs.Record.{Record}
use Rattle.kernel_model.specs.Calls.{restart}
use Rattle.kernel_model.specs.World.{World, after}
use Rattle.kernel_model.specs.Turn.{Act}
use Rattle.kernel_model.specs.Replay.{after_all, history}
use Rattle.kernel_model.specs.Laws.{CanStartAgain}

-- what is so of a process in a world is so of it after any choices, ready or not
abbrev pub HoldsThroughout : (Record → Type 0) → Type 0
HoldsThroughout I = (w : World) (choices : List Choice) (slot : ℕ) →
    IfSome (slice_get w.records slot) I → IfSome (slice_get (after_all w choices).records slot) I

-- A process lives exactly while it is Running or Yielded, and the number of its life is that of its restarts. Its
-- object is that of an application.
pub record LivesAsItRuns (r : Record) : Type 0 where
  pub lives : r.own.lives ≡ is_alive r.process.state
  pub life : r.own.life ≡ r.process.restarts
  pub application : CanStartAgain r

-- a process has the record that it had, but for which buttons it was told are pressed
abbrev pub StaysButPressed : Record → Option Record → Type 0
StaysButPressed r now = (pressed : ℕ) × (now ≡ Some (record r { pressed = pressed }))

-- once a process has ended, is not held and does not live, no choices change its record as long as no operator has it
-- start again, but for which buttons it was told are pressed
abbrev pub EndedStays : Type 0
EndedStays = (w : World) (choices : List Choice) (slot : ℕ) (r : Record) →
    slice_get w.records slot ≡ Some r → is_alive r.process.state ≡ false → r.process.held ≡ false →
    r.own.lives ≡ false → All (λ event. event ≢ Act Restart) (history slot w choices) →
    StaysButPressed r (slice_get (after_all w choices).records slot)

-- a process has the object of another in the same place, and lies where that does: its accessible flash and its block
pub record LiesAs (first now : Record) : Type 0 where
  pub bytes : now.object ≡ first.object
  pub object : now.process.object ≡ first.process.object
  pub own_object : now.own.object ≡ first.own.object
  pub flash_start : now.own.layout.flash_start ≡ first.own.layout.flash_start
  pub flash_end : now.own.layout.flash_end ≡ first.own.layout.flash_end
  pub start : now.own.layout.start ≡ first.own.layout.start
  pub end : now.own.layout.end ≡ first.own.layout.end

-- the places of each process never change
abbrev pub PlacesStay : Type 0
PlacesStay = (w : World) (choices : List Choice) (slot : ℕ) (first : Record) →
    slice_get w.records slot ≡ Some first → IfSome (slice_get (after_all w choices).records slot) (LiesAs first)

-- two worlds have as many processes
abbrev pub HaveAsMany : World → World → Type 0
HaveAsMany w v = length v.records ≡ length w.records

-- and there are as many processes as before
abbrev pub AsManyStay : Type 0
AsManyStay = (w : World) (choices : List Choice) → HaveAsMany w (after_all w choices)

-- no address lies in the blocks of both
abbrev pub AreApart : Record → Record → Type 0
AreApart r s = (a : ℕ) → r.own.layout.start ≤ a → a < r.own.layout.end → s.own.layout.start ≤ a → a < s.own.layout.end
    → ⊥

-- no two blocks of a world overlap
abbrev pub BlocksAreApart : World → Type 0
BlocksAreApart w = (i j : ℕ) (r s : Record) → i ≢ j →
    slice_get w.records i ≡ Some r → slice_get w.records j ≡ Some s → AreApart r s

-- where no two blocks overlap, none do after any choices
abbrev pub BlocksStayApart : Type 0
BlocksStayApart = (w : World) (choices : List Choice) → BlocksAreApart w → BlocksAreApart (after_all w choices)

-- A process's memory is in order: the block's start, the mark, the break, the kernel break, which is the block's end
-- less what its grants cost. And the least RAM that its object asks for fits its block.
pub record HasOrder (r : Record) : Type 0 where
  pub places : IsInOrder r.own
  pub least : IfSome (main_by (header_reading r.object))
      (λ m. first_break r.own.layout.start m.minimum_ram ≤ r.own.layout.end)

-- so many upcalls wait at most
abbrev pub HasPendingWithinLimit : Record → Type 0
HasPendingWithinLimit r = length r.own.inbox.pending ≤ PENDING_LIMIT

-- none of a process's upcalls was dropped between two records of it, where fewer waited at first than may
abbrev pub DropsWhereFull : Record → Record → Type 0
DropsWhereFull before now =
    length before.own.inbox.pending < PENDING_LIMIT → now.own.inbox.dropped ≡ before.own.inbox.dropped

-- An upcall of a process is dropped only where as many wait as may: after any choices a step drops none where fewer did
-- before it.
abbrev pub DropsOnlyWhereFull : Type 0
DropsOnlyWhereFull = (w : World) (choices : List Choice) (choice : Choice) (slot : ℕ) (before now : Record) →
    slice_get (after_all w choices).records slot ≡ Some before →
    slice_get (after (after_all w choices) choice).records slot ≡ Some now → DropsWhereFull before now

-- A process is as another was, but for its turns, its restarts and its life, its dropped upcalls, its last denial, its
-- last refusal, its storage, and which buttons it was told are pressed.
abbrev pub IsAsAtFirst : Record → Record → Type 0
IsAsAtFirst first now =
    now ≡ record {
      process = record first.process {
        restarts = now.process.restarts;
        turns = now.process.turns;
        denial = now.process.denial;
        refusal = now.process.refusal;
      };
      object = first.object;
      own = record first.own {
        inbox = record first.own.inbox { dropped = now.own.inbox.dropped };
        life = now.own.life;
      };
      storage = now.storage;
      pressed = now.pressed;
    }

-- A process as it was opened: a start of it anew makes the same of it.
abbrev pub IsAtFirst : Record → Type 0
IsAtFirst r = IsAsAtFirst r (restart r)

-- A step that starts a process again, after any choices, leaves it as it was opened, but for what no restart forgets.
abbrev pub RestartsAsOpened : Type 0
RestartsAsOpened = (w : World) (choices : List Choice) (choice : Choice) (slot : ℕ) (first before now : Record) →
    slice_get w.records slot ≡ Some first → IsAtFirst first →
    slice_get (after_all w choices).records slot ≡ Some before →
    slice_get (after (after_all w choices) choice).records slot ≡ Some now →
    now.process.restarts ≢ before.process.restarts → IsAsAtFirst first now
