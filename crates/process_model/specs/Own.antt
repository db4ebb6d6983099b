-- What the kernel keeps of one process beside its registers: where it lies, the bytes of its block and the grants in it
-- (Levy et al., SOSP 2017); what is scheduled for it (TRD 104, "Yield"); which of its lives it is in, and whether it
-- lives (TRD 104, "Exit").
use Rattle.std.specs.Prelude.{ℕ, ◌+◌, ◌-◌, Bool, true, false, List, [], ◌++◌, replicate}
use Rattle.tk_base.specs.Numbers.{rounded_up}
use Rattle.upcall_queue.specs.declared.inbox.Inbox.{Inbox}
use Rattle.upcall_queue.specs.Pending.{cleared, empty}
use Rattle.process_layout.specs.LayoutView.{LayoutView}
use Rattle.process_layout.specs.Bounds.{Bounds, bounds_of, layout_within}
use Rattle.grant_model.specs.Grants.{Grant, costs}
use Rattle.grant_model.specs.Encoding.{encode_grants}
use Rattle.process_model.specs.declared.place.Object.{Object}
use Rattle.process_model.specs.declared.place.Footprint.{Footprint}

-- What the kernel keeps of a process: where its object and its memory lie; its memory; what is scheduled for it; which
-- of its lives it is in, counted from 0, and whether it lives.
pub record Own : Type 0 where
  pub object : Object
  pub layout : Bounds
  -- the bytes of the block below the kernel break: the process's
  pub ram : List ℕ
  -- its grants, the last entered first; their bytes fill the block from the kernel break on
  pub grants : List Grant
  pub inbox : Inbox
  pub life : ℕ
  pub lives : Bool

-- the kernel break: the block's end less what the drivers that were entered cost
abbrev pub kernel_break_of : Own → ℕ
kernel_break_of own = own.layout.end - costs own.grants

-- how all of its memory is laid out
abbrev pub layout_of : Own → LayoutView
layout_of own = layout_within own.layout (kernel_break_of own)

-- the bytes of the block: the process's own, and its grants
abbrev pub block_of : Own → List ℕ
block_of own = own.ram ++ encode_grants own.grants

-- a process in its place at the start of a life: its block is zero, and it has no grants
abbrev pub at_start : Object → Bounds → Inbox → ℕ → Own
at_start object e inbox life = record {
  object = object;
  layout = e;
  ram = replicate (e.end - e.start) 0;
  grants = [];
  inbox = inbox;
  life = life;
  lives = true;
}

-- before its first turn
abbrev pub opened : Footprint → Own
opened f = at_start f.object (bounds_of f.layout) empty 0

-- a process whose break was moved to an address, rounded up to a multiple of 4 (TRD 104, "Memop")
abbrev pub with_moved_break : ℕ → Own → Own
with_moved_break new own = record own { layout = record own.layout { brk = rounded_up new } }

-- a process that starts again, with its first break: its next life begins, its block is zeroed, it has no grants, and
-- nothing is scheduled for it; how many upcalls were dropped stays
abbrev pub own_restarted : ℕ → Own → Own
own_restarted brk own =
    at_start own.object (record own.layout { brk = brk; mark = own.layout.start }) (cleared own.inbox) (own.life + 1)

-- a process that ended: nothing is scheduled for it, and its memory stays as it is
abbrev pub own_ended : Own → Own
own_ended own = record own { inbox = cleared own.inbox; lives = false }

-- a process for which what is scheduled changes, and nothing else
abbrev pub with_inbox : (Inbox → Inbox) → Own → Own
with_inbox change own = record own { inbox = change own.inbox }
