-- What a board looks for while it goes on. The rules are this tool's own.
use Rattle.std.specs.Prelude.{ℕ, ◌%◌, ◌==◌, nat_lt, nat_le, ◌||◌, ◌&&◌, Bool, true, false}
use Rattle.std.specs.Prelude.{if◌then◌else◌, List, [], ◌∷◌, ◌++◌}
use Rattle.std.specs.Prelude.{length, take, drop, bytes_eq, slice_get, Option, None, Some, is_none, option_map}
use Rattle.std.specs.List.{list_any}
use Rattle.tk_base.specs.declared.access.Denial.{Denial}
use Rattle.tk_base.specs.declared.limits.TheConstants.{SLOT_COUNT}
use Rattle.tk_base.specs.declared.process.Choice.{Choice}
use Rattle.tk_base.specs.declared.process.Choice.TheVariants.{Run, Device, Pass}
use Rattle.tk_base.specs.declared.process.Verb.{Verb}
use Rattle.process_record.specs.declared.emit.CallMade.{CallMade}
use Rattle.process_record.specs.declared.emit.Emit.{Emit}
use Rattle.process_record.specs.declared.process.Process.{Process}
use Rattle.process_record.specs.declared.process.State.{State}
use Rattle.process_record.specs.declared.process.State.TheVariants.{Running, Yielded, Faulted, Terminated}
use Rattle.kernel_model.specs.Shown.{shown_by}
use Rattle.kernel_model.specs.World.{World, after, labels}
use Rattle.board_views.specs.Memories.{memory_at}
use Rattle.board_views.specs.declared.goal.Goal.{Goal}
use Rattle.board_views.specs.declared.goal.Watched.{Watched}
use Rattle.board_views.specs.declared.going.Stop.{Stop}
use Rattle.board_views.specs.declared.going.Stop.TheVariants.{Address, Range, Changed, Denied, Exit, Act}

-- the bytes of a watched place; of its slot the last four bits count
abbrev pub watched_at : World → Watched → List ℕ
watched_at w place = memory_at w (place.slot % SLOT_COUNT) place.at place.count

-- those of watched places, one place after another
abbrev pub watched_bytes : World → List Watched → List ℕ
watched_bytes w [] = []
watched_bytes w (place ∷ places) = watched_at w place ++ watched_bytes w places

-- the address of the first of these places whose bytes are not those that were kept
abbrev pub changed_at : World → List ℕ → List Watched → Option ℕ
changed_at w kept [] = None
changed_at w kept (place ∷ places) =
    let bytes = watched_at w place in
    if nat_lt (length kept) (length bytes) then Some place.at
    else (if bytes_eq (take (length bytes) kept) bytes then changed_at w (drop (length bytes) kept) places
    else Some place.at)

-- it is at an instruction, and no upcall is delivered first
abbrev pub is_at_instruction : State → Bool
is_at_instruction Running = true
is_at_instruction other = false

-- the process in a slot
abbrev pub process_in : World → ℕ → Option Process
process_in w slot = option_map (λ r. r.process) (slice_get w.records slot)

-- a process runs, and its pc is one of some addresses
abbrev pub is_among : List ℕ → Option Process → Bool
is_among addresses None = false
is_among addresses (Some p) = is_at_instruction p.state && list_any (λ a. a == p.regs.pc) addresses

-- what stops a goal before the next choice: a turn of any process at one of its addresses
abbrev pub before_stop : Goal → World → Choice → Option Stop
before_stop goal w (Run slot) =
    if is_among goal.addresses.items (process_in w slot) then Some (Address slot) else None
before_stop goal w (Device device) = None
before_stop goal w (Pass ticks) = None

-- a process's pc is outside of an area of addresses, where this is one
abbrev pub is_past : ℕ → ℕ → ℕ → Bool
is_past low high pc = nat_lt 0 high && (nat_lt pc low || nat_le high pc)

abbrev pub stands_outside : ℕ → ℕ → Option Process → Bool
stands_outside low high None = false
stands_outside low high (Some p) = is_past low high p.regs.pc

-- a turn of the goal's process left its area of addresses
abbrev pub range_stop : Goal → World → Choice → Option Stop
range_stop goal w (Run slot) =
    if (slot == goal.slot) && stands_outside goal.low goal.high (process_in w goal.slot) then Some Range else None
range_stop goal w (Device device) = None
range_stop goal w (Pass ticks) = None

-- what a step shows that stops a goal: an operator's act on a process; or of a turn of any process a denial, or an
-- exit, with a0 to a3
abbrev pub shows_exit : CallMade → Bool
shows_exit made = (made.class == 6) && is_none made.reply && is_none made.rule

abbrev pub exit_stop : ℕ → Option CallMade → Option Stop
exit_stop slot None = None
exit_stop slot (Some made) = if shows_exit made then Some (Exit slot made.args) else None

abbrev pub end_stop : ℕ → Option Denial → Option CallMade → Option Stop
end_stop slot (Some denial) made = Some (Denied slot denial)
end_stop slot None made = exit_stop slot made

abbrev pub turn_stop : Option ℕ → Emit → Option Stop
turn_stop None shown = None
turn_stop (Some slot) shown = end_stop slot shown.denial shown.made

abbrev pub shown_stop : Option (ℕ × Verb) → Emit → Option Stop
shown_stop None shown = turn_stop shown.slot shown
shown_stop (Some act) shown = Some (Act act.0)

-- the first of two
abbrev pub or_else : Option Stop → Option Stop → Option Stop
or_else None second = second
or_else (Some stop) second = Some stop

-- what stops a goal after a step by a choice, which led to a world and shows this: what it shows, a watched byte that
-- is not as it was kept, or the area that was left
unfoldable pub stop_after : Goal → List ℕ → World → Choice → Emit → Option Stop
stop_after goal kept w choice shown =
    or_else (shown_stop shown.act shown)
    (or_else (option_map Changed (changed_at w kept goal.watched.items)) (range_stop goal w choice))

-- that of a step of a world
abbrev pub step_stop : Goal → List ℕ → World → Choice → Option Stop
step_stop goal kept w choice = stop_after goal kept (after w choice) choice (shown_by (labels w choice))
