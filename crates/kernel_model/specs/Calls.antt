-- The system calls: TRD 104, "Yield", "Subscribe", "Command", "Read-Only Allow", "Read-Write Allow", "Memop" and
-- "Exit".
use Rattle.std.specs.Prelude.{ℕ, ◌+◌, ◌-◌, ◌%◌, ◌^◌, ◌==◌, Bool, not, nat_le, nat_lt, if◌then◌else◌, List, []}
use Rattle.std.specs.Prelude.{◌∷◌, find, Option, None, Some, is_none, option_and_then, option_map, unwrap_or, slice_get}
use Rattle.std.specs.Prelude.{Result, Ok, Err}
use Rattle.std.specs.Result.{result_ok}
use Rattle.tk_base.specs.declared.call.CallRule.{CallRule}
use Rattle.tk_base.specs.declared.call.CallRule.TheVariants.{Break, Index, NoDriver, NoNumber, NoOperation, NoRoom}
use Rattle.tk_base.specs.declared.call.CallRule.TheVariants.{Outside, Permission}
use Rattle.tk_base.specs.Call.{error_of}
use Rattle.tbf_headers.specs.declared.program.Main.{Main}
use Rattle.tbf_headers.specs.Meaning.{Meaning, header_reading, of_app, region_in, region_count}
use Rattle.syscall_filter.specs.Permission.{permitted}
use Rattle.process_layout.specs.LayoutView.{first_break}
use Rattle.process_layout.specs.Bounds.{permits_break}
use Rattle.tk_base.specs.declared.upcall.Upcall.{Upcall as Scheduled}
use Rattle.tk_base.specs.declared.upcall.Wait.TheVariants.{For}
use Rattle.upcall_queue.specs.declared.inbox.Delivery.{Delivery}
use Rattle.upcall_queue.specs.declared.inbox.Delivery.TheVariants.{Function, Arguments}
use Rattle.upcall_queue.specs.declared.inbox.Inbox.{Inbox}
use Rattle.upcall_queue.specs.Pending.{place_of, taken_at}
use Rattle.grant_values.specs.Drivers.{counts_of, driver_of}
use Rattle.tk_base.specs.Kinds.{count_of}
use Rattle.grant_model.specs.Grants.{shape_of}
use Rattle.process_model.specs.Own as own
use Rattle.process_model.specs.Own.{Own, own_ended}
use Rattle.process_model.specs.Handed.{handing, has_place, held, may_share}
use Rattle.process_model.specs.Flag.{with_flag}
use Rattle.driver_model.specs.Commands.{BoardRequest, leaving_all}
use Rattle.driver_model.specs.Drivers.{CommandContext, CommandHandler, handler_by}
use Rattle.syscall_abi.specs.declared.form.CallForm.{CallForm}
use Rattle.syscall_abi.specs.declared.form.CallForm.TheVariants as forms
use Rattle.syscall_abi.specs.declared.form.Swap.{Swap}
use Rattle.syscall_abi.specs.declared.reply.Reply.{Reply}
use Rattle.syscall_abi.specs.declared.reply.Reply.TheVariants.{Failure, FailureU32U32, Success, SuccessU32}
use Rattle.syscall_abi.specs.declared.reply.Reply.TheVariants.{SuccessU32U32}
use Rattle.process_record.specs.declared.outcome.Outcome.{Outcome}
use Rattle.process_record.specs.declared.outcome.Outcome.TheVariants.{Replied, Waits, Delivered, GoesOn, Ended, Again}
use Rattle.process_record.specs.Process.{after_end}
use Rattle.process_record.specs.Process.{after_call, after_reply, after_refusal, delivered, restarted_with_regs}
use Rattle.process_record.specs.Process.{start_regs}
use Rattle.process_record.specs.Process.{waiting}
use Rattle.kernel_model.specs.Record.{Record, record_with_step}

-- what a call leaves, what comes of it, and what the board is to do for it
pub record Served : Type 0 where
  pub after : Record
  pub outcome : Outcome
  pub acts : List BoardRequest

-- a call that asks nothing of the board
abbrev pub comes_to : Record → Outcome → Served
comes_to r outcome = record { after = r; outcome = outcome; acts = [] }

-- a call that is answered
abbrev pub replied : Record → Reply → Served
replied r reply = comes_to (record r { process = after_reply r.process reply }) (Replied reply None)

-- a refused call changes the reply registers, pc and the recorded refusal alone
abbrev pub refused_with : Record → CallRule → Reply → Served
refused_with r rule reply =
    comes_to (record r { process = after_refusal r.process rule reply }) (Replied reply (Some rule))

-- a call that is refused by a rule, with the rule's error as its reply
abbrev pub refused : Record → CallRule → Served
refused r rule = refused_with r rule (Failure (error_of rule))

-- Why a process may not hand a pair to a driver, the first cause first: there is no such driver; the driver has no
-- upcall or buffer of that number; the bytes do not lie where the process may have them; the driver's grant has no
-- room.
unfoldable pub swap_refusal : Swap → Own → Option CallRule
swap_refusal swap o =
    if is_none (counts_of swap.driver) then Some NoDriver
    else (if not (nat_lt swap.number (count_of swap.kind (shape_of swap.driver))) then Some NoNumber
    else (if not (may_share swap.kind o.layout swap.pair) then Some Outside
    else (if not (has_place swap.driver o) then Some NoRoom else None)))

-- the failure with which a form of calls is refused that breaks a rule: a swap hands back the passed pair
abbrev pub failure_of : CallForm → CallRule → Reply
failure_of (forms.Swap swap) rule = FailureU32U32 (error_of rule) swap.pair.0 swap.pair.1
failure_of form rule = Failure (error_of rule)

-- a subscribe or an allow: the pair is handed, and the former one given back; or it is refused for a cause
abbrev pub swap_by : Record → Swap → Option CallRule → Served
swap_by r swap None =
    let old = held swap.kind swap.driver swap.number r.own in
    replied (record r { own = handing swap.kind swap.driver swap.number swap.pair r.own }) (SuccessU32U32 old.0 old.1)
swap_by r swap (Some rule) = refused_with r rule (failure_of (forms.Swap swap) rule)

-- a process goes on with what is delivered to it, and what is scheduled for it changes
abbrev pub deliver : Record → Delivery → (Inbox → Inbox) → Record
deliver r delivery change = record r { process = delivered delivery r.process; own = own.with_inbox change r.own }

-- a process past its `ecall`, with its flag written
abbrev pub flag_written : Record → ℕ → ℕ → Record
flag_written r at byte = record r { process = after_call r.process; own = with_flag at byte r.own }

-- A yield that does not wait: where an upcall is pending, it writes 1 to its flag, and the first one is delivered; else
-- it writes 0, and the process goes on.
abbrev pub yield_now : Record → ℕ → Option Scheduled → Served
yield_now r at None = comes_to (flag_written r at 0) GoesOn
yield_now r at (Some upcall) = comes_to (deliver (flag_written r at 1) (Function upcall) (taken_at 0)) Delivered

-- A yield for one upcall alone: where one of its driver and number is pending, the process goes on with the arguments
-- of the first, which is taken out; else it waits for that upcall.
abbrev pub yield_for : Record → ℕ → ℕ → Option Scheduled → Served
yield_for r driver number None =
    let own = own.with_inbox (λ inbox. record inbox { wait = For driver number }) r.own in
    comes_to (record r { process = waiting r.process; own = own }) Waits
yield_for r driver number (Some upcall) =
    let place = place_of driver number r.own.inbox.pending in
    comes_to (deliver (record r { process = after_call r.process }) (Arguments upcall.args) (taken_at place)) Delivered

-- yield with 0 does not wait, with 1 waits for an upcall, with 2 for one alone; another number goes on
unfoldable pub yielding : Record → ℕ → ℕ → ℕ → Served
yielding r number a1 a2 =
    let pending = r.own.inbox.pending in
    if number == 0 then yield_now r a1 (slice_get pending 0)
    else (if number == 1 then comes_to (record r { process = waiting r.process }) Waits
    else (if number == 2 then yield_for r a1 a2 (slice_get pending (place_of a1 a2 pending))
    else comes_to (record r { process = after_call r.process }) GoesOn))

-- sbrk moves the break by a signed number; none is below 0
abbrev pub moved_by : ℕ → ℕ → Option ℕ
moved_by brk by =
    if nat_lt by (2 ^ 31) then Some (brk + by)
    else (if nat_le (2 ^ 32) (brk + by) then Some (brk + by - 2 ^ 32) else None)

-- a break that may be moved is moved, rounded up to a multiple of 4, and answered so
abbrev pub break_moved : Record → Option ℕ → Reply → Served
break_moved r None reply = refused r Break
break_moved r (Some new) reply =
    if permits_break r.own.layout (own.kernel_break_of r.own) new
    then replied (record r { own = own.with_moved_break new r.own }) reply else refused r Break

-- an end of a region, mod 2^32; a region that the header does not name has none
abbrev pub region_end : Record → (ℕ × ℕ → ℕ) → Option (ℕ × ℕ) → Served
region_end r offset None = refused r Index
region_end r offset (Some region) = replied r (SuccessU32 ((r.process.object.address + offset region) % 2 ^ 32))

-- each operation of memop: brk and sbrk; start and end of RAM, start and end of flash, the lowest address of a
-- grant; the number of regions, start and end of one; two hints, which are ignored
unfoldable pub memops : Record → ℕ → List (ℕ × Served)
memops r argument =
    let regions = option_and_then (λ h. h.regions) (result_ok (header_reading r.object)) in
    (0, break_moved r (Some argument) Success)
    ∷ (1, break_moved r (moved_by r.own.layout.brk argument) (SuccessU32 r.own.layout.brk))
    ∷ (2, replied r (SuccessU32 r.own.layout.start))
    ∷ (3, replied r (SuccessU32 r.own.layout.end))
    ∷ (4, replied r (SuccessU32 r.process.object.address))
    ∷ (5, replied r (SuccessU32 (r.process.object.address + r.process.object.size)))
    ∷ (6, replied r (SuccessU32 (own.kernel_break_of r.own)))
    ∷ (7, replied r (SuccessU32 (region_count regions)))
    ∷ (8, region_end r (λ region. region.0) (option_and_then (region_in argument) regions))
    ∷ (9, region_end r (λ region. region.0 + region.1) (option_and_then (region_in argument) regions))
    ∷ (10, replied r Success)
    ∷ (11, replied r Success)
    ∷ []

-- memop; an operation that is not in the table is refused
unfoldable pub memop : Record → ℕ → ℕ → Served
memop r operation argument =
    unwrap_or (option_map (λ row. row.1) (find (λ row. row.0 == operation) (memops r argument))) (refused r NoOperation)

-- A process that starts again: its block is zeroed, its layout and registers are those of its start, and its next life
-- begins. Its turns, its dropped upcalls, its last denial, its last refusal, its storage and what it was told of
-- buttons stay (TRD 104, "Exit").
abbrev pub restarted_with : Record → Meaning → Main → Record
restarted_with r h m =
    let e = r.own.layout in
    let brk = first_break e.start m.minimum_ram in
    let regs = start_regs r.process.object.address h m e.start (e.end - e.start) brk in
    record r { process = restarted_with_regs r.process regs; own = own.own_restarted brk r.own }

-- a process that starts again, by the header of its own object (TRD 104, "Exit"); as it was where that has a fault, or
-- says nothing of its entry
unfoldable pub restart : Record → Record
restart r = unwrap_or (of_app (restarted_with r) (header_reading r.object)) r

-- a call that ends a life of its process, which leaves all queues then
abbrev pub ended : Record → Outcome → Served
ended r outcome = record { after = r; outcome = outcome; acts = leaving_all }

-- exit with 0 ends the process with its completion code, and pc past its `ecall`; with 1 it starts again; another
-- number is refused
unfoldable pub exit : Record → ℕ → ℕ → Served
exit r kind code =
    if kind == 0 then ended (record r { process = after_end (after_call r.process) code; own = own_ended r.own }) Ended
    else (if kind == 1 then ended (restart r) Again else refused r NoOperation)

-- a driver replies to a command, or refuses it
abbrev pub driver_answered : Record → Result Reply CallRule → Served
driver_answered r (Ok reply) = replied r reply
driver_answered r (Err rule) = refused r rule

-- the driver takes a command: what comes of it leaves of the process, and asks of the board; it is refused where there
-- is no such driver
abbrev pub taken_by : CommandContext → ℕ → ℕ → ℕ → Record → Option CommandHandler → Served
taken_by around number a2 a3 r None = refused r NoDriver
taken_by around number a2 a3 r (Some taker) =
    let c = taker around number a2 a3 r.own in
    record (driver_answered (record_with_step r c.step) c.answer) { acts = c.acts }

-- the calls, by form
unfoldable pub by_form : CommandContext → Record → CallForm → Served
by_form around r (forms.Yield number a1 a2) = yielding r number a1 a2
by_form around r (forms.Swap swap) = swap_by r swap (swap_refusal swap r.own)
by_form around r (forms.Command driver n a2 a3) = taken_by around n a2 a3 r (option_map handler_by (driver_of driver))
by_form around r (forms.Memop operation argument) = memop r operation argument
by_form around r (forms.Exit kind code) = exit r kind code

-- A call is served where the object of its process permits it, by the permissions that its header lists (Tock Binary
-- Format, "Permissions"); one that cannot be read has no such list. Permission comes before all else: a call that is
-- not permitted is refused so whatever else would refuse it, and though there is no such driver. Whether the filter is
-- strict is no part of what a command sees of the board.
unfoldable pub served : Bool → CommandContext → Record → CallForm → Served
served strict around r call =
    let list = option_and_then (λ h. h.permissions) (result_ok (header_reading r.object)) in
    if permitted strict list call then by_form around r call else refused_with r Permission (failure_of call Permission)
