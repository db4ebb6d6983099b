-- What is scheduled for a process (TRD 104, "Subscribe", "Yield"): its pending upcalls, the first one first, and the
-- upcall that it waits for alone.
use Rattle.std.specs.Prelude.{ℕ, ◌==◌, Bool, false, ◌&&◌, ◌||◌, not, ◌+◌, nat_lt, if◌then◌else◌, List, [], ◌∷◌, ◌++◌}
use Rattle.std.specs.Prelude.{length, filter, remove, slice_get, Option, None, Some, option_map}
use Rattle.std.specs.List.{position_or_len}
use Rattle.tk_base.specs.declared.limits.TheConstants.{PENDING_LIMIT}
use Rattle.tk_base.specs.declared.upcall.Upcall.{Upcall}
use Rattle.tk_base.specs.declared.upcall.Wait.{Wait}
use Rattle.tk_base.specs.declared.upcall.Wait.TheVariants.{No, For, Given}
use Rattle.upcall_queue.specs.declared.inbox.Delivery.{Delivery}
use Rattle.upcall_queue.specs.declared.inbox.Delivery.TheVariants.{Function, Arguments}
use Rattle.upcall_queue.specs.declared.inbox.Inbox.{Inbox}

-- before the first turn nothing is scheduled
abbrev pub empty : Inbox
empty = record { pending = []; dropped = 0; wait = No }

-- at the end of a life nothing is scheduled any more; how many upcalls were dropped stays
abbrev pub cleared : Inbox → Inbox
cleared inbox = record empty { dropped = inbox.dropped }

-- fewer upcalls are pending than ever may be
abbrev pub has_room : List Upcall → Bool
has_room pending = nat_lt (length pending) PENDING_LIMIT

-- the pending upcalls after one more was put last; the same where there is no room
abbrev pub appended : Upcall → List Upcall → List Upcall
appended upcall pending = if has_room pending then pending ++ upcall ∷ [] else pending

-- the upcall is of the driver and the number
abbrev pub is_of : ℕ → ℕ → Upcall → Bool
is_of driver number upcall = upcall.driver == driver && upcall.number == number

-- the pending upcalls without those of a driver and number
abbrev pub without_key : ℕ → ℕ → List Upcall → List Upcall
without_key driver number pending = filter (λ upcall. not (is_of driver number upcall)) pending

-- the place of the first pending upcall of a driver and number; after them all where there is none
abbrev pub place_of : ℕ → ℕ → List Upcall → ℕ
place_of driver number pending = position_or_len (is_of driver number) pending

-- the upcall at a place is taken out of the pending ones
abbrev pub taken_at : ℕ → Inbox → Inbox
taken_at place inbox = record inbox { pending = remove inbox.pending place }

-- whether the upcall is the one that a process waits for alone
abbrev pub awaits : Wait → Upcall → Bool
awaits (For driver number) upcall = is_of driver number upcall
awaits other upcall = false

-- whether an upcall that is scheduled is given or put last: the process waits for it alone; or it is not the null
-- upcall, and there is room for it
abbrev pub is_taken : Upcall → Inbox → Bool
is_taken upcall inbox = awaits inbox.wait upcall || not (upcall.function == 0) && has_room inbox.pending

-- What is scheduled for a process once one more upcall was. One that it waits for alone gives it its arguments, whether
-- it is null and however many are pending, and is not put last. Another one that is null changes nothing; any other is
-- put last, and where there is no room it is dropped, and counted.
abbrev pub scheduled : Upcall → Inbox → Inbox
scheduled upcall inbox =
    if awaits inbox.wait upcall then record inbox { wait = Given upcall.args }
    else (if upcall.function == 0 then inbox
    else (if has_room inbox.pending then record inbox { pending = inbox.pending ++ upcall ∷ [] }
    else record inbox { dropped = inbox.dropped + 1 }))

-- what is delivered to a process that has yielded, if anything is: the first pending upcall, whose function runs; or
-- the arguments of the upcall that it waited for alone
abbrev pub due_by : Wait → List Upcall → Option Delivery
due_by No pending = option_map Function (slice_get pending 0)
due_by (For driver number) pending = None
due_by (Given arguments) pending = Some (Arguments arguments)

-- the same by what is scheduled for it
abbrev pub due : Inbox → Option Delivery
due inbox = due_by inbox.wait inbox.pending

-- what is scheduled still once that was delivered
abbrev pub left_by : Delivery → Inbox → Inbox
left_by (Function upcall) inbox = taken_at 0 inbox
left_by (Arguments arguments) inbox = record inbox { wait = No }

-- the same where nothing may be due, which leaves all
abbrev pub left_after : Option Delivery → Inbox → Inbox
left_after None inbox = inbox
left_after (Some delivery) inbox = left_by delivery inbox
