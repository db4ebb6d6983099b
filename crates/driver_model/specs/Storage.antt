-- The storage (driver 0x50001 in Tock's list of drivers): each slot has bytes of its own, which outlive its process. It
-- asks to read some of them into its read-write buffer 0, or to write over some from its read-only buffer 0.
use Rattle.std.specs.Prelude.{ℕ, ◌+◌, Bool, true, min, nat_le, if◌then◌else◌, List, [], ◌∷◌, slice_range}
use Rattle.std.specs.Prelude.{take, Option, None, Some}
use Rattle.tk_base.specs.declared.call.CallRule.TheVariants.{Range}
use Rattle.tk_base.specs.declared.kinds.PairKind.TheVariants.{ReadOnly, ReadWrite}
use Rattle.grant_values.specs.declared.storage.StorageKind.{StorageKind}
use Rattle.grant_values.specs.declared.storage.StorageKind.TheVariants.{Read, Write}
use Rattle.grant_values.specs.declared.storage.StorageRequest.{StorageRequest}
use Rattle.grant_values.specs.declared.drivers.Driver.TheVariants.{Storage}
use Rattle.grant_values.specs.Values.{KeptValue, StorageValue}
use Rattle.grant_values.specs.Drivers.{number_of_driver}
use Rattle.syscall_abi.specs.declared.reply.Reply.TheVariants.{Success, SuccessU32}
use Rattle.process_model.specs.Own.{Own}
use Rattle.process_model.specs.Handed.{held}
use Rattle.process_model.specs.Served.{bytes_at, with_written}
use Rattle.driver_model.specs.Steps.{DriverStep, scheduling}
use Rattle.driver_model.specs.Commands.{Commanded, Stores, accepting, refusing}
use Rattle.driver_model.specs.Requests.{RequestAnswered, RequestKind, asking, keeping_request, on_request}
use Rattle.driver_model.specs.Requests.{unanswered}

-- the number of the driver
abbrev pub storage : ℕ
storage = number_of_driver Storage

-- the request in a value that is kept, if one waits
abbrev pub storage_request : KeptValue → Option StorageRequest
storage_request (StorageValue request) = request
storage_request other = None

-- where a process asks for its slot's bytes: its request, of either kind, is all that it keeps
abbrev pub storages : RequestKind StorageRequest
storages =
    record { driver = storage; told = storage_request; with_request = λ asked value. StorageValue asked; line = Stores }

-- a request for bytes of a slot's storage, which has so many; those that are asked for must lie in it
abbrev pub requesting : ℕ → StorageRequest → Own → Commanded
requesting size request own =
    if nat_le (request.offset + request.length) size then asking storages request own else refusing Range own

-- its commands, where a slot's storage has so many bytes: the driver is there; how many these are; read, and write, at
-- an offset so many bytes
unfoldable pub commands : ℕ → ℕ → ℕ → Own → List (ℕ × Commanded)
commands size a2 a3 own =
    (0, accepting Success own)
    ∷ (1, accepting (SuccessU32 size) own)
    ∷ (2, requesting size (record { kind = Read; offset = a2; length = a3 }) own)
    ∷ (3, requesting size (record { kind = Write; offset = a2; length = a3 }) own)
    ∷ []

-- What serving a request comes to: what it leaves of the process, beside the request; and what is written over
-- the slot's storage, from an offset on, if anything is.
pub record StorageServed : Type 0 where
  pub step : DriverStep
  pub written : Option (ℕ × List ℕ)

-- a read completes by upcall 0, a write by upcall 1
abbrev pub upcall_for : StorageKind → ℕ
upcall_for Read = 0
upcall_for Write = 1

-- A request completes: its upcall tells how many bytes were moved, and how (0, or 1 for a fault).
abbrev pub completing : StorageKind → ℕ → ℕ → Own → DriverStep
completing kind count outcome own = scheduling storage (upcall_for kind) (count ∷ outcome ∷ 0 ∷ []) own

-- What serving a request moves and tells, by its kind. By a read bytes of the slot's storage are copied to the start of
-- the buffer that is held now, and no more than it has; by a write bytes from the start of the buffer that is held now,
-- and no more than it has, are to be written over the storage.
abbrev pub moving : StorageKind → (ℕ → ℕ) → List ℕ → StorageRequest → Own → StorageServed
moving Read flash bytes request own =
    let count = min request.length (held ReadWrite storage 0 own).1 in
    let copied = slice_range bytes request.offset (request.offset + count) in
    record { step = completing Read count 0 (with_written ReadWrite storage 0 0 copied own); written = None }
moving Write flash bytes request own =
    let buffer = held ReadOnly storage 0 own in
    let count = min request.length buffer.1 in
    let moved = take count (bytes_at flash own buffer) in
    record { step = completing Write count 0 own; written = Some (request.offset, moved) }

-- a request is served, with flash and the bytes of the slot's storage; on a fault it moves nothing
abbrev pub storage_served : Bool → (ℕ → ℕ) → List ℕ → StorageRequest → Own → StorageServed
storage_served fault flash bytes request own =
    if fault then record { step = completing request.kind 0 1 own; written = None }
    else moving request.kind flash bytes request own

-- a request that was served waits no more
abbrev pub finished : StorageServed → RequestAnswered (Option (ℕ × List ℕ))
finished s = record { step = keeping_request storages None s.step; moved = s.written; completed = true }

-- the storage's answer to a process; nothing changes where it has no request
unfoldable pub answered : Bool → (ℕ → ℕ) → List ℕ → Own → RequestAnswered (Option (ℕ × List ℕ))
answered fault flash bytes own =
    on_request storages own (unanswered None own) (λ request. finished (storage_served fault flash bytes request own))
