-- That storage is memory (driver 0x50001 in Tock's list of drivers): it has what a process's own served writes have
-- left in it. That it outlives the process is this board's own rule.
use Rattle.std.specs.Prelude.{◌≡◌, ◌≤◌, ◌<◌, ℕ, ◌+◌, true, List, [], ◌∷◌, ◌++◌, length, slice_get, slice_index, take}
use Rattle.std.specs.Prelude.{Some, IfSome, option_map, unwrap_or}
use Rattle.tk_base.specs.declared.kinds.PairKind.TheVariants.{ReadOnly}
use Rattle.tk_base.specs.declared.process.Choice.{Choice}
use Rattle.grant_values.specs.declared.storage.StorageKind.{StorageKind}
use Rattle.grant_values.specs.declared.storage.StorageKind.TheVariants.{Read, Write}
use Rattle.grant_values.specs.declared.storage.StorageRequest.{StorageRequest}
use Rattle.process_model.specs.Changes.{own_byte}
use Rattle.process_model.specs.Handed.{held}
use Rattle.process_model.specs.Served.{bytes_at}
use Rattle.board_devices.specs.Storage.{overwritten}
use Rattle.driver_model.specs.Bytes.{stored_buffer}
use Rattle.driver_model.specs.Lines.{IsWithin}
use Rattle.driver_model.specs.Requests.{waiting_in}
use Rattle.driver_model.specs.Storage as storage
use Rattle.kernel_model.specs.Record.{Record, flash_of}
use Rattle.kernel_model.specs.declared.settings.Settings.{Settings}
use Rattle.kernel_model.specs.Turn.{Event, Stored, apply}
use Rattle.kernel_model.specs.World.{World, after}
use Rattle.kernel_model.specs.Replay.{after_all, history}
use Rattle.kernel_model.specs.Lives.{LivesAsItRuns}
use Rattle.kernel_model.specs.Wholes.{HasWholeOwn}

-- what a request writes over the storage, and from where on, if it is served now: a write as many bytes as it asks for
-- from the start of the buffer that its process holds for it, and no more than that has; a read nothing
abbrev pub write_by : Record → StorageRequest → StorageKind → List (ℕ × List ℕ)
write_by r request Read = []
write_by r request Write =
    (request.offset, take request.length (bytes_at (flash_of r) r.own (held ReadOnly storage.storage 0 r.own))) ∷ []

-- what is written where a process is told this: something only where its request was served, and did not fail
abbrev pub writes_at : Event → Record → List (ℕ × List ℕ)
writes_at (Stored true) r =
    unwrap_or (option_map (λ request. write_by r request request.kind) (waiting_in storage.storages r.own)) []
writes_at other r = []

-- what its history writes, one after another
abbrev pub writes_in : Settings → List Event → Record → List (ℕ × List ℕ)
writes_in settings [] r = []
writes_in settings (event ∷ rest) r = writes_at event r ++ writes_in settings rest (apply settings event r)

-- bytes once all of this was written over them, one after another
abbrev pub all_written : List (ℕ × List ℕ) → List ℕ → List ℕ
all_written [] bytes = bytes
all_written (w ∷ ws) bytes = all_written ws (overwritten bytes w.0 w.1)

-- Whatever choices are made, a process's storage is what it was with its own served writes over it, through every end
-- and start of the process.
abbrev pub StorageIsMemory : Type 0
StorageIsMemory = (w : World) (choices : List Choice) (slot : ℕ) (first : Record) →
    slice_get w.records slot ≡ Some first → IfSome (slice_get (after_all w choices).records slot) (λ now.
    now.storage ≡ all_written (writes_in w.settings (history slot w choices) first) first.storage)

-- A read that is served gives a process the bytes of its storage: each that it asks for from the offset on, and that
-- its buffer has room for.
abbrev pub ReadsGiveStorage : Type 0
ReadsGiveStorage = (settings : Settings) (r : Record) (request : StorageRequest) (k : ℕ) →
    HasWholeOwn r → waiting_in storage.storages r.own ≡ Some request → request.kind ≡ Read →
    request.offset + request.length ≤ length r.storage →
    let buffer = stored_buffer r.own in
    k < request.length → k < buffer.1 →
    own_byte (apply settings (Stored true) r).own (buffer.0 + k) ≡ slice_index r.storage (request.offset + k)

-- a process's storage has so many bytes, and a request of it that waits is for some of these
abbrev pub AsksWithin : ℕ → Record → Type 0
AsksWithin size r = IsWithin size r.own × (length r.storage ≡ size)

-- So it is after any choices of a process that lives as it runs, with as many bytes as the settings say.
abbrev pub RequestsStayWithin : Type 0
RequestsStayWithin = (w : World) (choices : List Choice) (slot : ℕ) →
    IfSome (slice_get w.records slot) LivesAsItRuns →
    IfSome (slice_get w.records slot) (AsksWithin w.settings.storage) →
    IfSome (slice_get (after_all w choices).records slot) (AsksWithin w.settings.storage)

-- From a process before its read of the storage was served to the process after it: each byte that it asks for from the
-- offset on, and that its buffer has room for, is that of its storage.
abbrev pub GaveStorage : Record → Record → Type 0
GaveStorage r s =
    IfSome (waiting_in storage.storages r.own) (λ request. request.kind ≡ Read → (k : ℕ) →
    let buffer = stored_buffer r.own in
    k < request.length → k < buffer.1 →
    own_byte s.own (buffer.0 + k) ≡ slice_index r.storage (request.offset + k))

-- So it is in every step after any choices that tells such a process this, where what is its own was whole.
abbrev pub ReadsInRunsGiveStorage : Type 0
ReadsInRunsGiveStorage = (w : World) (choices : List Choice) (choice : Choice) (slot : ℕ) (r s : Record) →
    IfSome (slice_get w.records slot) LivesAsItRuns → IfSome (slice_get w.records slot) HasWholeOwn →
    IfSome (slice_get w.records slot) (AsksWithin w.settings.storage) →
    let v = after_all w choices in
    slice_get v.records slot ≡ Some r → slice_get (after v choice).records slot ≡ Some s →
    history slot v (choice ∷ []) ≡ Stored true ∷ [] → GaveStorage r s
