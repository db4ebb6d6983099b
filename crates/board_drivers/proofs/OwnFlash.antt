-- What drivers read of flash for a process is its own.
use Rattle.std.proofs.Common.{◌≡◌, ℕ, ◌==◌, Bool, true, false, min, if◌then◌else◌, List, [], drop, length, take, Option}
use Rattle.std.proofs.Common.{None, Some, option_map, unwrap_or, refl, ap}
use Rattle.tk_base.specs.declared.kinds.PairKind.TheVariants.{ReadOnly}
use Rattle.grant_values.specs.declared.console.WaitingWrite.{WaitingWrite}
use Rattle.grant_values.specs.declared.storage.StorageKind.{StorageKind}
use Rattle.grant_values.specs.declared.storage.StorageKind.TheVariants.{Read, Write}
use Rattle.grant_values.specs.declared.storage.StorageRequest.{StorageRequest}
use Rattle.process_model.specs.Flash.{HasObject, ReadsOwnFlash, flash_byte, object_byte, object_in}
use Rattle.process_model.specs.Handed.{HoldsInPlace, held}
use Rattle.process_model.specs.Own.{Own}
use Rattle.process_model.specs.Served.{bytes_at}
use Rattle.driver_model.specs.Console.{console, console_writes, portion, sent, taking, write_completing}
use Rattle.driver_model.specs.Requests.{unanswered, waiting_in}
use Rattle.driver_model.specs.Storage as storage
use Rattle.driver_model.specs.Storage.{StorageServed, finished, answered, completing, moving, storage_served}
use Rattle.driver_model.specs.Storage.{storages}

-- what of a write is printed
pub sent_of_own : (flash : List ℕ) (own : Own) → ReadsOwnFlash
    → HasObject (length flash) own.object own.layout → HoldsInPlace own
    → sent (flash_byte flash) own ≡ sent (object_byte own.object (object_in flash own.object)) own
unfolding sent
sent_of_own flash own law lies holds =
    ap (λ (bytes : List ℕ). unwrap_or (option_map (λ (write : WaitingWrite).
    if portion write own == 0 then record { step = write_completing own write; moved = []; completed = true }
    else record {
      step = taking own write;
      moved = take (portion write own) (drop write.taken bytes);
      completed = false;
    })
    (waiting_in console_writes own)) (unanswered [] own))
    (law flash own (held ReadOnly console 1 own) lies (holds.each ReadOnly console 1))

-- what is written over its storage
moved_alike : (kind : StorageKind) (flash object : ℕ → ℕ) (bytes : List ℕ) (request : StorageRequest) (own : Own)
    → bytes_at flash own (held ReadOnly storage.storage 0 own)
    ≡ bytes_at object own (held ReadOnly storage.storage 0 own)
    → moving kind flash bytes request own ≡ moving kind object bytes request own
moved_alike Read flash object bytes request own same = refl
moved_alike Write flash object bytes request own same =
    let count = min request.length (held ReadOnly storage.storage 0 own).1 in
    ap (λ (bytes : List ℕ). record {
      step = completing Write count 0 own;
      written = Some (request.offset, take count bytes);
    }) same

-- so what it answers is the same of flash as of the object, where what is written is
answered_alike : (fault : Bool) (flash object : ℕ → ℕ) (bytes : List ℕ) (own : Own)
    → bytes_at flash own (held ReadOnly storage.storage 0 own)
    ≡ bytes_at object own (held ReadOnly storage.storage 0 own)
    → answered fault flash bytes own ≡ answered fault object bytes own
unfolding answered
answered_alike fault flash object bytes own same = by_request (waiting_in storages own)
  where
    by_request : (o : Option StorageRequest)
        → unwrap_or (option_map (λ (request : StorageRequest). finished
        (storage_served fault flash bytes request own)) o) (unanswered None own)
        ≡ unwrap_or (option_map (λ (request : StorageRequest). finished
        (storage_served fault object bytes request own)) o) (unanswered None own)
    by_request None = refl
    by_request (Some request) =
        ap (λ (m : StorageServed). finished
        (if fault then record { step = completing request.kind 0 1 own; written = None } else m))
        (moved_alike request.kind flash object bytes request own same)

pub answered_of_own : (fault : Bool) (flash bytes : List ℕ) (own : Own) → ReadsOwnFlash
    → HasObject (length flash) own.object own.layout → HoldsInPlace own
    → answered fault (flash_byte flash) bytes own
    ≡ answered fault (object_byte own.object (object_in flash own.object)) bytes own
answered_of_own fault flash bytes own law lies holds =
    answered_alike fault (flash_byte flash) (object_byte own.object (object_in flash own.object)) bytes own
    (law flash own (held ReadOnly storage.storage 0 own) lies (holds.each ReadOnly storage.storage 0))
