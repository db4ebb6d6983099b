-- What the storage answers (driver 0x50001 in Tock's list of drivers).
use Rattle.std.specs.Prelude.{if◌then◌else◌, None}
use Rattle.tk_base.specs.declared.process.ProcessId.{ProcessId}
use Rattle.board_devices.specs.Storage.{StoredSlots as Bytes, slot_bytes}
use Rattle.process_model.specs.Flash.{flash_byte}
use Rattle.grant_enter.specs.Homes.{Homes, own_of}
use Rattle.driver_model.specs.Storage.{answered}
use Rattle.driver_model.specs.Requests.{unanswered}
use Rattle.driver_model.specs.Told.{stored_told}
use Rattle.driver_requests.specs.Answers.{Answered, kinds}
use Rattle.driver_requests.specs.Asking.{in_life}
use Rattle.storage_capsule.specs.Serving.{store_fails_next, storage_stored}

-- the answer to the process of an id, none where it is not in that life; where a request completed the storage has
-- counted it
abbrev pub answer_to : Bytes → Homes → ProcessId → Answered Bytes
answer_to s home id =
    let own = own_of home id.slot in
    let served = answered (store_fails_next id.slot s) (flash_byte home.flash) (slot_bytes s id.slot) own in
    let a = in_life id.life own served (unanswered None own) in
    record {
      kind = stored_told kinds (store_fails_next id.slot s);
      step = a.step;
      device = if a.completed then storage_stored id.slot a.moved s else s;
      completed = a.completed;
    }
