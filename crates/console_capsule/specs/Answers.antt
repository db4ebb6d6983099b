-- What the console answers (Tock's driver 0x1).
use Rattle.std.specs.Prelude.{ℕ, ◌+◌, ◌*◌, ◌==◌, ◌||◌, nat_lt, if◌then◌else◌, Bool, List, [], Option, drop, length}
use Rattle.std.specs.Prelude.{is_none}
use Rattle.arrayvec.specs.ArrayVec.{ArrayVec}
use Rattle.tk_base.specs.declared.process.ProcessId.{ProcessId}
use Rattle.board_devices.specs.SerialLine.{SerialLine}
use Rattle.process_model.specs.Flash.{flash_byte}
use Rattle.grant_enter.specs.Homes.{Homes, own_of}
use Rattle.driver_model.specs.Console.{received, sent}
use Rattle.driver_model.specs.Requests.{unanswered}
use Rattle.driver_model.specs.Told.{received_told, sent_told}
use Rattle.driver_requests.specs.Answers.{Answered, kinds}
use Rattle.driver_requests.specs.Asking.{in_life}
use Rattle.driver_requests.specs.Waiting.{first_of}

-- whether the UART can take nothing at a time: no write waits that is served, or it is not free yet
abbrev pub cannot_send : Option ℕ → List ProcessId → SerialLine → ℕ → Bool
cannot_send only ids line time = is_none (first_of only ids) || nat_lt time line.free

-- whether it can give nothing: no read waits that is served, or nothing came in
abbrev pub cannot_give : Option ℕ → List ProcessId → SerialLine → Bool
cannot_give only ids line = is_none (first_of only ids) || length line.ring == 0

-- the step of the write of the process of an id, with the bytes that are printed; none where it is not in that life
abbrev pub write_answered : Homes → ProcessId → Answered (ArrayVec ℕ)
write_answered home id =
    let own = own_of home id.slot in
    let s = in_life id.life own (sent (flash_byte home.flash) own) (unanswered [] own) in
    record {
      kind = sent_told kinds s;
      step = s.step;
      device = record { items = s.moved };
      completed = s.completed;
    }

-- the UART after bytes were printed at a time: it is free again once they are sent
abbrev pub sending_at : ℕ → List ℕ → SerialLine → SerialLine
sending_at time printed line =
    record line { free = if length printed == 0 then line.free else time + length printed * line.ticks }

-- the step of the read of the process of an id; none where it is not in that life
abbrev pub received_by : SerialLine → Homes → ProcessId → Answered SerialLine
received_by line home id =
    let own = own_of home id.slot in
    let r = in_life id.life own (received line.ring own) (unanswered [] own) in
    record {
      kind = received_told kinds r;
      step = r.step;
      device = record line { ring = drop (length r.moved) line.ring };
      completed = r.completed;
    }
