use Rattle.std.proofs.Common.{refl}
use Rattle.process_seat.proofs.Serving.{still_lent}
use Rattle.process_seat.proofs.Writing.{buffer_written}
use Rattle.process_seat.proofs.laws.a_buffer_is_written.Goals as goal

pub returns : goal.returns
returns c = λ kind n e bytes can l long.
    let w = buffer_written kind can e.driver n e.counts e.memory.now e.seat.now l bytes long in
    record {
      own = w.own;
      lent = still_lent e.driver e.counts e.memory.now e.seat.now l _ e.seat.now w.serves;
      framed = record { memory = refl; seat = refl; driver = refl; counts = refl; serves = w.serves };
    }
