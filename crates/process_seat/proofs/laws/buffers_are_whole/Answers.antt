use Rattle.tk_base.specs.declared.kinds.PairKind.TheVariants.{ReadOnly}
use Rattle.process_seat.specs.Buffers.{buffer_held}
use Rattle.process_seat.proofs.Buffers.{below_held}
use Rattle.process_seat.proofs.Wholes.{front_written, ro_whole, rw_whole, same_written}
use Rattle.process_seat.proofs.laws.buffers_are_whole.Goals as goal

pub returns : goal.returns
returns c = record {
  read_only = λ n e l. ro_whole e.memory.now e.seat.now l.sits.settled (buffer_held ReadOnly n e);
  writable = λ kind n e can l. rw_whole e.memory.now e.seat.now l.sits.settled (buffer_held kind n e)
      (below_held e.memory.now e.seat.now l.sits kind e.driver n can);
  front = front_written;
  same = same_written;
}
