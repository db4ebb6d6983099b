use Rattle.std.proofs.Common.{ℕ, ◌-◌, length, min, refl, ap, ◌∙◌}
use Rattle.board_memory.specs.Memory.{with_run}
use Rattle.tk_base.specs.declared.kinds.PairKind.TheVariants.{ReadWrite}
use Rattle.process_model.specs.Handed.{held}
use Rattle.process_seat.specs.Buffers.{buffer_start}
use Rattle.process_seat.specs.Seats.{own_in}
use Rattle.process_seat.proofs.Serving.{still_lent}
use Rattle.process_seat.proofs.Writing.{Wrote, size_is, wrote}
use Rattle.process_seat.proofs.entered.Entered.write.Goals as goal
use Rattle.process_seat.proofs.entered.Entered.write.Goals.{After-put_from}

done : (c : After-put_from) → let e = c.args.self.now in
    Wrote ReadWrite e.driver c.args.n c.args.offset c.args.bytes.now e.memory.now e.seat.now
    (with_run e.memory.now (buffer_start e.seat.now.layout
    (held ReadWrite e.driver c.args.n (own_in e.memory.now.ram e.seat.now))) c.put_from.new.buffer)
done c = let e = c.args.self.now in
    wrote ReadWrite refl e.driver c.args.n e.counts e.memory.now e.seat.now c.requires.lent c.args.offset
    c.args.bytes.now
    c.read_write.result.now c.put_from.new.buffer c.read_write.ensures.bytes c.put_from.ensures.buffer

pub returns-clause-count : goal.returns-clause-count
returns-clause-count c =
    let e = c.args.self.now in
    c.put_from.ensures.count
    ∙ ap (λ (k : ℕ). min (length c.args.bytes.now) (k - c.args.offset))
    (size_is ReadWrite refl e.driver c.args.n e.counts e.memory.now e.seat.now c.requires.lent c.args.offset
    c.args.bytes.now
    c.read_write.result.now c.read_write.ensures.bytes)

pub returns-clause-own : goal.returns-clause-own
returns-clause-own c = (done (goal.at.returns-clause-own c).After-put_from).own

pub returns-clause-lent : goal.returns-clause-lent
returns-clause-lent c =
    let e = c.args.self.now in
    still_lent e.driver e.counts e.memory.now e.seat.now c.requires.lent _ e.seat.now
    (done (goal.at.returns-clause-lent c).After-put_from).serves

pub returns-clause-framed : goal.returns-clause-framed
returns-clause-framed c =
    record {
      memory = refl;
      seat = refl;
      driver = refl;
      counts = refl;
      serves =
          (done (goal.at.returns-clause-framed c).After-put_from).serves;
    }
