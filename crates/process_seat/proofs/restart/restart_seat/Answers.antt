use Rattle.std.proofs.Common.{◌+◌, true}
use Rattle.process_seat.specs.declared.seat.Seat.{Seat}
use Rattle.process_seat.proofs.Restarted.{Restarts, clears, restarts}
use Rattle.process_seat.proofs.restart.restart_seat.Goals as goal
use Rattle.process_seat.proofs.restart.restart_seat.Goals.{After-clear_block}

pub clear_block-requires : goal.clear_block-requires
clear_block-requires c =
    clears c.args.memory.now c.args.seat.now c.requires.sits c.args.brk c.requires.from c.requires.to
    c.requires.aligned c.restart.new.self c.restart.ensures

-- the seat of the new life
abbrev again : (c : After-clear_block) → Seat
again c = record c.args.seat.now {
  layout = c.restart.new.self;
  inbox = c.clear.new.self;
  life =
      c.args.seat.now.life + 1;
  lives = true;
}

made : (c : After-clear_block)
    → Restarts c.args.memory.now c.args.seat.now c.args.brk c.clear_block.new.self (again c)
made c =
    restarts c.args.memory.now c.args.seat.now c.requires.sits c.args.brk c.requires.from c.requires.to
    c.requires.aligned c.what_is_laid_is_read_back.ensures c.clear_block.new.self c.restart.new.self c.clear.new.self
    c.restart.ensures c.clear.ensures c.clear_block.ensures

pub returns-clause-own : goal.returns-clause-own
returns-clause-own c = (made (goal.at.returns-clause-own c).After-clear_block).own

pub returns-clause-reseats : goal.returns-clause-reseats
returns-clause-reseats c = (made (goal.at.returns-clause-reseats c).After-clear_block).reseats
