use Rattle.process_seat.specs.Seats.{Reseats}
use Rattle.grant_enter.proofs.Instructions.{changed, in_place, makes, stores}
use Rattle.grant_enter.proofs.Moves.{Reads, reads_seat, seat_of, still_home, still_only}
use Rattle.grant_enter.proofs.home.Home.instruct.Goals as goal
use Rattle.grant_enter.proofs.home.Home.instruct.Goals.{After-self, After-turn_in}

-- the seat of the slot
reads : (c : After-self)
    → Reads c.self.inside c.args.self.now c.args.slot c.args.slot (seat_of c.self.inside c.args.slot)
reads c = reads_seat c.self.inside c.args.self.now c.args.slot c.self.invariant c.self.view_is c.requires.slot

pub turn_in-requires : goal.turn_in-requires
turn_in-requires c = stores (reads (goal.at.turn_in-requires c).After-self) c.args.pmp.now c.requires.protect

-- the seat afterwards
left : (c : After-turn_in)
    → Reseats c.self.inside.memory (seat_of c.self.inside c.args.slot) c.turn_in.new.memory
    (seat_of c.self.inside c.args.slot)
left c = changed (reads_seat c.self.inside c.args.self.now c.args.slot c.self.invariant c.self.view_is c.requires.slot)
    c.a_store_is_put.ensures c.writes_are_permitted.ensures c.args.pmp.now c.requires.protect c.turn_in.new.memory
    c.args.regs.now c.turn_in.ensures.memory

pub invariant_of-self : goal.invariant_of-self
invariant_of-self c = let at = goal.at.invariant_of-self c in
    still_home (reads at.After-self) c.turn_in.new.memory (left at.After-turn_in)

pub returns-clause-made : goal.returns-clause-made
returns-clause-made c =
    makes (reads (goal.at.returns-clause-made c).After-self) c.a_store_is_put.ensures c.writes_are_permitted.ensures
    c.args.pmp.now c.requires.protect c.turn_in.new.memory c.args.regs.now c.turn_in.ensures.memory c.turn_in.new.regs
    c.turn_in.result c.sees_only_permitted.ensures c.turn_in.ensures.regs c.turn_in.ensures.end

pub returns-clause-rest : goal.returns-clause-rest
returns-clause-rest c = let at = goal.at.returns-clause-rest c in
    still_only (reads at.After-self) c.turn_in.new.memory (left at.After-turn_in)

pub returns-clause-place : goal.returns-clause-place
returns-clause-place c = in_place (reads (goal.at.returns-clause-place c).After-self)
