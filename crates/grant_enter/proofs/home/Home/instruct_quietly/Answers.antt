use Rattle.process_seat.specs.Seats.{Reseats}
use Rattle.grant_enter.proofs.Instructions.{stores}
use Rattle.grant_enter.proofs.Moves.{Reads, reads_seat, seat_of, still_home, still_only}
use Rattle.grant_enter.proofs.Stretch.{all_made, changed, stopped}
use Rattle.grant_enter.proofs.home.Home.instruct_quietly.Goals as goal
use Rattle.grant_enter.proofs.home.Home.instruct_quietly.Goals.{After-self, After-turns_in}

-- the seat of the slot
reads : (c : After-self)
    → Reads c.self.inside c.args.self.now c.args.slot c.args.slot (seat_of c.self.inside c.args.slot)
reads c = reads_seat c.self.inside c.args.self.now c.args.slot c.self.invariant c.self.view_is c.requires.slot

pub turns_in-requires : goal.turns_in-requires
turns_in-requires c = stores (reads (goal.at.turns_in-requires c).After-self) c.args.pmp.now c.requires.protect

-- the seat afterwards
left : (c : After-turns_in)
    → Reseats c.self.inside.memory (seat_of c.self.inside c.args.slot) c.turns_in.new.memory
    (seat_of c.self.inside c.args.slot)
left c =
    let e = c.turns_in.ensures in
    changed (reads_seat c.self.inside c.args.self.now c.args.slot c.self.invariant c.self.view_is c.requires.slot)
    c.instruction_laws.ensures c.args.pmp.now c.requires.protect c.turns_in.result.went c.args.regs.now
    c.turns_in.new.regs c.turns_in.new.memory e.rest e.long e.goes

pub invariant_of-self : goal.invariant_of-self
invariant_of-self c = let at = goal.at.invariant_of-self c in
    still_home (reads at.After-self) c.turns_in.new.memory (left at.After-turns_in)

pub returns-clause-made : goal.returns-clause-made
returns-clause-made c =
    let e = c.turns_in.ensures in
    all_made (reads (goal.at.returns-clause-made c).After-self) c.instruction_laws.ensures c.args.pmp.now
    c.requires.protect c.turns_in.result.went c.args.regs.now c.turns_in.new.regs c.turns_in.new.memory e.rest
    e.long e.goes

pub returns-clause-stops : goal.returns-clause-stops
returns-clause-stops c =
    let e = c.turns_in.ensures in
    stopped (reads (goal.at.returns-clause-stops c).After-self) c.instruction_laws.ensures c.args.pmp.now
    c.requires.protect c.turns_in.result.went c.args.regs.now c.turns_in.new.regs c.turns_in.new.memory e.rest
    e.long e.goes c.args.most c.turns_in.result.end e.stops

pub returns-clause-rest : goal.returns-clause-rest
returns-clause-rest c = let at = goal.at.returns-clause-rest c in
    still_only (reads at.After-self) c.turns_in.new.memory (left at.After-turns_in)
