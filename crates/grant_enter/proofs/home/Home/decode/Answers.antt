use Rattle.std.proofs.Common.{rules}
use Rattle.std.proofs.Common.{true, refl, ap}
use Rattle.board_memory.specs.Memory.{MemoryBytes}
use Rattle.process_seat.specs.Seats.{Reseats, SitsIn, own_in}
use Rattle.grant_enter.proofs.Moves.{Reads, reseated, reseated_same, sits_before}
use Rattle.process_seat.proofs.Reseated.{known, same_memory}
use Rattle.grant_enter.proofs.home.Home.decode.Goals.{After-decode, After-index_mut-seat}
use Rattle.grant_enter.proofs.home.Home.decode.Goals as goal

-- the seat of the slot
reads : (c : After-index_mut-seat)
    → Reads c.self.inside c.args.self.now c.args.slot c.index.result c.index_mut-seat.result.now
reads c = search rules

-- the seat where nothing has to be decoded
stays : (c : After-index_mut-seat)
    → Reseats c.self.inside.memory c.index_mut-seat.result.now c.self.inside.memory c.index_mut-seat.result.now
stays c =
    same_memory c.self.inside.memory c.index_mut-seat.result.now c.index_mut-seat.result.now refl refl refl refl
    (sits_before (reads c))

pub invariant_of-self : goal.invariant_of-self
invariant_of-self c =
    let a = (goal.at.invariant_of-self c).After-index_mut-seat in
    reseated (reads a) c.self.inside.memory c.index_mut-seat.result.now (stays a)

pub returns-then-seat : goal.returns-then-seat
returns-then-seat c =
    let a = (goal.at.returns-then-seat c).After-index_mut-seat in
    reseated_same (reads a) c.self.inside.memory c.index_mut-seat.result.now (stays a) refl

-- the seat afterwards
left : (c : After-decode) → SitsIn c.self.inside.memory c.index_mut-seat.result.now
    → Reseats c.self.inside.memory c.index_mut-seat.result.now c.decode.new.self
    (record c.index_mut-seat.result.now { decoded = true })
left c sits = known c.self.inside.memory c.index_mut-seat.result.now c.decode.new.self c.decode.ensures sits

pub invariant_of-self-2 : goal.invariant_of-self-2
invariant_of-self-2 c =
    let at = goal.at.invariant_of-self-2 c in
    let r = reads at.After-index_mut-seat in
    reseated r c.decode.new.self _ (left at.After-decode (sits_before r))

pub returns : goal.returns
returns c =
    let at = goal.at.returns c in
    let r = reads at.After-index_mut-seat in
    reseated_same r c.decode.new.self _ (left at.After-decode (sits_before r))
    (ap (λ (m : MemoryBytes). own_in m.ram c.index_mut-seat.result.now) c.decode.ensures)
