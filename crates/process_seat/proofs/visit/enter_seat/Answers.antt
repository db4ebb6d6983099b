-- A driver is entered, and its value visited: room was made for its grant (`make_room_in`), which leaves a seat with
-- the definition's own (`own_entering`), and the visit goes on from that seat. The two changes of the seat join; where
-- there is no room, nothing was made.
use Rattle.std.proofs.Common.{◌≡◌, ℕ, List, sym, ap₂, subst, ◌∙◌}
use Rattle.process_layout.specs.LayoutView.{LayoutView}
use Rattle.board_memory.specs.Memory.{MemoryBytes}
use Rattle.process_model.specs.Own.{Own}
use Rattle.process_model.specs.Handed.{own_entering}
use Rattle.process_seat.specs.Seats.{Reseats, own_in}
use Rattle.process_seat.specs.Seen.{seen_of}
use Rattle.process_seat.specs.Visits.{Asks, FoundProcess, Visited, grants_of}
use Rattle.process_seat.proofs.Entering.{entered_own, entered_reseats, same_room}
use Rattle.process_seat.proofs.Alive.{lives_on}
use Rattle.process_seat.proofs.Outcomes.{visit_by}
use Rattle.process_seat.proofs.Reseated.{reseats_on}
use Rattle.process_seat.proofs.visit.enter_seat.Goals as goal
use Rattle.process_seat.proofs.visit.enter_seat.Given.{Over}
use Rattle.process_seat.proofs.visit.enter_seat.Goals.{In-Ok}

-- the seat once the driver was entered
roomed_seat : (g : Over) (c : In-Ok g)
    → Reseats c.args.memory.now c.args.seat.now c.make_room_in.new.memory
    (record c.args.seat.now { layout = c.make_room_in.new.layout })
roomed_seat g c =
    entered_reseats c.args.driver c.args.memory.now c.args.seat.now c.make_room_in.new.memory c.make_room_in.new.layout
    c.in-Ok.ensures.made c.pairs_stand_by_kind.ensures c.requires.sits

pub visit_at-requires-clause-sits : goal.visit_at-requires-clause-sits
visit_at-requires-clause-sits g c = (roomed_seat g (goal.at.visit_at-requires-clause-sits g c).In-Ok).sits

pub returns-clause-reseats : goal.returns-clause-reseats
returns-clause-reseats g c =
    reseats_on c.args.memory.now c.args.seat.now c.make_room_in.new.memory
    (record c.args.seat.now { layout = c.make_room_in.new.layout }) c.visit_at.new.memory c.visit_at.new.seat
    (roomed_seat g (goal.at.returns-clause-reseats g c).In-Ok) c.visit_at.ensures.reseats

-- what is its process's own then
entered : (g : Over) (c : In-Ok g)
    → own_in c.make_room_in.new.memory.ram (record c.args.seat.now { layout = c.make_room_in.new.layout })
    ≡ own_entering c.args.driver (own_in c.args.memory.now.ram c.args.seat.now)
entered g c =
    entered_own c.args.driver c.args.memory.now c.args.seat.now c.make_room_in.new.memory c.make_room_in.new.layout
    c.in-Ok.ensures.made c.requires.sits

pub visit_at-requires-clause-asks : goal.visit_at-requires-clause-asks
visit_at-requires-clause-asks g c =
    let at = (goal.at.visit_at-requires-clause-asks g c).In-Ok in
    subst (Asks g.T.GrantValue.kept (g.V.Visit.asks c.args.visitor))
    (ap₂ (seen_of c.args.driver c.args.counts) (sym c.in-Ok.ensures.made.grants.flash) (sym (entered g at)))
    c.requires.asks

pub returns-clause-enters : goal.returns-clause-enters
returns-clause-enters g c =
    let at = (goal.at.returns-clause-enters g c).In-Ok in
    let visit = visit_by (grants_of c.args.driver c.args.counts) g.T.GrantValue.kept c.args.visitor g.V.Visit.leaves in
    let room = c.in-Ok.ensures.room ∙ same_room c.args.driver c.args.memory.now c.args.seat.now c.requires.sits in (
      lives_on (own_in c.args.memory.now.ram c.args.seat.now) c.requires.lives,
      sym room,
      subst (λ (process : FoundProcess). Visited visit process c.visit_at.result
          (own_in c.visit_at.new.memory.ram c.visit_at.new.seat))
          (ap₂ (λ (flash : List ℕ) (own : Own). record { life = c.args.seat.now.life; flash = flash; own = own })
          c.in-Ok.ensures.made.grants.flash (entered g at)) c.visit_at.ensures.visited,
    )

pub returns-in_default-clause-enters : goal.returns-in_default-clause-enters
returns-in_default-clause-enters g c =
    let room = c.in_default.ensures.room
    ∙ same_room c.args.driver c.args.memory.now c.args.seat.now c.requires.sits in
    let refused = c.in_default.ensures.refused in (
      lives_on (own_in c.args.memory.now.ram c.args.seat.now) c.requires.lives,
      sym room,
      ap₂ (λ (m : MemoryBytes) (e : LayoutView). own_in m.ram (record c.args.seat.now { layout = e })) refused.0
          refused.1,
    )
