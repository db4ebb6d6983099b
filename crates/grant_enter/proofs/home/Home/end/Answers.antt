use Rattle.std.proofs.Common.{◌≡◌, false, rules}
use Rattle.process_model.specs.Own.{own_ended}
use Rattle.grant_enter.proofs.Moves.{Reads, placed, reseated, reseated_only, reseated_shows}
use Rattle.process_seat.proofs.Reseated.{ended_own, requeued}
use Rattle.grant_enter.proofs.Moves.{sits_before}
use Rattle.grant_enter.proofs.home.Home.end.Goals as goal
use Rattle.grant_enter.proofs.home.Home.end.Goals.{After-clear}

-- the seat of the slot
reads : (c : After-clear) → Reads c.self.inside c.args.self.now c.args.slot c.index.result c.index_mut-seat.result.now
reads c = record {
  home = c.self.invariant;
  shown = c.self.view_is;
  there =
      placed c.args.self.now c.args.slot (search rules);
  is = c.index.ensures.value;
  read =
      c.index_mut-seat.ensures.value;
}

pub invariant_of-self : goal.invariant_of-self
invariant_of-self c =
    let r = reads (goal.at.invariant_of-self c).After-clear in
    reseated r c.self.inside.memory _ (requeued c.self.inside.memory c.index_mut-seat.result.now c.clear.new.self _
    (sits_before r))

pub returns-clause-own : goal.returns-clause-own
returns-clause-own c =
    let r = reads (goal.at.returns-clause-own c).After-clear in
    let seat = c.index_mut-seat.result.now in
    reseated_shows r c.self.inside.memory _ (requeued c.self.inside.memory seat c.clear.new.self false (sits_before r))
    (λ flash own own_after. own_after ≡ own_ended own)
    (ended_own c.self.inside.memory.ram seat c.clear.new.self c.clear.ensures)

pub returns-clause-rest : goal.returns-clause-rest
returns-clause-rest c =
    let r = reads (goal.at.returns-clause-rest c).After-clear in
    reseated_only r c.self.inside.memory _
    (requeued c.self.inside.memory c.index_mut-seat.result.now c.clear.new.self _ (sits_before r))
