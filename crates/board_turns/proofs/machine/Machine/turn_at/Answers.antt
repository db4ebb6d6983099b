-- A turn of the process in a slot, by its state: one that runs or yielded gets what `run_on` or `wake` promised, of the
-- resident there. What they ask is what the turn asks of the slot (`may`). One that has ended has no turn, and nothing
-- changes.
use Rattle.std.proofs.Common.{◌≡◌, false, refl}
use Rattle.kernel_calls.specs.Residents.{resident}
use Rattle.board_turns.specs.Turning.{IsKnownEnd, MayTurn}
use Rattle.board_turns.proofs.Stopped.{same_home}
use Rattle.board_turns.proofs.Tables.{holds_here, steps_there}
use Rattle.board_turns.proofs.Turns.{rests, rests_seated}
use Rattle.board_turns.proofs.machine.Machine.turn_at.Goals as goal
use Rattle.board_turns.proofs.machine.Machine.turn_at.Goals.{After-index_mut-process}

-- the process there may have its turn
may : (c : After-index_mut-process)
    → (let r = resident c.args.self.now.home c.args.slot c.index_mut-process.result.now in
    MayTurn 1 c.args.slot c.args.self.now r × (r.0.held ≡ false)
    × IsKnownEnd c.args.known c.args.self.now.home.flash r)
may c = holds_here _ _ c.args.self.now _ _ c.index.ensures.value c.index_mut-process.ensures.value c.requires.turn

pub run_on-requires-clause-turn : goal.run_on-requires-clause-turn
run_on-requires-clause-turn c = (may (goal.at.run_on-requires-clause-turn c).After-index_mut-process).0

pub run_on-requires-clause-free : goal.run_on-requires-clause-free
run_on-requires-clause-free c = (may (goal.at.run_on-requires-clause-free c).After-index_mut-process).1

pub run_on-requires-clause-known : goal.run_on-requires-clause-known
run_on-requires-clause-known c = (may (goal.at.run_on-requires-clause-known c).After-index_mut-process).2

pub wake-requires-clause-turn : goal.wake-requires-clause-turn
wake-requires-clause-turn c = (may (goal.at.wake-requires-clause-turn c).After-index_mut-process).0

pub wake-requires-clause-free : goal.wake-requires-clause-free
wake-requires-clause-free c = (may (goal.at.wake-requires-clause-free c).After-index_mut-process).1

pub returns-in-Running-clause-turn : goal.returns-in-Running-clause-turn
returns-in-Running-clause-turn c =
    steps_there _ _ _ _ _ c.index.ensures.value c.index_mut-process.ensures.value c.requires.turn 1 _ _
    c.run_on.ensures.leaves c.run_on.ensures.turns

pub returns-in-Yielded-clause-turn : goal.returns-in-Yielded-clause-turn
returns-in-Yielded-clause-turn c =
    rw c.requires.quiet
    (steps_there _ _ _ _ _ c.index.ensures.value c.index_mut-process.ensures.value c.requires.turn 1 _ _
    c.wake.ensures.leaves c.wake.ensures.turns)

-- one that has ended is left as it is
pub returns-in-Faulted-clause-turn : goal.returns-in-Faulted-clause-turn
returns-in-Faulted-clause-turn c =
    let x = c.args.self.now in
    let r = resident x.home c.args.slot c.index_mut-process.result.now in
    let may = may (goal.at.returns-in-Faulted-clause-turn c).After-index_mut-process in
    rw c.requires.quiet
    (steps_there _ _ _ _ _ c.index.ensures.value c.index_mut-process.ensures.value c.requires.turn 1 x _ (record {
      seated = rests_seated x.home.flash x.moment.steps r may.0.seated;
      only = same_home c.args.slot x.home;
      guard = may.0.guard;
      rest = refl;
    }) (rests c.args.slot x r may.1 c.in-Faulted.is))
