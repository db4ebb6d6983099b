-- Each kind of step keeps `MakesStep` of its own choice, and `steps_so` makes the step of it, arm by arm; the known end
-- is handed on to the turn alone. That records are replays and that steps are accounted for are laws of the world.
use Rattle.std.proofs.Common.{ap, subst, sym, ◌∙◌}
use Rattle.tk_base.specs.declared.process.Choice.TheVariants.{Run, Device}
use Rattle.kernel_model.specs.World.{World}
use Rattle.board_core.specs.KnownEnds.{IsKnownOfChoice}
use Rattle.board_core.specs.Makes.{MakesStep, showing}
use Rattle.board_core.specs.Shows.{world_of}
use Rattle.board_core.proofs.Steps.{refused_at_limit, steps_so}
use Rattle.board_core.proofs.board.Board.step_with_end.Goals as goal

pub make_turn-requires-clause-known : goal.make_turn-requires-clause-known
make_turn-requires-clause-known c =
    subst (λ (w : World). IsKnownOfChoice w c.args.end (Run c.in-Run.slot)) (sym c.self.view_is)
    (subst (IsKnownOfChoice c.args.self.now c.args.end) c.in-Run.is c.requires)

-- a turn makes the step of the world that the board shows
pub returns-in-Run : goal.returns-in-Run
returns-in-Run c =
    steps_so c.a_record_is_the_replay_of_its_events.ensures.replay
    (c.steps_are_accounted_for.ensures.any c.args.self.now c.args.choice c.owns_are_whole.ensures) c.in-Run.is
    (subst (λ (w : World). MakesStep (Run c.in-Run.slot) (showing w c.args.emit.now)
    (showing (world_of c.make_turn.new.state) c.make_turn.new.emit) c.make_turn.result) c.self.view_is
    c.make_turn.ensures.step)

pub returns-in-Event : goal.returns-in-Event
returns-in-Event c =
    steps_so c.a_record_is_the_replay_of_its_events.ensures.replay
    (c.steps_are_accounted_for.ensures.any c.args.self.now c.args.choice c.owns_are_whole.ensures)
    (c.in-Device.is ∙ ap Device c.in-Event.is) c.arrive.ensures

pub returns-in-Alarm : goal.returns-in-Alarm
returns-in-Alarm c =
    steps_so c.a_record_is_the_replay_of_its_events.ensures.replay
    (c.steps_are_accounted_for.ensures.any c.args.self.now c.args.choice c.owns_are_whole.ensures) c.in-Device.is
    c.tell.ensures

pub returns-in-Pass : goal.returns-in-Pass
returns-in-Pass c =
    steps_so c.a_record_is_the_replay_of_its_events.ensures.replay
    (c.steps_are_accounted_for.ensures.any c.args.self.now c.args.choice c.owns_are_whole.ensures) c.in-Pass.is
    c.pass.ensures

pub returns-then-self-ge-STEP_LIMIT : goal.returns-then-self-ge-STEP_LIMIT
returns-then-self-ge-STEP_LIMIT c =
    refused_at_limit c.a_record_is_the_replay_of_its_events.ensures.replay
    (c.steps_are_accounted_for.ensures.any c.args.self.now c.args.choice c.owns_are_whole.ensures) c.self.view_is
    c.if-self-ge-STEP_LIMIT.true
