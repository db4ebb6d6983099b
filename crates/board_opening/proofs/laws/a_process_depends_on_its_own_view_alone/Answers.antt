use Rattle.board_opening.proofs.Alone.{openings_are_alone, runs_are_alone, same_view_same_record}
use Rattle.board_opening.proofs.laws.a_process_depends_on_its_own_view_alone.Goals as goal

pub returns-clause-opens : goal.returns-clause-opens
returns-clause-opens c = openings_are_alone

pub returns-clause-same : goal.returns-clause-same
returns-clause-same c = same_view_same_record c.a_record_is_the_replay_of_its_events.ensures.same

pub returns-clause-runs : goal.returns-clause-runs
returns-clause-runs c =
    runs_are_alone c.a_record_is_the_replay_of_its_events.ensures.replay
    c.a_record_is_the_replay_of_its_events.ensures.round
