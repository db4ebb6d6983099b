use Rattle.kernel_model.proofs.Replays.{record_is_replay, round_follows_choices, same_history_same_record}
use Rattle.kernel_model.proofs.laws.a_record_is_the_replay_of_its_events.Goals as goal

pub returns-clause-replay : goal.returns-clause-replay
returns-clause-replay c = record_is_replay

pub returns-clause-same : goal.returns-clause-same
returns-clause-same c = same_history_same_record

pub returns-clause-round : goal.returns-clause-round
returns-clause-round c = round_follows_choices
