use Rattle.board_core.proofs.Following.{follow_events}
use Rattle.board_core.proofs.play.processes_follow_their_own_events.Goals as goal

pub returns : goal.returns
returns c =
    follow_events c.a_record_is_the_replay_of_its_events.ensures.replay
    c.a_record_is_the_replay_of_its_events.ensures.same c.a_record_is_the_replay_of_its_events.ensures.round
    c.each_edge_comes_once.ensures c.a_partition_sees_itself_alone.ensures.told
    c.a_partition_sees_itself_alone.ensures.record_is
