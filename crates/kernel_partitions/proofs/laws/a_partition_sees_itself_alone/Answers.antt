use Rattle.kernel_partitions.proofs.Records.{record_is_replayed, same_record_at_each_time}
use Rattle.kernel_partitions.proofs.Runs.{a_slot_sees_itself_alone}
use Rattle.kernel_partitions.proofs.laws.a_partition_sees_itself_alone.Goals as goal

pub returns-clause-told : goal.returns-clause-told
returns-clause-told c =
    a_slot_sees_itself_alone c.no_alarm_is_due_before_the_next.ensures c.windows_are_in_turn.ensures
    c.next_is_of_the_window.ensures.next

pub returns-clause-replayed : goal.returns-clause-replayed
returns-clause-replayed c =
    let law = c.a_record_is_the_replay_of_its_events.ensures in
    record_is_replayed law.replay law.round

pub returns-clause-record_is : goal.returns-clause-record_is
returns-clause-record_is c =
    let law = c.a_record_is_the_replay_of_its_events.ensures in
    same_record_at_each_time (a_slot_sees_itself_alone c.no_alarm_is_due_before_the_next.ensures
    c.windows_are_in_turn.ensures c.next_is_of_the_window.ensures.next) (record_is_replayed law.replay law.round)
