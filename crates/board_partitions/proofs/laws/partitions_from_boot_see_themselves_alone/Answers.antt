use Rattle.board_partitions.proofs.Boots.{runs_are_partitioned, same_object_same_record, same_object_same_times}
use Rattle.board_partitions.proofs.Starts.{blocks_start_with_their_shares}
use Rattle.board_partitions.proofs.laws.partitions_from_boot_see_themselves_alone.Goals as goal

pub returns-clause-starts : goal.returns-clause-starts
returns-clause-starts c = blocks_start_with_their_shares

pub returns-clause-told : goal.returns-clause-told
returns-clause-told c =
    same_object_same_times c.a_process_depends_on_its_own_view_alone.ensures.opens blocks_start_with_their_shares
    c.a_partition_sees_itself_alone.ensures.told

pub returns-clause-record_is : goal.returns-clause-record_is
returns-clause-record_is c =
    same_object_same_record c.a_process_depends_on_its_own_view_alone.ensures.opens blocks_start_with_their_shares
    c.a_partition_sees_itself_alone.ensures.record_is

pub returns-clause-runs : goal.returns-clause-runs
returns-clause-runs c =
    let opens = c.a_process_depends_on_its_own_view_alone.ensures.opens in
    let law = c.a_partition_sees_itself_alone.ensures in
    runs_are_partitioned c.scripts_with_partitions_have_no_acts.ensures
    (same_object_same_times opens blocks_start_with_their_shares law.told)
    (same_object_same_record opens blocks_start_with_their_shares law.record_is)
