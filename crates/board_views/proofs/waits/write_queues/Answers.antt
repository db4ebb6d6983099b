use Rattle.board_views.specs.States.{queues_text}
use Rattle.board_views.proofs.waits.write_queues.Goals as goal

pub returns : goal.returns
unfolding queues_text
returns g c =
    let law = c.writes_compose.ensures in
    law.all_then_writes _ _ _ c.in_ok-write_queue.ensures (law.all_then_writes _ _ _ c.in_ok-write_queue-2.ensures
    (law.all_then_writes _ _ _ c.in_ok-write_queue-3.ensures c.write_queue-4.ensures))
