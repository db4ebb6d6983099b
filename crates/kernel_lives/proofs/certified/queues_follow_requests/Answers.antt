use Rattle.kernel_lives.proofs.Queues.{queues_follow_requests}
use Rattle.kernel_lives.proofs.certified.queues_follow_requests.Goals as goal

pub returns : goal.returns
returns c =
    queues_follow_requests c.queues_are_first_come_first_served.ensures.order c.lists_are_of_requests.ensures
