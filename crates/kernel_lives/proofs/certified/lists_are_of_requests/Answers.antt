use Rattle.kernel_lives.proofs.Lists.{lists_stay}
use Rattle.kernel_lives.proofs.certified.lists_are_of_requests.Goals as goal

pub returns : goal.returns
returns c = lists_stay c.lines_follow_answers.ensures c.events_tell_steps.ensures c.turns_keep_lines.ensures.lines
    c.processes_live_as_they_run.ensures.lives
