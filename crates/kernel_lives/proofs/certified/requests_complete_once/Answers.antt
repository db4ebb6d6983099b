use Rattle.kernel_lives.proofs.Begun.{requests_begin_by_commands}
use Rattle.kernel_lives.proofs.Requests.{requests_add_up, requests_end_with_their_life}
use Rattle.kernel_lives.proofs.Withdrawn.{requests_are_withdrawn}
use Rattle.kernel_lives.proofs.certified.requests_complete_once.Goals as goal

pub returns-clause-whole : goal.returns-clause-whole
returns-clause-whole c =
    requests_add_up c.queues_are_first_come_first_served.ensures.first c.lists_are_of_requests.ensures

pub returns-clause-life : goal.returns-clause-life
returns-clause-life c =
    requests_end_with_their_life c.drivers_keep_places_and_order.ensures c.turns_keep_lines.ensures.lines

pub returns-clause-begin : goal.returns-clause-begin
returns-clause-begin c =
    requests_begin_by_commands c.lines_follow_answers.ensures c.events_tell_steps.ensures
    c.drivers_keep_places_and_order.ensures

pub returns-clause-withdrawn : goal.returns-clause-withdrawn
returns-clause-withdrawn c = requests_are_withdrawn c.lines_follow_answers.ensures
