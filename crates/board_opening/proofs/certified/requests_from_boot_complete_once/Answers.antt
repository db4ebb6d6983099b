use Rattle.std.proofs.Common.{[], ◌≡◌, refl, arith}
use Rattle.driver_model.specs.Commands.{QueueName}
use Rattle.driver_model.specs.Commands.{Writes}
use Rattle.kernel_model.specs.Named.{slots_in}
use Rattle.kernel_lives.specs.Lists.{times_in}
use Rattle.kernel_model.specs.Replay.{after_all}
use Rattle.board_opening.specs.Opening.{opening}
use Rattle.board_opening.proofs.Boots.{opens_living}
use Rattle.board_opening.proofs.certified.requests_from_boot_complete_once.Goals as goal

pub returns-clause-begin : goal.returns-clause-begin
returns-clause-begin c script flash choices choice queue slot =
    let w = opening script flash in
    c.requests_complete_once.ensures.begin (after_all w choices) choice queue slot
    (c.processes_live_as_they_run.ensures.lives w choices slot (opens_living script flash slot))

pub returns-clause-whole : goal.returns-clause-whole
unfolding opening
returns-clause-whole c script flash choices queue slot =
    let w = opening script flash in
    let lists = c.lists_from_boot_are_of_requests.ensures script flash [] in
    let none = nobody queue in
    let here = lists.each queue slot in
    let law = c.requests_complete_once.ensures.whole w choices queue slot lists in
    omega (arith, law, here, none)
  where
    nobody : (queue : QueueName) → times_in slot (slots_in queue (opening script flash).devices.waiting) ≡ 0
    nobody Writes = refl
    nobody queue = refl
