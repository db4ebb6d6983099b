use Rattle.std.proofs.Common.{Option, IfSome, subst, ◌∙◌}
use Rattle.kernel_model.specs.Record.{Record}
use Rattle.kernel_model.specs.Lives.{LivesAsItRuns}
use Rattle.kernel_model.specs.Replay.{after_all}
use Rattle.kernel_lives.specs.Ended.{IsFreeOnceEnded}
use Rattle.board_opening.specs.Opening.{opening}
use Rattle.board_opening.proofs.Boots.{opens_free, opens_living}
use Rattle.board_opening.proofs.certified.ended_processes_from_boot_stay.Goals as goal

pub returns-clause-free : goal.returns-clause-free
returns-clause-free c =
    λ script flash choices slot.
    c.processes_live_as_they_run.ensures.free _ choices slot (opens_free script flash slot)

pub returns-clause-stay : goal.returns-clause-stay
returns-clause-stay c =
    λ script flash choices more slot r is over none.
    let law = c.processes_live_as_they_run.ensures in
    let v = after_all (opening script flash) choices in
    let lives = subst (λ (o : Option Record). IfSome o LivesAsItRuns) is
    (law.lives (opening script flash) choices slot (opens_living script flash slot)) in
    let free = subst (λ (o : Option Record). IfSome o IsFreeOnceEnded) is
    (law.free (opening script flash) choices slot (opens_free script flash slot)) in
    law.ended v more slot r is over (free over) (lives.lives ∙ over) none
