use Rattle.std.proofs.Common.{take}
use Rattle.board_opening.specs.Boot.{IsCrew}
use Rattle.board_opening.proofs.boot.first_crew.Given as goal

abbrev pub invariant-loop-application : goal.invariant-loop-application
invariant-loop-application l = IsCrew l.flash (take l.application-index l.placed) l.crew
