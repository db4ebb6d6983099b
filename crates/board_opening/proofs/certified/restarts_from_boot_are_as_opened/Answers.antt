use Rattle.std.proofs.Common.{Option, IfSome, subst}
use Rattle.kernel_model.specs.Record.{Record}
use Rattle.kernel_model.specs.Lives.{IsAtFirst}
use Rattle.board_opening.proofs.Boots.{opens_at_first}
use Rattle.board_opening.proofs.certified.restarts_from_boot_are_as_opened.Goals as goal

pub returns : goal.returns
returns c = λ script flash choices choice slot first before now is there later more.
    c.restarts_are_as_opened.ensures _ choices choice slot first before now is
    (subst (λ (o : Option Record). IfSome o IsAtFirst) is (opens_at_first script flash slot)) there later more
