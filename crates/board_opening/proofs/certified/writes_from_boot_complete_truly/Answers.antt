use Rattle.board_opening.specs.Opening.{opening}
use Rattle.board_opening.proofs.Boots.{opens_whole}
use Rattle.board_opening.proofs.certified.writes_from_boot_complete_truly.Goals as goal

pub returns : goal.returns
returns c script flash before begin choices slot write =
    c.writes_complete_truly.ensures _ begin choices slot write
    (λ at. c.owns_stay_whole.ensures.stays (opening script flash) before at
    (opens_whole script flash c.only_handing_changes_pairs.ensures at))
