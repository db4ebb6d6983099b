use Rattle.std.proofs.Common.{[], sym, ◌∙◌}
use Rattle.std.proofs.lemmas.List.{get_or-replicate}
use Rattle.kernel_model.specs.World.{lane_count}
use Rattle.board_opening.specs.Opening.{opening}
use Rattle.board_opening.proofs.certified.words_from_boot_are_the_scripts.Goals as goal

pub returns : goal.returns
unfolding opening
returns c = λ script flash choices lane there.
    sym (get_or-replicate (lane_count script.partition) lane script.words [] there)
    ∙ c.words_are_drawn_in_order.ensures (opening script flash) choices lane
