use Rattle.std.proofs.Common.{◌≡◌, ◌≤◌, filter_map, length, take}
use Rattle.board_opening.specs.Opening.{unplaced_at}
use Rattle.board_opening.proofs.boot.unplaced.Given as goal

abbrev pub invariant-loop-application : goal.invariant-loop-application
invariant-loop-application l =
    (l.unplaced.items ≡ filter_map unplaced_at (take l.application-index l.placed))
    × (length l.unplaced.items ≤ l.application-index)
