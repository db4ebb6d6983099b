use Rattle.std.proofs.Common.{◌≡◌, map, take}
use Rattle.std.specs.List.{zip}
use Rattle.kernel_calls.specs.Residents.{resident_line}
use Rattle.board_core.proofs.lines.slot_lines.Given as goal

abbrev pub invariant-loop-place : goal.invariant-loop-place
invariant-loop-place l = l.lines.items ≡ map (resident_line l.home.flash) (take l.place (zip l.processes l.home.owns))
