use Rattle.std.proofs.Common.{◌≡◌, ◌++◌, drop, map, take}
use Rattle.driver_model.specs.Buttons.{edged}
use Rattle.driver_model.specs.Steps.{own_after}
use Rattle.button_capsule.proofs.telling.edges.Given as goal

-- the processes in the slots so far are told, and all others are as they were
abbrev pub invariant-loop-slot : goal.invariant-loop-slot
invariant-loop-slot l =
    (l.home.owns ≡ map (λ own. own_after (edged l.button l.state own)) (take l.slot l.fn.home.owns)
    ++ drop l.slot l.fn.home.owns)
    × (l.home.flash ≡ l.fn.home.flash)
