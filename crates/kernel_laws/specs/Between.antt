-- How laws of what happens to one process are said: of its record before a step and after it, and of what the step
-- tells of it. What a step tells is this board's own rule.
use Rattle.std.specs.Prelude.{◌≡◌, true, false, All, slice_get, IsSomeAnd}
use Rattle.tk_base.specs.declared.process.Choice.{Choice}
use Rattle.kernel_model.specs.Record.{Record}
use Rattle.kernel_model.specs.Turn.{Event, TurnTrace, is_turn}
use Rattle.kernel_model.specs.World.{Label, World, after, labels}

-- of a label that tells a turn, in a step from one world to another: the process in its slot is there before and after
abbrev pub OfTurnIn : (Record → Record → TurnTrace → Type 0) → World → World → Label → Type 0
OfTurnIn Holds w v label =
    is_turn label.event ≡ true →
    IsSomeAnd (slice_get w.records label.slot) (λ r.
    IsSomeAnd (slice_get v.records label.slot) (λ s. Holds r s label.trace))

-- of a label that tells what a device did for a process, or an operator to it
abbrev pub OfAnswerIn : (Event → Record → Record → Type 0) → World → World → Label → Type 0
OfAnswerIn Holds w v label =
    is_turn label.event ≡ false →
    IsSomeAnd (slice_get w.records label.slot) (λ r.
    IsSomeAnd (slice_get v.records label.slot) (λ s. Holds label.event r s))

-- so it is in every step of every world, whoever makes the choice
abbrev pub OfEachTurn : (Record → Record → TurnTrace → Type 0) → Type 0
OfEachTurn Holds = (w : World) (choice : Choice) → All (OfTurnIn Holds w (after w choice)) (labels w choice)

-- and so of what devices and operators do
abbrev pub OfEachAnswer : (Event → Record → Record → Type 0) → Type 0
OfEachAnswer Holds = (w : World) (choice : Choice) → All (OfAnswerIn Holds w (after w choice)) (labels w choice)
