-- The buttons of the board. How many there are is this board's own rule.
use Rattle.std.specs.Prelude.{ℕ, Bool}
use Rattle.board_devices.specs.declared.buttons.Edge.{Edge}

-- the buttons: how many there are, and a mask of those that are pressed, bit n for button n
pub record ButtonsView : Type 0 where
  pub count : ℕ
  pub pressed : ℕ

-- what a change tells: which button, and whether it is pressed
abbrev pub told_by : Edge → ℕ × Bool
told_by edge = (edge.button, edge.state)
