use Rattle.partition_turns.proofs.Ticks.{each_tick_is_a_turn, ready_has_its_window}
use Rattle.partition_turns.proofs.laws.ready_has_its_window.Goals as goal

pub returns-clause-ticks : goal.returns-clause-ticks
returns-clause-ticks c = each_tick_is_a_turn

pub returns-clause-window : goal.returns-clause-window
returns-clause-window c = ready_has_its_window
