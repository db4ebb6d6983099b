use Rattle.kernel_partitions.proofs.Turns.{each_tick_is_its_turn, whole_window_is_its_turns}
use Rattle.kernel_partitions.proofs.laws.a_ready_slot_has_its_window.Goals as goal

pub returns-clause-ticks : goal.returns-clause-ticks
returns-clause-ticks c = each_tick_is_its_turn c.next_is_of_the_window.ensures.next c.windows_are_in_turn.ensures

pub returns-clause-whole : goal.returns-clause-whole
returns-clause-whole c = whole_window_is_its_turns c.next_is_of_the_window.ensures.next c.windows_are_in_turn.ensures
