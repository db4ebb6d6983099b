-- What a status tells: the situation of the round robin; with time partitions the lanes of the slots; and the choice by
-- the one or the other. It is this board's own.
use Rattle.std.specs.Prelude.{◌≤◌, ◌*◌, ◌^◌, Option, None, Some}
use Rattle.std.specs.Option.{option_map}
use Rattle.tk_base.specs.declared.limits.TheConstants.{STEP_LIMIT}
use Rattle.tk_base.specs.declared.process.Choice.{Choice}
use Rattle.partition_turns.specs.Lanes.{lanes_shown}
use Rattle.partition_turns.specs.LanesView.{LanesView}
use Rattle.partition_turns.specs.Windows.{AreAhead, window_choice}
use Rattle.turn_scheduler.specs.declared.status.Status.{Status}
use Rattle.turn_scheduler.specs.RoundRobin.{IsNextAhead, choice}
use Rattle.turn_scheduler.specs.Situation.{Situation}

abbrev pub situation_shown : Status → Situation
situation_shown s = record {
  ready = s.ready.items;
  devices = s.devices.items;
  next = s.next;
  time = s.time;
  present = s.present;
  used = s.used;
  slice = s.slice;
}

-- the lanes, with time partitions
abbrev pub lanes_told : Status → Option LanesView
lanes_told s = option_map lanes_shown s.lanes

-- the next choice of the round robin; with time partitions that of the windows
abbrev pub choice_by : Situation → Option LanesView → Option Choice
choice_by s None = choice s
choice_by s (Some l) = window_choice l

-- there are windows, the time is one that a run reaches, and what is not ready becomes so later
pub record AreLanesAhead (l : LanesView) : Type 0 where
  pub some : 1 ≤ l.n
  pub reached : l.time ≤ STEP_LIMIT * 2 ^ 32
  pub ahead : AreAhead l

-- what is not ready becomes so later
abbrev pub IsChoiceAhead : Situation → Option LanesView → Type 0
IsChoiceAhead s None = IsNextAhead s
IsChoiceAhead s (Some l) = AreLanesAhead l
