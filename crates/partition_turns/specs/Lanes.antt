-- The view that lanes tell.
use Rattle.std.specs.Prelude.{map}
use Rattle.partition_turns.specs.declared.lanes.Lanes.{Lanes}
use Rattle.partition_turns.specs.LanesView.{LanesView}

abbrev pub lanes_shown : Lanes → LanesView
lanes_shown l = record {
  time = l.time;
  n = l.n;
  slots = l.slots.items;
  event_ready = l.event_ready;
  event_at = l.event_at;
  devices = map (λ flags. flags.items) l.devices.items;
  alarm_at = l.alarm_at.items;
  uart_at = l.uart_at.items;
}
