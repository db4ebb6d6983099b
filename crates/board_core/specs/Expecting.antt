-- A world in which one more event is still to come in. It is this board's own rule.
use Rattle.script_text.specs.Settings.{ScriptEvent as Arrival}
use Rattle.board_devices.specs.Arriving.{inserted}
use Rattle.kernel_model.specs.World.{World}

-- a world in which an event is still to come in besides
abbrev pub expecting : Arrival → World → World
expecting e w = record w { devices = record w.devices { arrivals = inserted e w.devices.arrivals } }
