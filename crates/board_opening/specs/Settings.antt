-- The settings of a board under a script. They are this board's own.
use Rattle.std.specs.Prelude.{◌==◌, Bool, not}
use Rattle.script_text.specs.Settings.{ScriptSettings as Script}
use Rattle.kernel_model.specs.declared.settings.Settings.{Settings}

-- of what a script says processes can see how many LEDs and buttons there are, what the alarm's clock shows at time 0,
-- how many bytes of storage a slot has, the policy for processes that fault, and whether an application without a
-- Permissions TLV is refused every call to a driver
abbrev pub visible_settings : Script → Settings
visible_settings script = record {
  leds = script.leds;
  buttons = script.buttons;
  start = script.start;
  storage = script.storage;
  policy = script.policy;
  strict = script.strict;
}

-- whether a script divides time and RAM among the slots
abbrev pub is_partitioned : Script → Bool
is_partitioned script = not (script.partition == 0)
