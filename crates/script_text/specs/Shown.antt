-- The settings that a script shows. Only proofs use this.
use Rattle.std.specs.Prelude.{unwrap_or}
use Rattle.script_text.specs.declared.script.Script.TheInside.{Inside}
use Rattle.script_text.specs.Settings.{AreSound, ScriptSettings}

abbrev pub settings_of : Inside → ScriptSettings
settings_of s = record {
  ram = s.ram;
  leds = s.leds;
  buttons = s.buttons;
  slice = s.slice;
  partition = unwrap_or s.partition 0;
  start = s.start;
  uart = s.uart;
  storage = s.storage;
  policy = s.policy;
  strict = s.strict;
  faults = s.faults.items;
  words = s.words;
  events = s.events;
}

-- they are in their ranges
abbrev pub ScriptIsSound : Inside → Type 0
ScriptIsSound s = AreSound (settings_of s)
