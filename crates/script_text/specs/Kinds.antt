-- The kind of an event, as contracts see what code has. It is this board's own.
use Rattle.script_text.specs.declared.script.EventKind.{EventKind as CodeKind}
use Rattle.script_text.specs.declared.script.EventKind.TheVariants as code
use Rattle.script_text.specs.Settings.{EventKind, Input, Press, Release, Act}

abbrev pub kind_of : CodeKind → EventKind
kind_of (code.Input bytes) = Input bytes.items
kind_of (code.Press button) = Press button
kind_of (code.Release button) = Release button
kind_of (code.Act verb name) = Act verb name.items
