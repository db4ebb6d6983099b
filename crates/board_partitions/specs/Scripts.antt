-- What a script with time partitions does not say. It is this board's own rule.
use Rattle.std.specs.Prelude.{◌≡◌, ◌≤◌, ℕ, List, All, Ok}
use Rattle.script_text.specs.Reading.{reading}
use Rattle.script_text.specs.Settings.{ScriptSettings as Script}
use Rattle.kernel_partitions.specs.Alike.{IsNoAct}

-- a script that was read and divides time lets no operator act
abbrev pub ScriptsWithPartitionsHaveNoActs : Type 0
ScriptsWithPartitionsHaveNoActs = (text : List ℕ) (script : Script) → reading text ≡ Ok script →
    1 ≤ script.partition → All IsNoAct script.events
