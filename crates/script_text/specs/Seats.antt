-- Only proofs use this: the lines that may not repeat.
use Rattle.std.specs.Prelude.{ℕ, true, false, Bool, List, slice_index_or, slice_set, Option, Some, None}
use Rattle.std.specs.Option.{option_map_or}
use Rattle.script_text.specs.declared.table.Form.{Form}
use Rattle.script_text.specs.declared.table.Line.{Line}
use Rattle.script_text.specs.declared.table.Line.TheVariants.{Ram, Leds, Buttons, Slice, Partition, Start, Uart}
use Rattle.script_text.specs.declared.table.Line.TheVariants.{Storage, Stop, Restart, Threshold, FilterOpen}
use Rattle.script_text.specs.declared.table.Line.TheVariants.{FilterStrict, StorageFault, Random, Input}
use Rattle.script_text.specs.declared.table.Line.TheVariants.{Press, Release, Act}
use Rattle.script_text.specs.Table.{row}

-- the place of a line among those that may not repeat
abbrev pub seat : Line → Option ℕ
seat Ram = Some 0
seat Leds = Some 1
seat Buttons = Some 2
seat Slice = Some 3
seat Start = Some 4
seat Uart = Some 5
seat Storage = Some 6
seat Stop = Some 7
seat Restart = Some 7
seat Threshold = Some 7
seat FilterOpen = Some 8
seat FilterStrict = Some 8
seat Partition = Some 9
seat StorageFault = None
seat Random = None
seat Input = None
seat Press = None
seat Release = None
seat Act = None

abbrev pub stood_at : Line → List Bool → Bool
stood_at line stood = option_map_or (λ n. slice_index_or stood n false) (seat line) false

-- which stand after one more
abbrev pub stood_after : Line → List Bool → List Bool
stood_after line stood = option_map_or (λ n. slice_set stood n true) (seat line) stood

-- the form of a line of random words
abbrev pub random_form : Form
random_form = (row Random).form
