-- Only proofs use this: what is kept of the lines so far.
use Rattle.std.specs.Prelude.{◌≡◌, ℕ, Bool, true, false, List, [], ◌∷◌, ◌++◌, map, drop, Some, None, Result, Ok, Err}
use Rattle.script_text.specs.declared.draft.Draft.TheInside.{Inside}
use Rattle.script_text.specs.declared.draft.Trouble.{Trouble}
use Rattle.script_text.specs.declared.draft.Trouble.TheVariants.{Breaks, Memory}
use Rattle.script_text.specs.declared.table.Line.{Line}
use Rattle.script_text.specs.declared.table.Line.TheVariants.{Ram, Leds, Buttons, Slice, Partition, Start, Uart}
use Rattle.script_text.specs.declared.table.Line.TheVariants.{Storage, Stop}
use Rattle.script_text.specs.declared.table.Line.TheVariants.{FilterOpen, FilterStrict, StorageFault, Random, Input}
use Rattle.script_text.specs.declared.table.Line.TheVariants.{Press, Release, Act}
use Rattle.decimal_number.specs.Number.{number}
use Rattle.script_text.specs.Settings.{ScriptSettings, AreSound}
use Rattle.script_text.specs.Text.{word}
use Rattle.script_text.specs.Rules.{broken}
use Rattle.script_text.specs.Said.{settings, policy_by, event_by}
use Rattle.script_text.specs.Parts.{stands, hex_word}

-- what the lines so far say, and which of those that may not repeat stand already
pub record Drafted : Type 0 where
  pub said : ScriptSettings
  pub stood : List Bool

abbrev pub drafted_by : Inside → Drafted
drafted_by d = record {
  said = record {
    ram = d.ram;
    leds = d.leds;
    buttons = d.buttons;
    slice = d.slice;
    partition = d.partition;
    start = d.start;
    uart = d.uart;
    storage = d.storage;
    policy = d.policy;
    strict = d.strict;
    faults = d.faults.items;
    words = d.words.items;
    events = d.events.items;
  };
  stood = d.stood;
}

-- which of them stand among lines
abbrev pub stood_in : List (List ℕ) → List Bool
stood_in all =
    stands Ram all ∷ stands Leds all ∷ stands Buttons all ∷ stands Slice all ∷ stands Start all ∷ stands Uart all
    ∷ stands Storage all ∷ stands Stop all ∷ stands FilterOpen all ∷ stands Partition all ∷ []

-- a draft has what these lines say
pub record DraftSays (before : List (List ℕ)) (draft : Drafted) : Type 0 where
  pub said : draft.said ≡ settings before
  pub stood : draft.stood ≡ stood_in before
  pub sound : AreSound (settings before)

-- the settings with what a line more says
abbrev pub with_line : Line → List (List ℕ) → ScriptSettings → ScriptSettings
with_line Ram ws said = record said { ram = number (word ws 1) }
with_line Leds ws said = record said { leds = number (word ws 1) }
with_line Buttons ws said = record said { buttons = number (word ws 1) }
with_line Slice ws said = record said { slice = number (word ws 1) }
with_line Partition ws said = record said { partition = number (word ws 1) }
with_line Start ws said = record said { start = number (word ws 1) }
with_line Uart ws said = record said { uart = number (word ws 1) }
with_line Storage ws said = record said { storage = number (word ws 1) }
with_line FilterOpen ws said = record said { strict = false }
with_line FilterStrict ws said = record said { strict = true }
with_line StorageFault ws said = record said { faults = said.faults ++ number (word ws 1) ∷ [] }
with_line Random ws said = record said { words = said.words ++ map hex_word (drop 1 ws) }
with_line Input ws said = record said { events = said.events ++ event_by Input ws ∷ [] }
with_line Press ws said = record said { events = said.events ++ event_by Press ws ∷ [] }
with_line Release ws said = record said { events = said.events ++ event_by Release ws ∷ [] }
with_line Act ws said = record said { events = said.events ++ event_by Act ws ∷ [] }
with_line line ws said = record said { policy = policy_by line ws }

-- a line was added, or the first rule that it breaks was found
abbrev pub Adds : List (List ℕ) → List ℕ → Drafted → Result (Unit {0}) Trouble → Type 0
Adds before text p (Ok done) = (broken before text ≡ None) × DraftSays (before ++ text ∷ []) p
Adds before text p (Err (Breaks rule)) = broken before text ≡ Some rule
Adds before text p (Err Memory) = Unit {0}
