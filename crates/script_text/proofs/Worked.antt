-- Worked cases of the reading, computed from the definitions alone: what scripts say, and for which line and rule they
-- are refused. What they say was put together by hand from the table of lines at `read_script`.
use Rattle.std.proofs.Common.{◌≡◌, ℕ, true, false, List, [], ◌∷◌, ◌++◌, map, replicate, codes, Result, Ok, Err, refl}
use Rattle.hex.specs.Hex.{decode_pairs}
use Rattle.fault_policy.specs.declared.Policy.TheVariants.{Stop, Restart, Threshold}
use Rattle.script_text.specs.declared.rule.ScriptRule.{ScriptRule}
use Rattle.script_text.specs.declared.rule.ScriptRule.TheVariants.{UnknownWord, Words, BadNumber, BadHex, OutOfRange}
use Rattle.script_text.specs.declared.rule.ScriptRule.TheVariants.{Repeated, Order, TooMany}
use Rattle.tk_base.specs.declared.process.Verb.TheVariants as verbs
use Rattle.tk_base.specs.Verbs.{verb_of}
use Rattle.script_text.specs.Settings.{Act, ScriptSettings, Input, Press, Release}
use Rattle.script_text.specs.Reading.{Fault, reading, faults}
use Rattle.script_text.specs.Text.{lines, words}
use Rattle.script_text.specs.Rules.{in_order, broken, name_of_rule}
use Rattle.script_text.specs.Said.{lines_of, hex_bytes}
use Rattle.script_text.specs.Table.{line_of}

-- what a script without a line says
nothing : ScriptSettings
nothing = record {
  ram = 65536;
  leds = 4;
  buttons = 0;
  slice = 100;
  partition = 0;
  start = 0;
  uart = 1;
  storage = 512;
  policy = Stop;
  strict = false;
  faults = [];
  words = [];
  events = [];
}

-- scripts, each with what it says: blanks and comments
blank : List (List ℕ × ScriptSettings)
blank =
    (codes "", nothing)
    ∷ (codes "# nothing", nothing)
    ∷ (codes "\n\r\n \t\n# x\n", nothing)
    ∷ (codes "ram 4096", record nothing { ram = 4096 })
    ∷ (codes "\tram \t 8192 \r", record nothing { ram = 8192 })
    ∷ (codes "# x\n\n \t\nram 8192\r\n", record nothing { ram = 8192 })
    ∷ (codes "#ram 1\nram 8192\n#ram 2", record nothing { ram = 8192 })
    ∷ []

-- the ends of the ranges, the policies and the filters
numbers : List (List ℕ × ScriptSettings)
numbers =
    (codes "ram 262144\n", record nothing { ram = 262144 })
    ∷ (codes "ram 0000004096", record nothing { ram = 4096 })
    ∷ (codes "leds 0\nslice 1\npolicy restart", record nothing { leds = 0; slice = 1; policy = Restart })
    ∷ (
      codes "policy threshold 4294967295\nslice 1000000\nleds 16\nram 4096",
      record nothing { ram = 4096; leds = 16; slice = 1000000; policy = Threshold 4294967295 },
    )
    ∷ (codes "slice 2\npolicy threshold 2", record nothing { slice = 2; policy = Threshold 2 })
    ∷ (codes "policy stop", nothing) ∷ (codes "filter strict", record nothing { strict = true })
    ∷ (codes "filter open", nothing)
    ∷ (codes "filter\tstrict\npolicy restart", record nothing { policy = Restart; strict = true })
    ∷ (
      codes "start 4294967280\nuart 0\nstorage 4096",
      record nothing { start = 4294967280; uart = 0; storage = 4096 },
    )
    ∷ []

-- the lines that may repeat
lists : List (List ℕ × ScriptSettings)
lists =
    (codes "random 00000000", record nothing { words = 0 ∷ [] })
    ∷ (
      codes "storage-fault 1\nrandom 1234567a FFFFFFFF\nstorage-fault 3\n"
          ++ codes "random 00000000\nat 5 input aBcD\nat 5 input 00",
      record nothing {
        faults = 1 ∷ 3 ∷ [];
        words = 0x1234567a ∷ 0xffffffff ∷ 0 ∷ [];
        events =
            record { time = 5; kind = Input (0xab ∷ 0xcd ∷ []) } ∷ record { time = 5; kind = Input (0 ∷ []) } ∷ [];
      },
    )
    ∷ (
      codes "at 5 input " ++ replicate 128 48,
      record nothing { events = record { time = 5; kind = Input (replicate 64 0) } ∷ [] },
    )
    ∷ []

-- buttons, and what becomes of them
buttons : List (List ℕ × ScriptSettings)
buttons =
    (codes "buttons 0", nothing) ∷ (codes "buttons 16", record nothing { buttons = 16 })
    ∷ (
      codes "buttons 2\nat 30 press 1",
      record nothing { buttons = 2; events = record { time = 30; kind = Press 1 } ∷ [] },
    )
    ∷ (
      codes "buttons 3\nleds 1\nat 0 press 0\nat 5 input 41\nat 5 release 00\nat 4294967295 press 2",
      record nothing {
        leds = 1;
        buttons = 3;
        events =
            record { time = 0; kind = Press 0 } ∷ record { time = 5; kind = Input (0x41 ∷ []) }
            ∷ record { time = 5; kind = Release 0 } ∷ record { time = 4294967295; kind = Press 2 } ∷ [];
      },
    )
    ∷ []

-- time partitions, and what may stand with them
partitions : List (List ℕ × ScriptSettings)
partitions =
    (codes "partition 4", record nothing { partition = 4 })
    ∷ (codes "partition 1000000\nslice 2", record nothing { slice = 2; partition = 1000000 })
    ∷ (
      codes "buttons 2\npartition 1\nat 5 input 41",
      record nothing {
        buttons = 2;
        partition = 1;
        events = record { time = 5; kind = Input (0x41 ∷ []) } ∷ [];
      },
    )
    ∷ []

-- an operator's acts
acts : List (List ℕ × ScriptSettings)
acts = (
  codes "at 2 do stop blink\nat 10 do start blink",
  record nothing {
    events =
        record { time = 2; kind = Act verbs.Stop (codes "blink") }
        ∷ record { time = 10; kind = Act verbs.Start (codes "blink") } ∷ [];
  },
)
    ∷ (
      codes "leds 1\nat 0 do restart -\nat 7 input 41\nat 7 do list !~\nat 7 do terminate do",
      record nothing {
        leds = 1;
        events =
            record { time = 0; kind = Act verbs.Restart (codes "-") } ∷ record { time = 7; kind = Input (0x41 ∷ []) }
            ∷ record { time = 7; kind = Act verbs.List (codes "!~") }
            ∷ record { time = 7; kind = Act verbs.Terminate (codes "do") } ∷ [];
      },
    )
    ∷ []

-- scripts that are refused for a rule, each with the line that breaks it
refused_for : ScriptRule → List (ℕ × List ℕ)
refused_for UnknownWord =
    (1, codes "rom 4096") ∷ (1, codes "Ram 4096") ∷ (1, codes "ra") ∷ (1, codes "ram\r4096")
    ∷ (4, codes "\n# x\r\nram 4096\r\nrams 1 2") ∷ (2, codes "ram 4096\n\u{b}\nx") ∷ (1, codes "policy go on now")
    ∷ (2, codes "leds 4\nat 5 output 00") ∷ (1, codes "filter closed") ∷ (1, codes "filter Open")
    ∷ (1, codes "filter shut now")
    ∷ (1, codes "at 5 hold 0") ∷ (1, codes "button 1") ∷ (1, codes "at 5 do kill blink")
    ∷ (1, codes "at 5 do kill") ∷ (2, codes "partition 4\nbuttons 2") ∷ (2, codes "partition 4\nat 5 press x")
    ∷ (3, codes "buttons 1\npartition 4\nat 5 release 0") ∷ (2, codes "partition 4\nat 5 do stop blink") ∷ []
refused_for Words =
    (1, codes "ram") ∷ (1, codes "ram 4096 # x") ∷ (2, codes "ram 4096\nram\r\n") ∷ (1, codes "policy")
    ∷ (1, codes "policy threshold") ∷ (1, codes "policy stop 1") ∷ (1, codes "storage-fault 1 2")
    ∷ (1, codes "random") ∷ (1, codes "at 5 input") ∷ (1, codes "filter") ∷ (1, codes "filter strict # x")
    ∷ (1, codes "at 5 press") ∷ (1, codes "buttons 1 2") ∷ (2, codes "buttons 1\nat 5 release 0 0")
    ∷ (1, codes "at 5 do") ∷ (1, codes "at 5 do stop") ∷ (1, codes "at 5 do stop one two") ∷ []
refused_for BadNumber =
    (1, codes "ram +4096") ∷ (1, codes "ram 00000004096") ∷ (1, codes "ram 4096\r\r\n") ∷ (2, codes "ram 4096\nram x")
    ∷ (1, codes "policy threshold -1") ∷ (1, codes "at 12345678901 input 41")
    ∷ (1, codes "at 5 press x") ∷ (2, codes "buttons 1\nat x release 1")
    ∷ (1, codes "at x do stop blink") ∷ []
refused_for BadHex =
    (1, codes "at 5 input 0g") ∷ (1, codes "at 5 input aBc") ∷ (1, codes "random 11223344 1234567") ∷ []
refused_for OutOfRange =
    (1, codes "ram 5000") ∷ (1, codes "ram 3072") ∷ (1, codes "ram 9999999999")
    ∷ (3, codes "ram 4096\r\n\r\nram 263168") ∷ (1, codes "slice 0") ∷ (1, codes "slice 1000001") ∷ (1, codes "leds 17")
    ∷ (1, codes "policy threshold 4294967296") ∷ (1, codes "start 4294967296") ∷ (1, codes "uart 1001")
    ∷ (1, codes "storage 4097") ∷ (1, codes "storage-fault 0") ∷ (1, codes "at 4294967296 input 41")
    ∷ (1, codes "buttons 17") ∷ (2, codes "buttons 2\nat 5 press 2") ∷ (1, codes "at 5 press 0")
    ∷ (1, codes "at 5 press 0\nbuttons 1") ∷ (2, codes "buttons 1\nat 4294967296 release 0")
    ∷ (1, codes "partition 0") ∷ (1, codes "partition 1000001")
    ∷ (1, codes "at 5 do stop " ++ replicate 33 97) ∷ (1, codes "at 5 do stop \u{7f}") ∷ []
refused_for Repeated =
    (2, codes "ram 8192\nram 8192") ∷ (3, codes "ram 65536\r\n#\r\nram 4096\r\nx")
    ∷ (2, codes "policy stop\npolicy restart") ∷ (3, codes "slice 1\nleds 4\nslice 1")
    ∷ (2, codes "filter strict\nfilter strict") ∷ (2, codes "filter open\nfilter strict")
    ∷ (2, codes "buttons 1\nbuttons 1") ∷ (2, codes "partition 4\npartition 4") ∷ []
refused_for Order =
    (2, codes "storage-fault 2\nstorage-fault 2") ∷ (2, codes "at 5 input 41\nat 4 input 41")
    ∷ (2, codes "at 5 input 41\nrandom 11223344") ∷ (2, codes "at 5 input 41\nfilter strict")
    ∷ (3, codes "buttons 1\nat 5 press 0\nat 4 release 0") ∷ (2, codes "at 5 input 41\nbuttons 1")
    ∷ (3, codes "buttons 1\nat 5 release 0\nleds 1") ∷ (2, codes "at 5 do stop x\nleds 1")
    ∷ (2, codes "at 5 input 41\npartition 4") ∷ []
refused_for TooMany =
    (1, codes "at 5 input " ++ replicate 130 48) ∷ []

-- each of these is read as what stands beside it
AreRead : (cases : List (List ℕ × ScriptSettings)) → Type 0
AreRead cases = map (λ case. reading case.0) cases ≡ map (λ case. Ok case.1) cases

blanks_are_skipped : AreRead blank
unfolding AreRead blank nothing reading faults lines words broken lines_of line_of hex_bytes
blanks_are_skipped = refl

numbers_are_read : AreRead numbers
unfolding AreRead numbers nothing reading faults lines words broken lines_of line_of hex_bytes
numbers_are_read = refl

lists_are_read : AreRead lists
unfolding AreRead lists nothing reading faults lines words broken lines_of line_of hex_bytes decode_pairs verb_of
lists_are_read = refl

buttons_are_read : AreRead buttons
unfolding AreRead buttons nothing reading faults lines words broken lines_of line_of hex_bytes decode_pairs verb_of
buttons_are_read = refl

partitions_are_read : AreRead partitions
unfolding AreRead partitions nothing reading faults lines words broken lines_of line_of hex_bytes decode_pairs verb_of
partitions_are_read = refl

acts_are_read : AreRead acts
unfolding AreRead acts nothing reading faults lines words broken lines_of line_of hex_bytes decode_pairs verb_of
acts_are_read = refl

refusal : ScriptRule → ℕ × List ℕ → Result ScriptSettings Fault
refusal rule case = Err (record { line = case.0; rule = rule })

each_is_refused : (rule : ScriptRule)
    → map (λ case. reading case.1) (refused_for rule) ≡ map (refusal rule) (refused_for rule)
unfolding refusal refused_for reading faults lines words broken lines_of line_of hex_bytes verb_of
each_is_refused UnknownWord = refl
each_is_refused Words = refl
each_is_refused BadNumber = refl
each_is_refused BadHex = refl
each_is_refused OutOfRange = refl
each_is_refused Repeated = refl
each_is_refused Order = refl
each_is_refused TooMany = refl

rules_are_named : map name_of_rule in_order
    ≡ codes "unknown-word" ∷ codes "words" ∷ codes "bad-number" ∷ codes "bad-hex" ∷ codes "out-of-range"
    ∷ codes "repeated" ∷ codes "order" ∷ codes "too-many" ∷ []
rules_are_named = refl
