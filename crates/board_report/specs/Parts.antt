-- Only proofs use this: parts of the texts by name, for the contracts of inner functions.
use Rattle.std.specs.Prelude.{ℕ, ◌==◌, if◌then◌else◌, List, [], ◌++◌, map, codes, decimal, Option, Some}
use Rattle.std.specs.List.{flat_map, range_with_len}
use Rattle.tk_base.specs.declared.access.Denial.{Denial}
use Rattle.tk_base.specs.declared.process.Verb.{Verb}
use Rattle.tk_base.specs.Verbs.{verb_text}
use Rattle.tk_outside.specs.Text.{hex_digits}
use Rattle.flash_walk.specs.declared.found.Found.{Found}
use Rattle.process_record.specs.declared.emit.CallMade.{CallMade}
use Rattle.process_record.specs.declared.summary.SlotLine.{SlotLine}
use Rattle.process_record.specs.Lines.{name_text}
use Rattle.process_record.specs.Summary.{Unplaced}
use Rattle.board_report.specs.Words.{newline}
use Rattle.board_report.specs.Report.{denial_text, led_text, unplaced_text}
use Rattle.board_report.specs.Trace.{line_head, registers_text, reply_text, refusal_text, call_text, denied_text}
use Rattle.board_report.specs.FlashList.{object_text}

-- a register, in eight digits of base 16 after a blank
abbrev pub register_text : ℕ → List ℕ
register_text register = codes " " ++ hex_digits 8 register

-- the line of a system call: its class, a0 to a3 before it, its reply and its refusal
unfoldable pub call_line : ℕ → ℕ → CallMade → List ℕ
call_line time slot call =
    line_head time slot (codes " call ")
    ++ (decimal call.class ++ (registers_text call.args
    ++ (reply_text call.reply ++ (refusal_text call.rule ++ newline))))

-- the line of a denial
unfoldable pub denial_line : ℕ → ℕ → Denial → List ℕ
denial_line time slot denial = line_head time slot (codes " denied") ++ (denial_text (Some denial) ++ newline)

-- the line of an operator's act
unfoldable pub act_line : ℕ → ℕ → Verb → List ℕ
act_line time slot verb = line_head time slot (codes " act ") ++ (verb_text verb ++ newline)

-- bytes, each in two digits of base 16
abbrev pub bytes_text : List ℕ → List ℕ
bytes_text bytes = flat_map (hex_digits 2) bytes

-- the line of what was printed
unfoldable pub out_line : ℕ → ℕ → List ℕ → List ℕ
out_line time slot bytes = line_head time slot (codes " out ") ++ (bytes_text bytes ++ newline)

-- the lines of a turn, by the call and the denial in it
abbrev pub turn_text : ℕ → ℕ → Option CallMade → Option Denial → List ℕ
turn_text time slot call denial = call_text time slot call ++ denied_text time slot denial

-- what comes before the state in a slot's line
abbrev pub slot_head : ℕ → SlotLine → List ℕ
slot_head slot line = codes "slot " ++ (decimal slot ++ (codes " " ++ (name_text line.name.items ++ codes " ")))

-- how many turns a process had, and how often it was started again
abbrev pub turns_text : SlotLine → List ℕ
turns_text line = codes " turns " ++ (decimal line.turns ++ (codes " restarts " ++ decimal line.restarts))

-- how many upcalls were dropped, where any was
abbrev pub dropped_text : ℕ → List ℕ
dropped_text dropped = if dropped == 0 then [] else codes " dropped " ++ decimal dropped

-- the lines of the applications that have no place
abbrev pub unplaced_texts : List Unplaced → List ℕ
unplaced_texts us = flat_map unplaced_text us

-- the LEDs, LED 0 first
abbrev pub led_texts : ℕ → ℕ → List ℕ
led_texts leds count = map (led_text leds) (range_with_len 0 count)

-- the LEDs; `-` where there is none
unfoldable pub led_list : ℕ → ℕ → List ℕ
led_list leds count = if count == 0 then codes "-" else led_texts leds count

-- the lines of objects of a flash image
abbrev pub object_texts : List ℕ → List Found → List ℕ
object_texts flash found = flat_map (object_text flash) found

-- the line of how many there are
unfoldable pub count_text : ℕ → List ℕ
count_text count = codes "objects " ++ (decimal count ++ newline)
