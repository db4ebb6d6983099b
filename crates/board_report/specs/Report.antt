-- The text of the report. Its form is this tool's own.
use Rattle.std.specs.Prelude.{ℕ, ◌+◌, ◌/◌, ◌%◌, ◌^◌, ◌==◌, Bool, if◌then◌else◌, List, [], ◌∷◌, ◌++◌, map, codes}
use Rattle.std.specs.Prelude.{decimal}
use Rattle.std.specs.Prelude.{Option, None, Some}
use Rattle.std.specs.List.{flat_map, range_with_len}
use Rattle.tk_base.specs.declared.access.Denial.{Denial}
use Rattle.tk_base.specs.declared.upcall.Wait.{Wait}
use Rattle.tk_base.specs.declared.upcall.Wait.TheVariants.{No, For, Given}
use Rattle.tk_outside.specs.Text.{hex_digits}
use Rattle.process_record.specs.declared.process.State.{State}
use Rattle.process_record.specs.declared.process.State.TheVariants.{Running, Yielded, Faulted, Terminated}
use Rattle.process_record.specs.declared.summary.SlotLine.{SlotLine}
use Rattle.process_record.specs.declared.summary.Summary.{Summary}
use Rattle.process_record.specs.Summary.{Unplaced}
use Rattle.board_report.specs.Words.{newline, access_text, rule_text, fault_text}
use Rattle.process_record.specs.Lines.{name_text}
use Rattle.board_report.specs.declared.report.End.{End}
use Rattle.board_report.specs.declared.report.End.TheVariants.{Done, Turns}

-- a denial: the access, the address in eight digits of base 16, and the rule
abbrev pub denial_text : Option Denial → List ℕ
denial_text None = []
denial_text (Some d) =
    codes " " ++ (access_text d.access ++ (codes " " ++ (hex_digits 8 d.address ++ (codes " " ++ rule_text d.rule))))

-- what a process that has yielded waits for: any upcall; that of a driver and a number alone; nothing any more, since
-- that one came
abbrev pub wait_text : Wait → List ℕ
wait_text No = codes "yielded"
wait_text (For driver number) = codes "waiting " ++ (hex_digits 8 driver ++ (codes " " ++ decimal number))
wait_text (Given arguments) = codes "awaited"

-- the state of a process that is not held: of one that has yielded with what it waits for, of one that faulted with its
-- last denial, of one that ended with its code
abbrev pub own_state_text : State → Wait → Option Denial → List ℕ
own_state_text Running wait denial = codes "running"
own_state_text Yielded wait denial = wait_text wait
own_state_text Faulted wait denial = codes "faulted" ++ denial_text denial
own_state_text (Terminated code) wait denial = codes "terminated " ++ decimal code

-- the state of a process: one that an operator holds is stopped, whatever else it is
abbrev pub state_text : Bool → State → Wait → Option Denial → List ℕ
state_text held state wait denial = if held then codes "stopped" else own_state_text state wait denial

-- the line of a slot: its process's name and state, how many turns it had, how often it was started again, and how many
-- upcalls were dropped, where any was
unfoldable pub slot_text : ℕ → SlotLine → List ℕ
slot_text slot line =
    (codes "slot " ++ (decimal slot ++ (codes " " ++ (name_text line.name.items ++ codes " "))))
    ++ (state_text line.held line.state line.wait line.denial
    ++ ((codes " turns " ++ (decimal line.turns ++ (codes " restarts " ++ decimal line.restarts)))
    ++ ((if line.dropped == 0 then [] else codes " dropped " ++ decimal line.dropped) ++ newline)))

-- the lines of the slots from one on
abbrev pub slot_texts : ℕ → List SlotLine → List ℕ
slot_texts slot [] = []
slot_texts slot (line ∷ lines) = slot_text slot line ++ slot_texts (slot + 1) lines

-- the line of an application that has no place
unfoldable pub unplaced_text : Unplaced → List ℕ
unplaced_text u = codes "unplaced " ++ (decimal u.0 ++ (codes " " ++ (fault_text u.1 ++ newline)))

-- LED n is on where bit n is 1
abbrev pub led_text : ℕ → ℕ → ℕ
led_text leds n = if leds / 2 ^ n % 2 == 1 then 49 else 48

-- the line of the LEDs, LED 0 first; `-` where there is none
unfoldable pub leds_text : ℕ → ℕ → List ℕ
leds_text leds count =
    codes "leds "
    ++ ((if count == 0 then codes "-" else map (led_text leds) (range_with_len 0 count)) ++ newline)

-- how the run ended: nothing was left to do, or the turns were made that were asked for
abbrev pub end_words : End → List ℕ
end_words Done = codes "done"
end_words Turns = codes "turns"

-- the line of the end
unfoldable pub end_line : End → ℕ → ℕ → List ℕ
end_line end steps time =
    codes "end " ++ (end_words end ++ (codes " steps "
    ++ (decimal steps ++ (codes " time " ++ (decimal time ++ newline)))))

-- the whole report
unfoldable pub report_text : Summary → End → List ℕ
report_text s end =
    slot_texts 0 s.slots.items ++ (flat_map unplaced_text s.unplaced.items
    ++ (leds_text s.leds s.led_count ++ end_line end s.steps s.time))
