-- A line of a script that is added while a board runs. The rules are this tool's own.
use Rattle.std.specs.Prelude.{◌≡◌, ℕ, ◌==◌, ◌&&◌, nat_le, not, Bool, if◌then◌else◌, List, [], ◌∷◌, ◌++◌, codes, decimal}
use Rattle.std.specs.Prelude.{length, Result, Ok, Err}
use Rattle.tk_base.specs.declared.limits.TheConstants.{SCRIPT_LIMIT}
use Rattle.script_text.specs.Reading.{Fault, reading}
use Rattle.script_text.specs.Rules.{name_of_rule}
use Rattle.script_text.specs.Settings.{ScriptEvent, ScriptSettings}
use Rattle.board_report.specs.Words.{newline}
use Rattle.kernel_model.specs.World.{World}
use Rattle.board_core.specs.Expecting.{expecting}
use Rattle.tock_look.specs.declared.adding.NotAdded.{NotAdded}
use Rattle.tock_look.specs.declared.adding.NotAdded.TheVariants.{Late, Refused, NoEvent}

-- the setting by which a line is read: the windows of the board, or with none its buttons
abbrev pub setting : World → List ℕ × ℕ
setting w =
    if w.pace.window == 0 then (codes "buttons ", w.settings.buttons) else (codes "partition ", w.pace.window)

-- a line of it
abbrev pub before_line : World → List ℕ
before_line w = (setting w).0 ++ (decimal (setting w).1 ++ newline)

-- steps were made, and a time is not later than the board's
abbrev pub is_late : ℕ → World → Bool
is_late time w = not (w.clock.steps == 0) && nat_le time w.clock.time

-- the one event that was read, if it is not late
abbrev pub only_event : World → List ScriptEvent → Result ScriptEvent NotAdded
only_event w (event ∷ []) = if is_late event.time w then Err Late else Ok event
only_event w other = Err NoEvent

abbrev pub event_by : World → Result ScriptSettings Fault → Result ScriptEvent NotAdded
event_by w (Ok said) = only_event w said.events
event_by w (Err fault) = Err (Refused fault.rule)

-- the event of a line that is not too long, or why there is none
abbrev pub line_event : World → List ℕ → Result ScriptEvent NotAdded
line_event w line =
    if nat_le (length (before_line w ++ line)) SCRIPT_LIMIT then event_by w (reading (before_line w ++ line))
    else Err NoEvent

-- a world in which that event is still to come in
abbrev pub expecting_if : World → Result ScriptEvent NotAdded → World
expecting_if w (Ok event) = expecting event w
expecting_if w (Err why) = w

abbrev pub with_line : World → List ℕ → World
with_line w line = expecting_if w (line_event w line)

-- whether there is one
abbrev pub whether_added : Result ScriptEvent NotAdded → Result Unit NotAdded
whether_added (Ok event) = Ok tt
whether_added (Err why) = Err why

-- how that is told
abbrev pub added_text : Result Unit NotAdded → List ℕ
added_text (Ok done) = codes "= ok\n"
added_text (Err Late) = codes "= late\n"
added_text (Err (Refused rule)) = codes "= refused " ++ (name_of_rule rule ++ newline)
added_text (Err NoEvent) = codes "= words\n"
