-- What is still to come in: bytes on the serial line, changes of buttons, and acts of an operator. Their times are this
-- board's own.
use Rattle.std.specs.Prelude.{ℕ, nat_le, nat_lt, Bool, true, false, not, if◌then◌else◌, List, [], ◌∷◌}
use Rattle.std.specs.Prelude.{Option, None, Some, map, option_and_then}
use Rattle.tk_base.specs.Bits.{has_bit, with_bit}
use Rattle.tk_base.specs.declared.process.Verb.{Verb}
use Rattle.script_text.specs.Settings.{ScriptEvent, EventKind, Input, Press, Release, Act}
use Rattle.board_devices.specs.declared.arrivals.OperatorAct.{OperatorAct}
use Rattle.board_devices.specs.SerialLine.{SerialLine, with_input}

-- the time at which the first of them comes in
abbrev pub first_arrival_time : List ScriptEvent → Option ℕ
first_arrival_time [] = None
first_arrival_time (event ∷ rest) = Some event.time

-- whether the first comes in at a time
abbrev pub is_time : ℕ → List ScriptEvent → Bool
is_time time [] = false
is_time time (event ∷ rest) = nat_le event.time time

-- an event among others: behind those of its time, and before later ones
abbrev pub inserted : ScriptEvent → List ScriptEvent → List ScriptEvent
inserted e [] = e ∷ []
inserted e (x ∷ xs) = if nat_le x.time e.time then x ∷ inserted e xs else e ∷ x ∷ xs

-- whether an event comes in later than a time
abbrev pub is_later : ℕ → ScriptEvent → Bool
is_later time event = nat_lt time event.time

-- what an event tells of a button: which one, and whether it is pressed; nothing where bytes come in, or an operator
-- acts
abbrev pub edge_of : EventKind → Option (ℕ × Bool)
edge_of (Press button) = Some (button, true)
edge_of (Release button) = Some (button, false)
edge_of other = None

-- the serial line of each lane after an event: bytes come in on all; of those in a ring the newest are kept
abbrev pub lines_after : EventKind → List SerialLine → List SerialLine
lines_after (Input bytes) lines = map (with_input bytes) lines
lines_after other lines = lines

-- whether a button has another state than this one by a mask of pressed buttons
abbrev pub differs : ℕ → ℕ → Bool → Bool
differs mask button true = not (has_bit mask button)
differs mask button false = has_bit mask button

-- what an event changes of a button, by a mask of pressed buttons: which one, and whether it is pressed then; nothing
-- where it has that state already
abbrev pub change_by : EventKind → ℕ → Option (ℕ × Bool)
change_by kind mask =
    option_and_then (λ edge. if differs mask edge.0 edge.1 then Some edge else None) (edge_of kind)

-- a mask of pressed buttons with the state of one button set, if one is told
abbrev pub with_edge : Option (ℕ × Bool) → ℕ → ℕ
with_edge None mask = mask
with_edge (Some edge) mask = with_bit mask edge.0 edge.1

-- the mask of pressed buttons after an event
abbrev pub pressed_after : EventKind → ℕ → ℕ
pressed_after kind mask = with_edge (change_by kind mask) mask

-- and after the first came in
abbrev pub with_first_arrived : List ScriptEvent → List SerialLine → List SerialLine
with_first_arrived [] lines = lines
with_first_arrived (event ∷ rest) lines = lines_after event.kind lines

-- the mask of pressed buttons after the first came in
abbrev pub pressed_after_first : List ScriptEvent → ℕ → ℕ
pressed_after_first [] mask = mask
pressed_after_first (event ∷ rest) mask = pressed_after event.kind mask

-- the change of a button that the first makes
abbrev pub change_by_first : List ScriptEvent → ℕ → Option (ℕ × Bool)
change_by_first [] mask = None
change_by_first (event ∷ rest) mask = change_by event.kind mask

-- what an operator asks for by an event: a verb, and the name of the process that it is to be done to
abbrev pub act_of : EventKind → Option (Verb × List ℕ)
act_of (Act verb name) = Some (verb, name)
act_of other = None

-- what an operator asks for by the first of them
abbrev pub first_act : List ScriptEvent → Option (Verb × List ℕ)
first_act [] = None
first_act (event ∷ rest) = act_of event.kind

-- the same as code has it
abbrev pub act_told : OperatorAct → Verb × List ℕ
act_told act = (act.verb, act.name.items)
