-- What is shown of a process in a line: its name, its state in one word, and the line that an operator gets who lists
-- it. Their form is this tool's own.
use Rattle.std.specs.Prelude.{ℕ, ◌&&◌, nat_le, if◌then◌else◌, List, [], ◌∷◌, ◌++◌, map, codes}
use Rattle.std.specs.Prelude.{decimal, position, Option}
use Rattle.std.specs.Str.{bytes_eq}
use Rattle.tk_base.specs.declared.upcall.Wait.{Wait}
use Rattle.tk_base.specs.declared.upcall.Wait.TheVariants.{No, For, Given}
use Rattle.process_record.specs.declared.process.State.{State}
use Rattle.process_record.specs.declared.process.State.TheVariants.{Running, Yielded, Faulted, Terminated}
use Rattle.process_record.specs.declared.summary.SlotLine.{SlotLine}

-- a name, in which a byte that is no visible character of ASCII is shown as `?`; `-` where there is none
abbrev pub name_text : List ℕ → List ℕ
name_text [] = codes "-"
name_text (b ∷ bs) = map (λ c. if nat_le 0x21 c && nat_le c 0x7e then c else 63) (b ∷ bs)

-- the lowest slot whose line shows a name, if one does
unfoldable pub slot_named : List ℕ → List SlotLine → Option ℕ
slot_named name lines = position (λ line. bytes_eq (name_text line.name.items) name) lines

-- what a process that has yielded waits for, in one word: any upcall; one alone; nothing any more, since that one came
abbrev pub wait_word : Wait → List ℕ
wait_word No = codes "yielded"
wait_word (For driver number) = codes "waiting"
wait_word (Given arguments) = codes "awaited"

-- the state of a process that an operator does not hold
abbrev pub state_word : State → Wait → List ℕ
state_word Running wait = codes "running"
state_word Yielded wait = wait_word wait
state_word Faulted wait = codes "faulted"
state_word (Terminated code) wait = codes "terminated"

-- the line of a process that is listed: its slot, its name, its state in one word
unfoldable pub listed_line : ℕ → SlotLine → List ℕ
listed_line slot line =
    let word = if line.held then codes "stopped" else state_word line.state line.wait in
    decimal slot ++ (codes " " ++ (name_text line.name.items ++ (codes " " ++ (word ++ codes "\n"))))
