-- The line that tells where a process is. Its form is this tool's own.
use Rattle.std.specs.Prelude.{ℕ, ◌+◌, if◌then◌else◌, List, ◌++◌, codes, decimal, slice_get, Option, None, Some}
use Rattle.std.specs.List.{flat_map, range_with_len}
use Rattle.tk_base.specs.Regs.{Registers, register}
use Rattle.process_record.specs.declared.process.Process.{Process}
use Rattle.process_record.specs.declared.process.State.{State}
use Rattle.process_record.specs.declared.process.State.TheVariants.{Running, Yielded, Faulted, Terminated}
use Rattle.kernel_model.specs.Record.{Record}
use Rattle.kernel_model.specs.World.{World}
use Rattle.board_report.specs.Words.{newline}
use Rattle.board_views.specs.Lines.{word_text}

-- the word of what a process does that is not held
abbrev pub own_state_word : State → List ℕ
own_state_word Running = codes "running"
own_state_word Yielded = codes "yielded"
own_state_word Faulted = codes "faulted"
own_state_word (Terminated code) = codes "terminated"

-- and of one that an operator holds
abbrev pub place_word : Process → List ℕ
place_word p = if p.held then codes "held" else own_state_word p.state

-- x1 to x31
abbrev pub registers_shown : Registers → List ℕ
registers_shown regs = flat_map (λ n. word_text (register regs (n + 1))) (range_with_len 0 31)

-- the line of a process: the steps made, the time, the slot, its turns, its restarts, its state, pc and x1 to x31
unfoldable pub place_text : ℕ → ℕ → ℕ → Process → List ℕ
place_text steps time slot p =
    (codes "at " ++ (decimal steps ++ (codes " " ++ (decimal time ++ (codes " " ++ (decimal slot
    ++ (codes " " ++ (decimal p.turns ++ (codes " " ++ (decimal p.restarts ++ codes " "))))))))))
    ++ (place_word p ++ (word_text p.regs.pc ++ (registers_shown p.regs ++ newline)))

-- that of a slot, by its record, if it has one
abbrev pub at_record : World → ℕ → Option Record → List ℕ
at_record w slot None = codes "none\n"
at_record w slot (Some r) = place_text w.clock.steps w.clock.time slot r.process

-- the line of a slot
unfoldable pub at_text : World → ℕ → List ℕ
at_text w slot = at_record w slot (slice_get w.records slot)
