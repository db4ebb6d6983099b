-- The text of a trace: the lines of a step, which tell the call or the denial in it, an operator's act, and what it
-- printed. Its form is this tool's own.
use Rattle.std.specs.Prelude.{ℕ, ◌==◌, if◌then◌else◌, List, [], ◌++◌, length, codes, decimal, Option, None, Some}
use Rattle.std.specs.List.{flat_map}
use Rattle.tk_base.specs.declared.access.Denial.{Denial}
use Rattle.tk_base.specs.declared.call.CallRule.{CallRule}
use Rattle.tk_base.specs.declared.process.Verb.{Verb}
use Rattle.tk_base.specs.Verbs.{verb_text}
use Rattle.tk_outside.specs.Text.{hex_digits}
use Rattle.process_record.specs.declared.emit.CallMade.{CallMade}
use Rattle.process_record.specs.declared.emit.Emit.{Emit}
use Rattle.board_report.specs.Words.{newline, call_rule_text}
use Rattle.board_report.specs.Report.{denial_text}

-- what a line begins with: the time at which its step began, the slot, and what the line tells
abbrev pub line_head : ℕ → ℕ → List ℕ → List ℕ
line_head time slot kind = codes "@" ++ (decimal time ++ (codes " " ++ (decimal slot ++ kind)))

-- the registers of a call, or of its reply, one after another, each in eight digits of base 16 after a blank
abbrev pub registers_text : List ℕ → List ℕ
registers_text registers = flat_map (λ register. codes " " ++ hex_digits 8 register) registers

-- a0 to a3 after the call, where a reply was put into them
abbrev pub reply_text : Option (List ℕ) → List ℕ
reply_text None = []
reply_text (Some registers) = codes " =" ++ registers_text registers

-- the rule that the call broke, where it was refused
abbrev pub refusal_text : Option CallRule → List ℕ
refusal_text None = []
refusal_text (Some rule) = codes " " ++ call_rule_text rule

-- the line of a system call, if one was made: its class, a0 to a3 before it, its reply and its refusal
abbrev pub call_text : ℕ → ℕ → Option CallMade → List ℕ
call_text time slot None = []
call_text time slot (Some call) =
    line_head time slot (codes " call ")
    ++ (decimal call.class ++ (registers_text call.args
    ++ (reply_text call.reply ++ (refusal_text call.rule ++ newline))))

-- the line of a denial, if the step was denied something
abbrev pub denied_text : ℕ → ℕ → Option Denial → List ℕ
denied_text time slot None = []
denied_text time slot (Some denial) =
    line_head time slot (codes " denied") ++ (denial_text (Some denial) ++ newline)

-- the line of an operator's act, if there was one
abbrev pub act_text : ℕ → Option (ℕ × Verb) → List ℕ
act_text time None = []
act_text time (Some act) = line_head time act.0 (codes " act ") ++ (verb_text act.1 ++ newline)

-- the line of what was printed, if anything was: each byte in two digits of base 16
abbrev pub out_text : ℕ → ℕ → List ℕ → List ℕ
out_text time slot bytes =
    if length bytes == 0 then [] else line_head time slot (codes " out ") ++ (flat_map (hex_digits 2) bytes ++ newline)

-- the lines of a step of a slot that began at a time
abbrev pub lines_of_step : ℕ → Option ℕ → Emit → List ℕ
lines_of_step time None step = []
lines_of_step time (Some slot) step =
    (call_text time slot step.made ++ denied_text time slot step.denial)
    ++ (act_text time step.act ++ out_text time slot step.printed.items)

-- the lines of a step that began at a time, by what it shows; a step of nobody has none
unfoldable pub trace_text : ℕ → Emit → List ℕ
trace_text time step = lines_of_step time step.slot step
