use Rattle.std.proofs.Common.{ℕ, List, ◌+◌, drop, map, sym, ◌∙◌}
use Rattle.std.proofs.lemmas.List.{take_all}
use Rattle.std.specs.List.{flat_map}
use Rattle.tk_base.specs.declared.process.ProcessId.{ProcessId}
use Rattle.board_report.proofs.Parts.{part_between}
use Rattle.board_views.specs.Lines.{word_text, words_text}
use Rattle.board_views.proofs.Texts.{element_around, slots_text}
use Rattle.board_views.proofs.waits.write_waiting.Goals as goal

pub returns-in_err-write_slot : goal.returns-in_err-write_slot
returns-in_err-write_slot g c =
    let law = c.writes_compose.ensures in
    let waiting = c.args.waiting.now in
    let i = c.loop-process.process-index in
    let text : ProcessId → List ℕ = λ id. word_text id.slot in
    law.writes_part _ c.from_residual.ensures.0
    (part_between law (flat_map text (drop (i + 1) waiting)) (words_text (map (λ id. id.slot) waiting))
    (sym (slots_text waiting)
    ∙ element_around text waiting i c.process-item.result c.loop-process-test.true c.process-item.is)
    c.loop-process.invariant c.in_err-write_slot.ensures)

pub returns : goal.returns
returns g c =
    let waiting = c.args.waiting.now in
    rw (← slots_text waiting) (rw (take_all c.loop-process.process-index waiting c.loop-process-test.false)
    at c.loop-process.invariant)
