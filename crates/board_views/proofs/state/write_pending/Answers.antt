use Rattle.std.proofs.Common.{ℕ, List, ◌+◌, codes, drop}
use Rattle.tk_base.specs.declared.upcall.Upcall.{Upcall}
use Rattle.board_report.proofs.Parts.{part_between, texts_around}
use Rattle.board_views.specs.Lines.{slot_line}
use Rattle.board_views.specs.States.{pending_text, upcall_words}
use Rattle.board_views.proofs.state.write_pending.Goals as goal

pub returns-in_err-write_slot_line : goal.returns-in_err-write_slot_line
returns-in_err-write_slot_line g c =
    let law = c.writes_compose.ensures in
    let upcalls = c.args.upcalls.now in
    let i = c.loop-upcall.upcall-index in
    let text : Upcall → List ℕ = λ u. slot_line (codes "pending ") c.args.slot (upcall_words u) in
    law.writes_part _ c.from_residual.ensures.0
    (part_between law (pending_text c.args.slot (drop (i + 1) upcalls)) (pending_text c.args.slot upcalls)
    (texts_around text upcalls i _ c.loop-upcall-test.true) c.loop-upcall.invariant
    (rw c.upcall_words.ensures at c.in_err-write_slot_line.ensures))
