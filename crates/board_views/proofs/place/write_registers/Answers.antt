use Rattle.std.proofs.Common.{ℕ, List, ◌+◌, ◌-◌}
use Rattle.std.specs.List.{flat_map, range_with_len}
use Rattle.tk_base.specs.Regs.{register}
use Rattle.board_report.proofs.Parts.{part_between}
use Rattle.board_views.specs.Lines.{word_text}
use Rattle.board_views.specs.Places.{registers_shown}
use Rattle.board_views.proofs.Texts.{range_around, range_more}
use Rattle.board_views.proofs.place.write_registers.Goals as goal

pub returns-in_err-write_word : goal.returns-in_err-write_word
returns-in_err-write_word g c =
    let law = c.writes_compose.ensures in
    let i = c.loop-n.n in
    let text : ℕ → List ℕ = λ n. word_text (register c.args.regs.now (n + 1)) in
    law.writes_part _ c.from_residual.ensures.0
    (part_between law (flat_map text (range_with_len (i + 1) (31 - (i + 1)))) (registers_shown c.args.regs.now)
    (range_around text i 31 c.loop-n-test.true) c.loop-n.invariant
    (rw c.get.ensures at c.in_err-write_word.ensures))

pub loop-n-preserved : goal.loop-n-preserved
loop-n-preserved g c =
    let law = c.writes_compose.ensures in
    let text : ℕ → List ℕ = λ n. word_text (register c.args.regs.now (n + 1)) in
    rw (range_more text c.loop-n.n)
    (law.all_then_all c.loop-n.invariant (rw c.get.ensures at c.in_ok-write_word.ensures))
