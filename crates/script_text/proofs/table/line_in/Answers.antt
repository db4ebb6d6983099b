use Rattle.std.proofs.Common.{sym, ◌∙◌}
use Rattle.script_text.specs.Table.{line_fits, line_table, line_of}
use Rattle.script_text.specs.Text.{words}
use Rattle.script_text.proofs.Steps.{find_passed}
use Rattle.script_text.proofs.table.line_in.Goals as goal

pub loop-line-preserved : goal.loop-line-preserved
unfolding line_of
loop-line-preserved c =
    sym (find_passed (line_fits (words c.args.text.now)) line_table c.loop-line.line-index _ c.loop-line-test.true
    (sym c.fits.ensures ∙ c.if-fits.false)) ∙ c.loop-line.invariant
