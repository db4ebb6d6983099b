use Rattle.std.proofs.Common.{◌≡◌, drop, find}
use Rattle.script_text.specs.Table.{line_fits, line_table, line_of}
use Rattle.script_text.specs.Text.{words}
use Rattle.script_text.proofs.table.line_in.Given as goal

abbrev pub invariant-loop-line : goal.invariant-loop-line
invariant-loop-line l = find (line_fits (words l.text)) (drop l.line-index line_table) ≡ line_of (words l.text)
