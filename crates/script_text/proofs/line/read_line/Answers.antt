use Rattle.std.proofs.Common.{sym, ◌∙◌}
use Rattle.script_text.proofs.Rules.{bad_alone, good_alone}
use Rattle.script_text.proofs.line.read_line.Goals as goal

pub returns-in-None : goal.returns-in-None
returns-in-None c =
    good_alone c.args.text.now c.in-Some.first.now c.next.new.self c.in-Some-line_in.line c.row.result.form
    c.args.context (sym c.of.ensures ∙ c.in-Some.ensures.steps)
    (sym c.is_comment.ensures ∙ c.if-is_comment.false) (sym c.line_in.ensures ∙ c.in-Some-line_in.is)
    (sym c.is_unknown.ensures ∙ c.if-is_unknown.false) c.row.ensures.form
    (sym c.broken_alone.ensures ∙ c.in-None.is)

pub returns-in-Some-broken_alone : goal.returns-in-Some-broken_alone
returns-in-Some-broken_alone c =
    bad_alone c.args.text.now c.in-Some.first.now c.next.new.self c.in-Some-line_in.line c.row.result.form
    c.args.context c.in-Some-broken_alone.rule (sym c.of.ensures ∙ c.in-Some.ensures.steps)
    (sym c.is_comment.ensures ∙ c.if-is_comment.false) (sym c.line_in.ensures ∙ c.in-Some-line_in.is)
    (sym c.is_unknown.ensures ∙ c.if-is_unknown.false) c.row.ensures.form
    (sym c.broken_alone.ensures ∙ c.in-Some-broken_alone.is)
