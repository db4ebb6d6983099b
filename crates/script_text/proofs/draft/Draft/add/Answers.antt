use Rattle.std.proofs.Common.{sym, ap, ◌∙◌}
use Rattle.script_text.specs.Seats.{stood_after}
use Rattle.script_text.proofs.Adding.{adds_skipped, broken_where, adds_line}
use Rattle.script_text.proofs.draft.Draft.add.Goals as goal

pub returns-in-Ok-None : goal.returns-in-Ok-None
returns-in-Ok-None c before made =
    let skipped = rw c.in-Ok-None.field-0-is at c.in-Ok-None.ensures in
    adds_skipped before c.args.text.now c.args.self.now skipped made

pub returns-then-repeats : goal.returns-then-repeats
returns-then-repeats c before made =
    let line = rw (c.in-Ok-Some.field-0-is, c.context.ensures) at c.in-Ok-Some.ensures in
    broken_where before c.args.text.now c.in-Ok-Some.line c.args.self.now line made
    ∙ rw (sym c.repeats.ensures ∙ c.if-repeats.true)

pub returns-then-disorders : goal.returns-then-disorders
returns-then-disorders c before made =
    let line = rw (c.in-Ok-Some.field-0-is, c.context.ensures) at c.in-Ok-Some.ensures in
    broken_where before c.args.text.now c.in-Ok-Some.line c.args.self.now line made
    ∙ rw (sym c.repeats.ensures ∙ c.if-repeats.false, sym c.disorders.ensures ∙ c.if-disorders.true)

pub returns-then-exceeds : goal.returns-then-exceeds
returns-then-exceeds c before made =
    let line = rw (c.in-Ok-Some.field-0-is, c.context.ensures) at c.in-Ok-Some.ensures in
    broken_where before c.args.text.now c.in-Ok-Some.line c.args.self.now line made
    ∙ rw (
      sym c.repeats.ensures ∙ c.if-repeats.false,
      sym c.disorders.ensures ∙ c.if-disorders.false,
      sym c.exceeds.ensures ∙ c.if-exceeds.true,
    )

pub returns : goal.returns
returns c before made =
    let line = rw (c.in-Ok-Some.field-0-is, c.context.ensures) at c.in-Ok-Some.ensures in
    adds_line before c.args.text.now c.in-Ok-Some.line c.args.self.now c.mark.new.self line made
    (sym c.repeats.ensures ∙ c.if-repeats.false) (sym c.disorders.ensures ∙ c.if-disorders.false)
    (sym c.exceeds.ensures ∙ c.if-exceeds.false)
    (c.mark.ensures.said ∙ c.in-Ok.ensures.said)
    (c.mark.ensures.stood ∙ ap (stood_after c.in-Ok-Some.line) c.in-Ok.ensures.stood)
