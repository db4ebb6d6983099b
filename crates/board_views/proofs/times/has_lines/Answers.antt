use Rattle.std.proofs.Common.{◌≡◌, ◌∙◌, not, Bool, true, false, refl, sym}
use Rattle.std.proofs.lemmas.Bool.{false≢true}
use Rattle.board_views.proofs.Timing.{tells_nothing}
use Rattle.board_views.proofs.times.has_lines.Goals as goal

is_so : (b : Bool) → not b ≡ false → b ≡ true
is_so true e = refl
is_so false e = absurd (false≢true (sym e))

pub returns : goal.returns
returns c =
    λ e. tells_nothing c.args.step.now (sym c.is_some.ensures ∙ c.if-is_some.false)
    (sym c.is_some-2.ensures ∙ c.if-is_some-2.false) (sym c.is_empty.ensures ∙ is_so c.is_empty.result e)
