use Rattle.std.proofs.Common.{ℕ, List, Option, None, ap₂, slice_index_or, sym, ◌∙◌}
use Rattle.alarm_capsule.proofs.First.{same_kept}
use Rattle.alarm_capsule.proofs.Nearest.{kept_again}
use Rattle.alarm_capsule.proofs.times.AlarmTimes.keep.Goals as goal

pub returns-then-ne-clause-kept : goal.returns-then-ne-clause-kept
returns-then-ne-clause-kept c = c.change.ensures

pub returns-else-ne-clause-kept : goal.returns-else-ne-clause-kept
returns-else-ne-clause-kept c =
    kept_again c.args.self.now c.args.slot c.args.due
    (same_kept c.args.due (slice_index_or c.self.inside.times c.index.result None)
    (sym c.ne.ensures ∙ c.if-ne.false)
    ∙ ap₂ (λ (times : List (Option ℕ)) (n : ℕ). slice_index_or times n None) c.self.view_is c.index.ensures.value)
