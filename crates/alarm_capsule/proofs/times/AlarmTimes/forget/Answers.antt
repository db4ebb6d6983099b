use Rattle.std.proofs.Common.{ℕ, List, Option, None, subst, sym}
use Rattle.alarm_capsule.specs.Times.{AllTell}
use Rattle.alarm_capsule.proofs.KeptTimes.{none_left_in, noted_tell}
use Rattle.alarm_capsule.proofs.times.AlarmTimes.forget.Goals as goal

pub returns-clause-fired : goal.returns-clause-fired
returns-clause-fired c = λ now time home others none.
    subst (λ (times : List (Option ℕ)). AllTell now time times home.owns) (sym c.keep.ensures.kept)
    (noted_tell now time c.args.slot c.args.self.now home.owns None c.keep.ensures.there
    (none_left_in now c.args.slot home.owns _ none) others)

pub returns-clause-gone : goal.returns-clause-gone
returns-clause-gone c = λ now time home others none.
    subst (λ (times : List (Option ℕ)). AllTell now time times home.owns) (sym c.keep.ensures.kept)
    (noted_tell now time c.args.slot c.args.self.now home.owns None c.keep.ensures.there none others)
