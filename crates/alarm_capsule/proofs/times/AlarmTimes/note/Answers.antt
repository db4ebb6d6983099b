use Rattle.std.proofs.Common.{ℕ, List, Option, subst, sym}
use Rattle.alarm_capsule.specs.Times.{AllTell}
use Rattle.alarm_capsule.proofs.KeptTimes.{noted_tell}
use Rattle.alarm_capsule.proofs.times.AlarmTimes.note.Goals as goal

pub returns-clause-tell : goal.returns-clause-tell
returns-clause-tell c =
    let owns = c.args.home.now.owns in
    subst (λ (times : List (Option ℕ)). AllTell c.args.now c.args.time times owns) (sym c.keep.ensures.kept)
    (noted_tell c.args.now c.args.time c.args.slot c.args.self.now owns c.due_time.result c.keep.ensures.there
    c.due_time.ensures.tells c.requires.others)
