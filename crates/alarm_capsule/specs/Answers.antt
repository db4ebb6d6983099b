-- What the alarm answers (Tock's driver 0x0).
use Rattle.std.specs.Prelude.{◌≡◌, ℕ, Option, None, Some, Result, Ok, Err}
use Rattle.tk_base.specs.declared.process.NotReady.{NotReady}
use Rattle.board_devices.specs.declared.answer.Answer.{Answer}
use Rattle.grant_enter.specs.Homes.{Homes, own_of, ChangesOnly}
use Rattle.driver_model.specs.Steps.{own_after}
use Rattle.driver_model.specs.Alarm.{answered, due_for}
use Rattle.driver_requests.specs.Answers.{kinds}

-- The lowest slot whose alarm is due, of those that are served, got its answer, and is told the tick, and nothing else
-- changed; or none is due, and nothing changed.
abbrev pub AlarmAnswers : Option ℕ → ℕ → Homes → Result Answer NotReady → Homes → Type 0
AlarmAnswers only now old (Err refusal) new = (due_for only now old.owns ≡ None) × (new ≡ old)
AlarmAnswers only now old (Ok answer) new =
    (due_for only now old.owns ≡ Some answer.to.slot) × (answer.to.life ≡ (own_of old answer.to.slot).life)
    × (answer.kind ≡ kinds.alarmed now)
    × (own_of new answer.to.slot ≡ own_after (answered now (own_of old answer.to.slot)))
    × ChangesOnly answer.to.slot old new
