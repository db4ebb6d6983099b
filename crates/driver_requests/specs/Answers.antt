-- What a device's answer to the process that waits longest leaves, and tells.
use Rattle.std.specs.Prelude.{◌≡◌, ℕ, Bool, List, Option, Some, Result, Ok, Err}
use Rattle.tk_base.specs.declared.process.NotReady.{NotReady}
use Rattle.tk_base.specs.declared.process.ProcessId.{ProcessId}
use Rattle.board_devices.specs.declared.answer.Answer.{Answer}
use Rattle.board_devices.specs.declared.answer.Kind.{Kind}
use Rattle.board_devices.specs.declared.answer.Kind.TheVariants.{Taken, WriteDone, Input, Word, NoWord, Stored, Alarm}
use Rattle.driver_model.specs.Steps.{DriverStep, own_after}
use Rattle.driver_model.specs.Told.{Telling}
use Rattle.grant_enter.specs.Homes.{Homes, own_of, ChangesOnly}
use Rattle.driver_requests.specs.declared.service.Service.{Service}
use Rattle.driver_requests.specs.Waiting.{first_of, waiting_still}

-- what devices tell, as kinds of an answer
abbrev pub kinds : Telling Kind
kinds = record {
  alarmed = Alarm;
  taken = Taken;
  write_done = WriteDone;
  input = λ bytes. Input (record { items = bytes });
  word = Word;
  no_word = NoWord;
  stored = Stored;
}

-- what an answer to a process comes to: what it is told; what the driver leaves of it; the device; whether the request
-- completed
pub record Answered (D : Type 0) : Type 0 where
  pub kind : Kind
  pub step : DriverStep
  pub device : D
  pub completed : Bool

-- a process got an answer; nothing of another one changes
pub record IsAnswered {D : Type 0} (a : Answered D) (id : ProcessId) (old : Homes) (service : Service) (device : D)
    (new : Homes) : Type 0 where
  pub tells : service.kind ≡ a.kind
  pub completes : service.completed ≡ a.completed
  pub own : own_of new id.slot ≡ own_after a.step
  pub leaves : device ≡ a.device
  pub rest : ChangesOnly id.slot old new

-- The process that waited longest, of those that may be served, got its answer, and waits no more where its request
-- completed; nothing else changed. Or none was answered, and nothing changed.
abbrev pub AnswersFirst : {D : Type 0} → Option ℕ → (ProcessId → Answered D) → List ProcessId → D → Homes
    → Result Answer NotReady → List ProcessId → D → Homes → Type 0
AnswersFirst only answer_to ids device old (Err refusal) ids' device' new =
    (ids' ≡ ids) × (device' ≡ device) × (new ≡ old)
AnswersFirst only answer_to ids device old (Ok answer) ids' device' new =
    let a = answer_to answer.to in
    (first_of only ids ≡ Some answer.to) × (answer.kind ≡ a.kind)
    × (own_of new answer.to.slot ≡ own_after a.step) × (device' ≡ a.device)
    × (ids' ≡ waiting_still a.completed answer.to.slot ids) × ChangesOnly answer.to.slot old new
