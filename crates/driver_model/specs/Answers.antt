-- What devices' answers leave of a process, and what of it the process is told (Tock's drivers, each in its own file:
-- driver 0x0 to driver 0x50001).
use Rattle.std.specs.Prelude.{◌≡◌, ℕ, Bool, false, ◌&&◌, if◌then◌else◌, List, Option, Some, IfSome}
use Rattle.process_model.specs.Own.{Own}
use Rattle.driver_model.specs.Steps.{DriverStep, own_after}
use Rattle.driver_model.specs.Commands.{QueueName, Writes, Reads, Randoms, Stores, is_same}
use Rattle.driver_model.specs.Alarm as alarm
use Rattle.driver_model.specs.Buttons as buttons
use Rattle.driver_model.specs.Console as console
use Rattle.driver_model.specs.Random as random
use Rattle.driver_model.specs.Storage as storage
use Rattle.driver_model.specs.Laws.{IsAtMostOneMore}
use Rattle.driver_model.specs.Lines.{IsWithin, has_waiting}

-- a device's answer may change the bytes of a process, its grants, what waits to be delivered and the count of dropped
-- upcalls; where it lies, its life, and that it lives, stay
abbrev pub Remains : Own → Own → Type 0
Remains own o = o ≡ record own { ram = o.ram; grants = o.grants; inbox = o.inbox }

-- What an answer leaves of a process: it remains; one upcall more was dropped at most; it has a request of a kind
-- where it had one, unless it left that queue; and one for storage is for some of so many bytes, as one before it was.
pub record FollowsAnswer (left : QueueName → Bool) (own o : Own) : Type 0 where
  pub rest : Remains own o
  pub dropped : IsAtMostOneMore own.inbox.dropped o.inbox.dropped
  pub lines : (queue : QueueName) → has_waiting queue o ≡ (if left queue then false else has_waiting queue own)
  pub within : (size : ℕ) → IsWithin size own → IsWithin size o

-- whether a process left a list by the answer to its request in one, which completed or did not
abbrev pub queue_left_by : QueueName → Bool → QueueName → Bool
queue_left_by here completed line = is_same here line && completed

-- so it is with each device's answer to a process; an alarm that fires leaves no list, nor does an edge of a button
pub record LinesFollowAnswers : Type 0 where
  pub writes : (flash : ℕ → ℕ) (own : Own) →
      let s = console.sent flash own in FollowsAnswer (queue_left_by Writes s.completed) own (own_after s.step)
  pub reads : (ring : List ℕ) (own : Own) →
      let r = console.received ring own in FollowsAnswer (queue_left_by Reads r.completed) own (own_after r.step)
  pub randoms : (word : Option ℕ) (own : Own) →
      let a = random.answered word own in FollowsAnswer (queue_left_by Randoms a.completed) own (own_after a.step)
  pub stores : (fault : Bool) (flash : ℕ → ℕ) (bytes : List ℕ) (own : Own) →
      let a = storage.answered fault flash bytes own in FollowsAnswer (queue_left_by Stores a.completed) own
      (own_after a.step)
  pub alarms : (now : ℕ) (own : Own) → FollowsAnswer (λ line. false) own (own_after (alarm.answered now own))
  pub edges : (button : ℕ) (state : Bool) (own : Own) →
      FollowsAnswer (λ line. false) own (own_after (buttons.edged button state own))

-- a step for a write is what the process is told: that bytes were taken, or that it completed
abbrev pub TellsWrite : Own → Bool → DriverStep → Type 0
TellsWrite own completed step = step ≡ (if completed then console.write_done own else console.taken own)

-- a step for a read is what the process is told: that these bytes came in
abbrev pub TellsInput : Own → List ℕ → DriverStep → Type 0
TellsInput own bytes step = step ≡ console.input bytes own

-- a step for a request for random bytes is what the process is told: that this word was drawn, or none
abbrev pub TellsWord : Own → Option ℕ → DriverStep → Type 0
TellsWord own word step = step ≡ (random.answered word own).step

-- a word that is drawn is the next one
abbrev pub DrawsTheNext : Option ℕ → Option ℕ → Type 0
DrawsTheNext word drawn = IfSome drawn (λ drawn. word ≡ Some drawn)

-- What a process is told makes of it what the device's step did: a write had bytes taken, or completed; bytes came in
-- for a read; a word was drawn for a request for random bytes, or none. The word that is drawn is the next one.
pub record EventsTellSteps : Type 0 where
  pub writes : (flash : ℕ → ℕ) (own : Own) →
      let s = console.sent flash own in TellsWrite own s.completed s.step
  pub reads : (ring : List ℕ) (own : Own) →
      let r = console.received ring own in TellsInput own r.moved r.step
  pub randoms : (word : Option ℕ) (own : Own) →
      let a = random.answered word own in TellsWord own a.moved a.step
  pub drawn : (word : Option ℕ) (own : Own) → DrawsTheNext word (random.answered word own).moved
