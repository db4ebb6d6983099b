-- What drivers write of the bytes that are a process's own: only what it has allowed them (TRD 104, "Read-Write
-- Allow"; the userspace-readable allow of Tock's kernel).
use Rattle.std.specs.Prelude.{◌≡◌, ℕ, ◌==◌, ◌&&◌, Bool, true, List, Option, None, Some, is_ok}
use Rattle.tk_base.specs.declared.kinds.PairKind.TheVariants.{ReadWrite, Readable}
use Rattle.process_model.specs.Own.{Own}
use Rattle.process_model.specs.Handed.{held}
use Rattle.process_model.specs.Changes.{ChangesAt, IsInside, IsWhole, KeepsBytes}
use Rattle.driver_model.specs.Steps.{own_after}
use Rattle.driver_model.specs.Alarm as alarm
use Rattle.driver_model.specs.Buttons as buttons
use Rattle.driver_model.specs.Console as console
use Rattle.driver_model.specs.Random as random
use Rattle.driver_model.specs.Storage as storage
use Rattle.driver_model.specs.Commands.{Commanded}
use Rattle.driver_model.specs.Drivers.{CommandContext, CommandHandler, handler_of}

-- whether a command is the one that shows the clock
abbrev pub shows_clock : ℕ → ℕ → Bool
shows_clock driver number = driver == alarm.alarm_driver && number == 2

-- the buffer in which the clock is shown: readable buffer 0 of the alarm
abbrev pub clock_buffer : Own → ℕ × ℕ
clock_buffer own = held Readable alarm.alarm_driver 0 own

-- it was accepted, and the address lies in that buffer
abbrev pub ShowsClock : ℕ → ℕ → Own → Commanded → ℕ → Type 0
ShowsClock driver number own c at =
    (shows_clock driver number ≡ true) × (is_ok c.answer ≡ true) × IsInside (clock_buffer own) at

-- The command that shows the clock changes bytes inside the buffer alone that the process held for it, if its own is
-- whole. All other commands change none.
abbrev pub CommandsWriteInBuffers : Type 0
CommandsWriteInBuffers =
    (driver : ℕ) (taker : CommandHandler) → handler_of driver ≡ Some taker →
    (around : CommandContext) (number a2 a3 : ℕ) (own : Own) → (shows_clock driver number ≡ true → IsWhole own) →
    let c = taker around number a2 a3 own in
    ChangesAt (ShowsClock driver number own c) own (own_after c.step)

-- the read-write buffers of the console, of the random bytes and of the storage
abbrev pub input_buffer : Own → ℕ × ℕ
input_buffer own = held ReadWrite console.console 1 own

-- the buffer into which random bytes are written: read-write buffer 0 of the source
abbrev pub word_buffer : Own → ℕ × ℕ
word_buffer own = held ReadWrite random.random 0 own

-- the buffer into which storage is read: read-write buffer 0 of the storage
abbrev pub stored_buffer : Own → ℕ × ℕ
stored_buffer own = held ReadWrite storage.storage 0 own

-- What a device answers to a process whose own is whole changes bytes inside the buffer alone that it held for the
-- device: the clock as an alarm fires, bytes that came in, a random word, a storage request that was served. All other
-- answers change none, nor does an edge of a button. A storage request that fails writes nothing over the storage.
pub record AnswersWriteInBuffers : Type 0 where
  pub alarmed : (now : ℕ) (own : Own) → IsWhole own →
      ChangesAt (IsInside (clock_buffer own)) own (own_after (alarm.answered now own))
  pub edged : (button : ℕ) (state : Bool) (own : Own) → KeepsBytes own (own_after (buttons.edged button state own))
  pub taken : (own : Own) → KeepsBytes own (own_after (console.taken own))
  pub write_done : (own : Own) → KeepsBytes own (own_after (console.write_done own))
  pub input : (bytes : List ℕ) (own : Own) → IsWhole own →
      ChangesAt (IsInside (input_buffer own)) own (own_after (console.input bytes own))
  pub word : (word : Option ℕ) (own : Own) → IsWhole own →
      ChangesAt (IsInside (word_buffer own)) own (own_after (random.answered word own).step)
  pub no_word : (own : Own) → KeepsBytes own (own_after (random.answered None own).step)
  pub stored : (fault : Bool) (flash : ℕ → ℕ) (bytes : List ℕ) (own : Own) → IsWhole own →
      ChangesAt (IsInside (stored_buffer own)) own (own_after (storage.answered fault flash bytes own).step)
  pub failed : (flash : ℕ → ℕ) (bytes : List ℕ) (own : Own) →
      (storage.answered true flash bytes own).moved ≡ None
