-- All that drivers do to a process: by its commands (TRD 104, "Command"), and by what their devices answer it.
use Rattle.std.specs.Prelude.{◌≡◌, ℕ, Bool, List, Option, Some}
use Rattle.process_model.specs.Own.{Own}
use Rattle.driver_model.specs.Steps.{own_after}
use Rattle.driver_model.specs.Alarm as alarm
use Rattle.driver_model.specs.Buttons as buttons
use Rattle.driver_model.specs.Console as console
use Rattle.driver_model.specs.Random as random
use Rattle.driver_model.specs.Storage as storage
use Rattle.driver_model.specs.Drivers.{CommandContext, CommandHandler, handler_of}

-- what holds of what is a process's own before and after each of these
pub record OfEachService (P : Own → Own → Type 0) : Type 0 where
  pub command : (driver : ℕ) (taker : CommandHandler) → handler_of driver ≡ Some taker →
      (around : CommandContext) (number a2 a3 : ℕ) (own : Own) → P own (own_after (taker around number a2 a3 own).step)
  pub alarmed : (now : ℕ) (own : Own) → P own (own_after (alarm.answered now own))
  pub edged : (button : ℕ) (state : Bool) (own : Own) → P own (own_after (buttons.edged button state own))
  pub taken : (own : Own) → P own (own_after (console.taken own))
  pub write_done : (own : Own) → P own (own_after (console.write_done own))
  pub input : (bytes : List ℕ) (own : Own) → P own (own_after (console.input bytes own))
  pub drawn : (word : Option ℕ) (own : Own) → P own (own_after (random.answered word own).step)
  pub stored : (fault : Bool) (flash : ℕ → ℕ) (bytes : List ℕ) (own : Own) →
      P own (own_after (storage.answered fault flash bytes own).step)
