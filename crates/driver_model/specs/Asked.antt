-- What the commands to each driver ask of the board.
use Rattle.std.specs.Prelude.{◌≡◌, ◌⊎◌, ℕ, List, [], ◌∷◌}
use Rattle.process_model.specs.Own.{Own}
use Rattle.driver_model.specs.Alarm as alarm
use Rattle.driver_model.specs.Buttons as buttons
use Rattle.driver_model.specs.Commands.{Waits, Leaves, Lights, On, Off, Toggle, Writes, Reads, Randoms, Stores}
use Rattle.driver_model.specs.Commands.{by_number}
use Rattle.driver_model.specs.Console as console
use Rattle.driver_model.specs.Leds as leds
use Rattle.driver_model.specs.Random as random
use Rattle.driver_model.specs.Storage as storage

-- it is one of some
abbrev pub OneOf : {X : Type 0} → X → List X → Type 0
OneOf x [] = ⊥
OneOf x (y ∷ ys) = (x ≡ y) ⊎ OneOf x ys

-- the alarm and the buttons ask for nothing; the console that its caller begins to wait to write or to read, or stops
-- to wait to read; the LEDs that one is switched; the two others that their caller begins to wait
pub record AskTheirOwn : Type 0 where
  pub alarm : (now number a2 a3 : ℕ) (own : Own) → (by_number (alarm.commands now a2 a3) number own).acts ≡ []
  pub buttons : (count pressed number button : ℕ) (own : Own)
      → (by_number (buttons.commands count pressed button) number own).acts ≡ []
  pub console : (number count : ℕ) (own : Own)
      → OneOf (by_number (console.commands count) number own).acts ([] ∷ (Waits Writes ∷ []) ∷ (Waits Reads ∷ [])
      ∷ (Leaves Reads ∷ []) ∷ [])
  pub leds : (count number led : ℕ) (own : Own)
      → OneOf (by_number (leds.commands count led) number own).acts ([] ∷ (Lights led On ∷ []) ∷ (Lights led Off ∷ [])
      ∷ (Lights led Toggle ∷ []) ∷ [])
  pub random : (number count : ℕ) (own : Own)
      → OneOf (by_number (random.commands count) number own).acts ([] ∷ (Waits Randoms ∷ []) ∷ [])
  pub storage : (size number a2 a3 : ℕ) (own : Own)
      → OneOf (by_number (storage.commands size a2 a3) number own).acts ([] ∷ (Waits Stores ∷ []) ∷ [])
