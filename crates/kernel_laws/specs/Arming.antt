-- That the alarm of a process, and the buttons of which it is told, are what its commands said (TRD 104, "Command";
-- Tock's drivers 0x0 and 0x3).
use Rattle.std.specs.Prelude.{◌≡◌, ◌⊎◌, ℕ, ◌+◌, ◌==◌, Bool, true, false, All, List, [], ◌∷◌, slice_index, Option, None}
use Rattle.std.specs.Prelude.{Some, IfSome, IsSomeAnd}
use Rattle.std.specs.List.{list_any}
use Rattle.tk_base.specs.Bits.{with_bit}
use Rattle.tk_base.specs.declared.process.Choice.{Choice}
use Rattle.grant_values.specs.declared.alarm.Armed.{Armed}
use Rattle.driver_model.specs.Alarm.{alarm_in}
use Rattle.driver_model.specs.Buttons.{enabled}
use Rattle.process_record.specs.declared.emit.CallMade.{CallMade}
use Rattle.kernel_model.specs.Record.{Record}
use Rattle.kernel_model.specs.Turn.{TurnTrace}
use Rattle.kernel_model.specs.World.{World, after, labels, now_in}
use Rattle.kernel_laws.specs.Between.{OfTurnIn}

-- What a command to the alarm sets, by its arguments, when the clock shows a tick: 3 takes the alarm away; 5 arms one
-- from then on, for as many ticks as the third argument says; 6 one from the third argument on, for as many as the
-- fourth.
abbrev pub SetsAlarm : ℕ → Option Armed → List ℕ → Option Armed → Type 0
SetsAlarm now before args later =
    (slice_index args 0 ≡ 0x0)
    × (((slice_index args 1 ≡ 3) × (later ≡ None))
    ⊎ (((slice_index args 1 ≡ 5) × (later ≡ Some (record { reference = now; delta = slice_index args 2 })))
    ⊎ ((slice_index args 1 ≡ 6)
    × (later ≡ Some (record { reference = slice_index args 2; delta = slice_index args 3 })))))

-- and one to the buttons: 1 has the process told of the button that the third argument names, 2 of it no more; all
-- others stay
abbrev pub SetsButtons : ℕ → ℕ → List ℕ → ℕ → Type 0
SetsButtons now before args later =
    (slice_index args 0 ≡ 0x3)
    × (((slice_index args 1 ≡ 1) × (later ≡ with_bit before (slice_index args 2) true))
    ⊎ ((slice_index args 1 ≡ 2) × (later ≡ with_bit before (slice_index args 2) false)))

-- an accepted command that sets so
pub record SetsBy {X : Type 0} (Sets : ℕ → X → List ℕ → X → Type 0) (now : ℕ) (before later : X) (call : CallMade) :
    Type 0 where
  pub class : call.class ≡ 2
  pub accepted : call.rule ≡ None
  pub sets : Sets now before call.args later

-- What a turn leaves of such a value: it is as it was; or the turn tells the accepted command that sets it; or the next
-- life of the process begins, with the value that it has at first.
abbrev pub Becomes : {X : Type 0} → (ℕ → X → List ℕ → X → Type 0) → X → ℕ → TurnTrace → Record → Record → X → X → Type 0
Becomes Sets first now told r s before later =
    (later ≡ before)
    ⊎ (IsSomeAnd told.call (SetsBy Sets now before later) ⊎ ((s.own.life ≡ r.own.life + 1) × (later ≡ first)))

-- of the alarm, and of the buttons
pub record AreSetByCommands (now : ℕ) (r s : Record) (told : TurnTrace) : Type 0 where
  pub alarm : Becomes SetsAlarm None now told r s (alarm_in r.own) (alarm_in s.own)
  pub buttons : Becomes SetsButtons 0 now told r s (enabled r.own) (enabled s.own)

-- so it is in every step of every world
abbrev pub AlarmsAndButtonsAreSetByCommands : Type 0
AlarmsAndButtonsAreSetByCommands =
    (w : World) (choice : Choice) → All (OfTurnIn (AreSetByCommands (now_in w)) w (after w choice)) (labels w choice)

-- an accepted command to a driver
pub record IsAccepted (driver : ℕ) (call : CallMade) : Type 0 where
  pub class : call.class ≡ 2
  pub accepted : call.rule ≡ None
  pub of_driver : slice_index call.args 0 ≡ driver

-- whether the number of a command is one of some
abbrev pub is_among : List ℕ → CallMade → Bool
is_among numbers call = list_any (λ n. n == slice_index call.args 1) numbers

-- An accepted command sets what its arguments say, whatever was set before: of the alarm 3, 5 and 6 do, and of the
-- buttons 1 and 2.
pub record CommandSets (now : ℕ) (r s : Record) (call : CallMade) : Type 0 where
  pub alarm : IsAccepted 0x0 call → is_among (3 ∷ 5 ∷ 6 ∷ []) call ≡ true
      → SetsAlarm now (alarm_in r.own) call.args (alarm_in s.own)
  pub buttons : IsAccepted 0x3 call → is_among (1 ∷ 2 ∷ []) call ≡ true
      → SetsButtons now (enabled r.own) call.args (enabled s.own)

-- so it is with each that a turn tells, in every step of every world
abbrev pub AlarmsAndButtonsFollowCommands : Type 0
AlarmsAndButtonsFollowCommands =
    (w : World) (choice : Choice) →
    All (OfTurnIn (λ r s told. IfSome told.call (CommandSets (now_in w) r s)) w (after w choice)) (labels w choice)
