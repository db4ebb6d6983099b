-- Laws of the drivers' definitions (Tock's drivers, each in its own file: driver 0x0 to driver 0x50001).
use Rattle.std.specs.Prelude.{◌≡◌, ◌↔◌, ◌<◌, ◌≤◌, ℕ, ◌+◌, ◌-◌, ◌%◌, ◌^◌, List, length}
use Rattle.std.specs.Prelude.{Option, None, Some, Err, is_some, IfSome, IsTrue}
use Rattle.tk_base.specs.declared.call.CallRule.{CallRule}
use Rattle.grant_values.specs.declared.alarm.Armed.{Armed}
use Rattle.process_model.specs.Own.{Own}
use Rattle.driver_model.specs.Steps.{own_after}
use Rattle.driver_model.specs.Alarm.{answered, due_for, left_for, ticks_left}
use Rattle.driver_model.specs.Commands.{refusing}
use Rattle.driver_model.specs.Drivers.{CommandContext, CommandHandler, handler_of}

-- a command that any driver refuses changes nothing of what is the process's own, and asks nothing of the board
abbrev pub RefusedByAnyDriver : Type 0
RefusedByAnyDriver =
    (driver : ℕ) (taker : CommandHandler) (around : CommandContext) (number a2 a3 : ℕ) (own : Own) (rule : CallRule) →
    handler_of driver ≡ Some taker → (taker around number a2 a3 own).answer ≡ Err rule →
    taker around number a2 a3 own ≡ refusing rule own

-- a number is as it was, or one more
pub record IsAtMostOneMore (before after : ℕ) : Type 0 where
  pub not_less : before ≤ after
  pub not_more : after ≤ before + 1

-- a command to any driver drops one upcall at most
abbrev pub CommandDropsAtMostOne : Type 0
CommandDropsAtMostOne =
    (driver : ℕ) (taker : CommandHandler) (around : CommandContext) (number a2 a3 : ℕ) (own : Own) →
    handler_of driver ≡ Some taker →
    IsAtMostOneMore own.inbox.dropped (own_after (taker around number a2 a3 own).step).inbox.dropped

-- no ticks are left until the next alarm, of all slots or of one alone, exactly where one of them has an alarm that is
-- due
abbrev pub IsDueWhereNoneAreLeft : Type 0
IsDueWhereNoneAreLeft =
    (only : Option ℕ) (now : ℕ) (owns : List Own) →
    (left_for only now owns ≡ Some 0) ↔ IsTrue (is_some (due_for only now owns))

-- as many ticks as pass, up to when it is due, so many fewer are left of an alarm
abbrev pub TimeBringsNearer : Type 0
TimeBringsNearer =
    (now passed : ℕ) (alarm : Armed) → now < 2 ^ 32 → alarm.reference < 2 ^ 32 → alarm.delta < 2 ^ 32 →
    passed ≤ ticks_left now alarm →
    ticks_left ((now + passed) % 2 ^ 32) alarm ≡ ticks_left now alarm - passed

-- of what is a process's own a command may change its bytes, the grants, what waits to be delivered and the count of
-- dropped upcalls; where it lies, its life, and that it lives, stay
abbrev pub StaysInPlace : Own → Own → Type 0
StaysInPlace own o = o ≡ record own { ram = o.ram; grants = o.grants; inbox = o.inbox }

-- so does each command to a driver
abbrev pub CommandsStayInPlace : Type 0
CommandsStayInPlace =
    (driver : ℕ) (taker : CommandHandler) → handler_of driver ≡ Some taker →
    (around : CommandContext) (number a2 a3 : ℕ) (own : Own) → StaysInPlace own
    (own_after (taker around number a2 a3 own).step)

-- until as many ticks have passed as are left until the next alarm, of all slots or of one alone, none of them is due;
-- none ever is, where none is armed
abbrev pub QuietUntilNext : Type 0
QuietUntilNext =
    (only : Option ℕ) (now passed : ℕ) (owns : List Own) →
    IfSome (left_for only now owns) (λ left. passed < left) →
    due_for only ((now + passed) % 2 ^ 32) owns ≡ None

-- a slot whose alarm is due is one of those that there are
abbrev pub DueSlotIsThere : Type 0
DueSlotIsThere =
    (only : Option ℕ) (now slot : ℕ) (owns : List Own) → due_for only now owns ≡ Some slot → slot < length owns

-- what an alarm changes of a process is its bytes, where the clock is shown, what waits to be delivered, the count of
-- dropped upcalls, and what it keeps for the alarm; one upcall may be dropped
abbrev pub AnAlarmLeavesTheRest : Type 0
AnAlarmLeavesTheRest =
    (now : ℕ) (own : Own) →
    let o = own_after (answered now own) in
    (o ≡ record own { ram = o.ram; inbox = o.inbox; grants = o.grants })
    × (own.inbox.dropped ≤ o.inbox.dropped) × (o.inbox.dropped ≤ own.inbox.dropped + 1)
