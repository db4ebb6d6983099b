-- Laws of the definitions alone.
use Rattle.std.specs.Prelude.{◌≡◌, ℕ, Option}
use Rattle.grant_values.specs.Values.{KeptValue}
use Rattle.process_model.specs.Own.{Own, own_restarted}
use Rattle.process_model.specs.Served.{ScheduledUpcall, own_scheduling, with_kept}

-- the same place, life and count of dropped upcalls; the bytes, the grants, the pending upcalls, the breaks and whether
-- it lives may differ
pub record SamePlace (a b : Own) : Type 0 where
  pub object : a.object ≡ b.object
  pub flash_start : a.layout.flash_start ≡ b.layout.flash_start
  pub flash_end : a.layout.flash_end ≡ b.layout.flash_end
  pub start : a.layout.start ≡ b.layout.start
  pub end : a.layout.end ≡ b.layout.end
  pub life : a.life ≡ b.life
  pub dropped : a.inbox.dropped ≡ b.inbox.dropped

-- a restart forgets every byte of the block, the grants and the pending upcalls, and where the breaks were
abbrev pub RestartForgets : Type 0
RestartForgets = (brk : ℕ) (a b : Own) → SamePlace a b → own_restarted brk a ≡ own_restarted brk b

-- a driver may keep another value before it schedules an upcall, or after
abbrev pub KeepingCommutes : Type 0
KeepingCommutes =
    (driver : ℕ) (value : KeptValue) (upcall : Option ScheduledUpcall) (own : Own) →
    with_kept driver value (own_scheduling upcall own) ≡ own_scheduling upcall (with_kept driver value own)
