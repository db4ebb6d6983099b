-- What a driver leaves of a process, and tells it: an upcall that it schedules is a value, and is queued where the
-- kernel queues it (TRD 104, "Yield").
use Rattle.std.specs.Prelude.{ℕ, List, Option, None, Some}
use Rattle.process_model.specs.Own.{Own}
use Rattle.process_model.specs.Served.{ScheduledUpcall, own_scheduling}

-- what is a process's own once a driver served it, and the upcall that the driver then schedules, if it does
pub record DriverStep : Type 0 where
  pub own : Own
  pub schedules : Option ScheduledUpcall

-- the process's own once that upcall was scheduled
abbrev pub own_after : DriverStep → Own
own_after step = own_scheduling step.schedules step.own

-- a driver leaves a process so, and schedules nothing
abbrev pub silently : Own → DriverStep
silently own = record { own = own; schedules = None }

-- a driver leaves a process so, and schedules its upcall of a number, with arguments
abbrev pub scheduling : ℕ → ℕ → List ℕ → Own → DriverStep
scheduling driver number args own =
    record { own = own; schedules = Some (record { driver = driver; number = number; args = args }) }
