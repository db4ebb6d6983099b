-- Each upcall that drivers schedule is the one that the process holds, and is the driver's own.
use Rattle.std.proofs.Common.{◌≡◌, ℕ, Bool, true, false, cond, List, Option, None, Some, nat_le, refl}
use Rattle.grant_values.specs.declared.alarm.Armed.{Armed}
use Rattle.grant_values.specs.declared.random.RandomRequest.{RandomRequest}
use Rattle.grant_values.specs.declared.storage.StorageKind.{StorageKind}
use Rattle.grant_values.specs.declared.storage.StorageKind.TheVariants.{Read, Write}
use Rattle.grant_values.specs.declared.storage.StorageRequest.{StorageRequest}
use Rattle.process_model.specs.Own.{Own}
use Rattle.driver_model.specs.Parts.{fired_if}
use Rattle.driver_model.specs.Alarm as alarm
use Rattle.driver_model.specs.Console as console
use Rattle.driver_model.specs.Console.{console_reads, console_writes}
use Rattle.driver_model.specs.Random as random
use Rattle.driver_model.specs.Random.{Progress, randoms}
use Rattle.driver_model.specs.Requests.{RequestAnswered, waiting_in}
use Rattle.driver_model.specs.Steps.{DriverStep, silently}
use Rattle.driver_model.specs.Storage as storage
use Rattle.driver_model.specs.Storage.{storages}
use Rattle.driver_model.specs.Upcalls.{DriversScheduleHeld, DriversScheduleTheirOwn, IsOfDriver, SchedulesHeld}
use Rattle.driver_model.proofs.Outcomes.{of_buttons, of_command}
use Rattle.driver_model.proofs.Scheduled.{schedules_none}
use Rattle.driver_model.proofs.Services.{if_waits, of_services}
use Rattle.std.proofs.lemmas.Bool.{cond_both}

pub drivers_schedule_held : DriversScheduleHeld
drivers_schedule_held =
    of_services SchedulesHeld (record {
      same = λ own. schedules_none own own refl;
      keeps = λ driver value own. schedules_none own _ refl;
      enters = λ driver value own room. schedules_none own _ refl;
      serves = λ driver value own o s.
          record { upcall = s.upcalls.upcall; inbox = s.upcalls.inbox; held = s.upcalls.held };
      tells = λ own o s. s.upcalls;
    })

-- an alarm that fires
fires : (now : ℕ) (own : Own) (due : Option Armed)
    → IsOfDriver alarm.alarm_driver (fired_if now own due).schedules
fires now own None = tt
fires now own (Some armed) = refl

-- a step of a request for random bytes
OfRandom : Progress → Type 0
OfRandom p = IsOfDriver random.random p.step.schedules

draws : (left : ℕ) (request : RandomRequest) (own : Own) (word : Option ℕ)
    → OfRandom (random.drawing left request own word)
unfolding OfRandom
draws left request own None = refl
draws left request own (Some word) = cond_both (nat_le left 4) _ _ OfRandom (λ last. refl) (λ more. tt)

-- a storage request that is served
serves : (fault : Bool) (kind : StorageKind) (flash : ℕ → ℕ) (bytes : List ℕ) (request : StorageRequest) (own : Own)
    → IsOfDriver storage.storage
    (cond fault (record { step = storage.completing request.kind 0 1 own; written = None })
    (storage.moving kind flash bytes request own)).step.schedules
serves true kind flash bytes request own = refl
serves false Read flash bytes request own = refl
serves false Write flash bytes request own = refl

pub drivers_schedule_their_own : DriversScheduleTheirOwn
unfolding alarm.answered random.answered storage.answered OfRandom
drivers_schedule_their_own = record {
  command = λ driver taker is around number a2 a3 own.
      of_command (λ around own c. IsOfDriver driver c.step.schedules) driver taker is around number a2 a3 own (record {
        refuses = λ rule. tt;
        replies = λ reply. tt;
        lights = λ led switch. tt;
        shows = λ is. tt;
        keeps = λ d value reply apart. tt;
        enters = λ d value reply apart room. tt;
        cancels = λ is. is;
        writes = λ request room none. tt;
        reads = λ request room none. tt;
        draws = λ request room none. tt;
        stores = λ request fits room none. tt;
      });
  buttons = λ count pressed number button own.
      of_buttons (λ c. c.step.schedules ≡ None) count pressed number button own (λ rule. refl) (λ reply. refl)
      (λ value. refl) (λ value room. refl);
  alarmed = λ now own. fires now own (alarm.due_alarm now own);
  taken = λ own. if_waits (λ (s : DriverStep). IsOfDriver console.console s.schedules) (console.taking own)
      (silently own) (waiting_in console_writes own) tt (λ write. tt);
  write_done = λ own. if_waits (λ (s : DriverStep). IsOfDriver console.console s.schedules)
      (console.write_completing own) (silently own) (waiting_in console_writes own) tt (λ write. refl);
  input = λ bytes own. if_waits (λ (s : DriverStep). IsOfDriver console.console s.schedules)
      (console.reading_in bytes own) (silently own) (waiting_in console_reads own) tt (λ read. refl);
  drawn = λ word own.
      if_waits (λ (a : RequestAnswered (Option ℕ)). IsOfDriver random.random a.step.schedules) _ _
      (waiting_in randoms own) tt
      (λ request. cond_both (nat_le (random.wanted request own) request.written) _ _ OfRandom (λ enough. refl)
      (λ more. draws _ request own word));
  stored = λ fault flash bytes own.
      if_waits (λ (a : RequestAnswered (Option (ℕ × List ℕ))). IsOfDriver storage.storage a.step.schedules) _ _
      (waiting_in storages own) tt (λ request. serves fault request.kind flash bytes request own);
}
