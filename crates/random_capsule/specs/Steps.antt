-- One step of a request for random bytes.
use Rattle.std.specs.Prelude.{◌≡◌, ◌+◌, ◌<◌, ◌^◌}
use Rattle.process_model.specs.Own.{Own}
use Rattle.process_seat.specs.declared.entered.Entered.{Entered}
use Rattle.process_seat.specs.Seen.{IsLent, own_entered, seen}
use Rattle.driver_model.specs.Random.{Progress, random}
use Rattle.driver_model.specs.Steps.{own_after}
use Rattle.random_capsule.specs.declared.visits.Step.{Step}

-- a step answers what a request comes to, and leaves the process so, and told
pub record Progresses (p : Progress) (step : Step) (now : Own) : Type 0 where
  pub rest : step.rest ≡ p.rest
  pub drawn : step.drawn ≡ p.drawn
  pub own : now ≡ own_after p.step

-- a process that the source was lent has the buffer and the upcall, and may be told something
pub record MayBeServed (e : Entered) : Type 0 where
  pub lent : IsLent e
  pub driver : (seen e).driver ≡ random
  pub upcall : 0 < (seen e).counts.upcalls
  pub buffer : 0 < (seen e).counts.rw
  pub dropped : (own_entered e).inbox.dropped + 1 < 2 ^ 32
