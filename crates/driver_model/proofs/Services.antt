-- The one walk over all that drivers do to a process.
use Rattle.std.proofs.Common.{◌≡◌, Bool, true, false, cond, ℕ, List, [], ◌∷◌, length, Option, None, Some}
use Rattle.std.proofs.Common.{option_map, unwrap_or, refl, subst}
use Rattle.tk_base.specs.Bits.{bit_of}
use Rattle.tk_base.specs.declared.kinds.PairKind.TheVariants.{ReadWrite}
use Rattle.grant_values.specs.declared.alarm.Armed.{Armed}
use Rattle.grant_values.specs.Values.{KeptValue}
use Rattle.process_model.specs.Own.{Own}
use Rattle.process_model.specs.Handed.{own_entering, has_place}
use Rattle.process_model.specs.Served.{with_kept, with_written}
use Rattle.process_model.proofs.Scheduling.{keeping_commutes}
use Rattle.driver_model.specs.Parts.{fired_if}
use Rattle.driver_model.specs.Steps.{DriverStep, own_after, scheduling, silently}
use Rattle.driver_model.specs.Alarm as alarm
use Rattle.driver_model.specs.Buttons as buttons
use Rattle.driver_model.specs.Console as console
use Rattle.driver_model.specs.Console.{console_reads, console_writes}
use Rattle.driver_model.specs.Random as random
use Rattle.driver_model.specs.Random.{randoms}
use Rattle.driver_model.specs.Storage as storage
use Rattle.driver_model.specs.Storage.{storages}
use Rattle.driver_model.specs.Requests.{RequestAnswered, waiting_in}
use Rattle.driver_model.specs.Services.{OfEachService}
use Rattle.driver_model.proofs.Answering.{serves_progress, serves_served}
use Rattle.driver_model.proofs.Outcomes.{of_command}
use Rattle.driver_model.proofs.Scheduled.{Serves, as_before, serves, serves_silently}
use Rattle.driver_model.proofs.Sizes.{showing_size, written_size}

-- what holds of a process that was left as it is; of one that keeps another value for a driver; of one that keeps one
-- once the driver was entered; of one that keeps one once the driver served it; and of one that a driver served
pub record OfEachForm (P : Own → Own → Type 0) : Type 0 where
  pub same : (own : Own) → P own own
  pub keeps : (driver : ℕ) (value : KeptValue) (own : Own) → P own (with_kept driver value own)
  pub enters : (driver : ℕ) (value : KeptValue) (own : Own) → has_place driver own ≡ true
      → P own (with_kept driver value (own_entering driver own))
  pub serves : (driver : ℕ) (value : KeptValue) (own o : Own) → Serves own o → P own (with_kept driver value o)
  pub tells : (own o : Own) → Serves own o → P own o

-- what holds of what comes where one waits, and where none does
pub if_waits : {R X : Type 0} (Q : X → Type 0) (serve : R → X) (none : X) (waiting : Option R) → Q none
    → ((request : R) → Q (serve request)) → Q (unwrap_or (option_map serve waiting) none)
if_waits Q serve none None nothing some = nothing
if_waits Q serve none (Some request) nothing some = some request

-- what holds of one that keeps a value, and then is told, by one that was told, and keeps it then
told : (P : Own → Own → Type 0) → OfEachForm P → (driver : ℕ) (value : KeptValue) (step : DriverStep) (own : Own)
    → Serves own (own_after step) → P own (own_after (record step { own = with_kept driver value step.own }))
told P each driver value step own served =
    subst (P own) (keeping_commutes driver value step.schedules step.own)
    (each.serves driver value own (own_after step) served)

pub of_services : (P : Own → Own → Type 0) → OfEachForm P → OfEachService P
unfolding alarm.answered buttons.edged random.answered storage.answered
of_services P each = record {
  command = λ driver taker is around number a2 a3 own.
      of_command (λ around own c. P own (own_after c.step)) driver taker is around number a2 a3 own (record {
        refuses = λ rule. each.same own;
        replies = λ reply. each.same own;
        lights = λ led switch. each.same own;
        shows = λ is. each.tells own _ (serves_silently _ own (showing_size around.now own));
        keeps = λ d value reply apart. each.keeps d value own;
        enters = λ d value reply apart room. each.enters d value own room;
        cancels = λ is. told P each console.console _ (scheduling console.console 2 _ own) own
            (serves console.console 2 _ own.ram own (as_before own));
        writes = λ request room none. each.enters console.console _ own room;
        reads = λ request room none. each.enters console.console _ own room;
        draws = λ request room none. each.enters random.random _ own room;
        stores = λ request fits room none. each.enters storage.storage _ own room;
      });
  alarmed = λ now own. fires own now (alarm.due_alarm now own);
  edged = λ button state own. edges own (button ∷ bit_of state ∷ 0 ∷ []) (buttons.is_told button own);
  taken = λ own. if_waits (λ (s : DriverStep). P own (own_after s)) (console.taking own) (silently own)
      (waiting_in console_writes own) (each.same own)
      (λ write. each.keeps _ _ own);
  write_done = λ own. if_waits (λ (s : DriverStep). P own (own_after s)) (console.write_completing own) (silently own)
      (waiting_in console_writes own)
      (each.same own) (λ write. told P each _ _ (scheduling console.console 1 (write.taken ∷ 0 ∷ 0 ∷ []) own) own
      (serves _ _ _ own.ram own (as_before own)));
  input = λ bytes own.
      if_waits (λ (s : DriverStep). P own (own_after s)) (console.reading_in bytes own) (silently own)
      (waiting_in console_reads own) (each.same own)
      (λ read. told P each _ _
      (scheduling console.console 2 (console.read_status own ∷ length bytes ∷ 0 ∷ [])
      (with_written ReadWrite console.console 1 0 bytes own)) own
      (serves _ _ _ _ own (written_size ReadWrite refl console.console 1 0 bytes own)));
  drawn = λ word own.
      if_waits (λ (a : RequestAnswered (Option ℕ)). P own (own_after a.step)) _ _ (waiting_in randoms own)
      (each.same own) (λ request. told P each _ _ (random.progress word request own).step own
      (serves_progress word request own));
  stored = λ fault flash bytes own.
      if_waits (λ (a : RequestAnswered (Option (ℕ × List ℕ))). P own (own_after a.step)) _ _ (waiting_in storages own)
      (each.same own) (λ request. told P each _ _ (storage.storage_served fault flash bytes request own).step own
      (serves_served fault flash bytes request own));
}
  where
    fires : (own : Own) (now : ℕ) (due : Option Armed) → P own (own_after (fired_if now own due))
    fires own now None = each.same own
    fires own now (Some armed) = told P each 0 _
        (scheduling 0 0 (now ∷ alarm.expiration armed ∷ 0 ∷ []) (alarm.showing now own)) own
        (serves 0 0 _ _ own (showing_size now own))

    edges : (own : Own) (args : List ℕ) (is_told : Bool)
        → P own (own_after (cond is_told (scheduling buttons.buttons 0 args own) (silently own)))
    edges own args true = each.tells own _ (serves buttons.buttons 0 args own.ram own (as_before own))
    edges own args false = each.same own
