-- What an answer of a device leaves of what its process keeps for the drivers of all other devices: all of it; and the
-- process lives as before. Event by event, each answer is a step of one driver, which puts a value in that driver's
-- grant alone (`kept_beside`), writes bytes, or schedules.
use Rattle.std.proofs.Common.{◌≡◌, ℕ, ◌-◌, ◌==◌, Bool, true, false, nat_le, List, Option, None, Some}
use Rattle.std.proofs.Common.{refl, ap}
use Rattle.std.proofs.Common.{◌∙◌, not, unwrap_or}
use Rattle.std.specs.Option.{option_map}
use Rattle.grant_values.specs.declared.alarm.Armed.{Armed}
use Rattle.grant_values.specs.declared.random.RandomRequest.{RandomRequest}
use Rattle.grant_values.specs.declared.storage.StorageKind.TheVariants.{Read, Write}
use Rattle.grant_values.specs.declared.storage.StorageRequest.{StorageRequest}
use Rattle.process_model.specs.Own.{Own}
use Rattle.process_model.specs.Served.{kept, with_written}
use Rattle.tk_base.specs.declared.kinds.PairKind.TheVariants.{ReadWrite}
use Rattle.driver_model.specs.Alarm as alarm
use Rattle.driver_model.specs.Buttons as buttons
use Rattle.driver_model.specs.Console as console
use Rattle.driver_model.specs.Console.{console_reads, console_writes}
use Rattle.driver_model.specs.Random as random
use Rattle.driver_model.specs.Random.{randoms}
use Rattle.driver_model.specs.Requests.{RequestKind, keeping_request, unanswered, waiting_in}
use Rattle.driver_model.specs.Steps.{DriverStep, own_after, silently}
use Rattle.driver_model.specs.Storage as storage
use Rattle.driver_model.specs.Storage.{storages}
use Rattle.kernel_model.specs.Record.{Record, flash_of}
use Rattle.kernel_model.specs.declared.settings.Settings.{Settings}
use Rattle.kernel_model.specs.Turn.{Act, Alarmed, Edge, Event, Input, NoWord, Stored, Taken, Turn, Word, WriteDone}
use Rattle.kernel_model.specs.Turn.{apply}
use Rattle.kernel_model.proofs.Steps.{IsAnswer}
use Rattle.kernel_model.proofs.Values.{kept_beside}
use Rattle.std.proofs.lemmas.Bool.{cond_both}

-- what a driver schedules leaves all but the inbox
pub scheduled_rest : (step : DriverStep) → own_after step ≡ record step.own { inbox = (own_after step).inbox }
scheduled_rest step =
    elim (step.schedules) as (λ s. let o = own_after (record { own = step.own; schedules = s }) in
    o ≡ record step.own { inbox = o.inbox }) [ None ↦ refl | Some upcall ↦ refl ]

pub scheduled_keeps : (other : ℕ) (step : DriverStep) → kept other (own_after step) ≡ kept other step.own
scheduled_keeps other step = ap (kept other) (scheduled_rest step)

pub scheduled_lives : (step : DriverStep) → (own_after step).lives ≡ step.own.lives
scheduled_lives step = ap (λ (o : Own). o.lives) (scheduled_rest step)

module _ (other : ℕ) (own : Own) where
  -- it keeps the same for another driver, and lives as before
  abbrev pub Stays : Own → Type 0
  Stays o = (kept other o ≡ kept other own) × (o.lives ≡ own.lives)

  -- a request of another driver is kept, or none, and something is scheduled
  keeping : {R : Type 0} (request_kind : RequestKind R) (request : Option R) (step : DriverStep)
      → (request_kind.driver == other) ≡ false → Stays step.own
      → Stays (own_after (keeping_request request_kind request step))
  keeping request_kind request step apart same =
      let s = keeping_request request_kind request step in (
        scheduled_keeps other s ∙ kept_beside request_kind.driver other _ step.own apart ∙ same.0,
        scheduled_lives s ∙ same.1,
      )

  if_waits : {R : Type 0} (serve : R → DriverStep) (waiting : Option R)
      → ((request : R) → Stays (own_after (serve request)))
      → Stays (own_after (unwrap_or (option_map serve waiting) (silently own)))
  if_waits serve None each = (refl, refl)
  if_waits serve (Some request) each = each request

  of_alarm : (now : ℕ) → (alarm.alarm_driver == other) ≡ false → Stays (own_after (alarm.answered now own))
  unfolding alarm.answered
  of_alarm now apart =
      if_waits (λ (armed : Armed). alarm.fired now armed own) (alarm.due_alarm now own)
      (λ armed. (kept_beside alarm.alarm_driver other _ (alarm.showing now own) apart, refl))

  of_edge : (button : ℕ) (pressed : Bool) → Stays (own_after (buttons.edged button pressed own))
  unfolding buttons.edged
  of_edge button pressed =
      cond_both (buttons.is_told button own) _ _ (λ s. Stays (own_after s)) (λ e. (refl, refl)) (λ e. (refl, refl))

  of_taken : (console.console == other) ≡ false → Stays (own_after (console.taken own))
  of_taken apart =
      if_waits (console.taking own) (waiting_in console_writes own)
      (λ write. (kept_beside console.console other _ own apart, refl))

  of_write_done : (console.console == other) ≡ false → Stays (own_after (console.write_done own))
  of_write_done apart =
      if_waits (console.write_completing own) (waiting_in console_writes own)
      (λ write. (kept_beside console.console other _ own apart, refl))

  of_input : (bytes : List ℕ) → (console.console == other) ≡ false → Stays (own_after (console.input bytes own))
  of_input bytes apart =
      if_waits (console.reading_in bytes own) (waiting_in console_reads own)
      (λ read.
      (kept_beside console.console other _ (with_written ReadWrite console.console 1 0 bytes own) apart, refl))

  of_drawing : (left : ℕ) (request : RandomRequest) (word : Option ℕ)
      → Stays (random.drawing left request own word).step.own
  of_drawing left request None = (refl, refl)
  of_drawing left request (Some word) =
      cond_both (nat_le left 4) _ _ (λ (q : random.Progress). Stays q.step.own) (λ e. (refl, refl)) (λ e. (refl, refl))

  of_word : (word : Option ℕ) → (random.random == other) ≡ false → Stays (own_after (random.answered word own).step)
  unfolding random.answered
  of_word word apart =
      elim (waiting_in randoms own) as (λ waiting. Stays (own_after (unwrap_or (option_map
      (λ (request : RandomRequest). random.advanced (random.progress word request own)) waiting)
      (unanswered None own)).step)) [
        | None ↦ (refl, refl)
        | Some request ↦
            let p = random.progress word request own in
            keeping randoms p.rest p.step apart
            (cond_both (nat_le (random.wanted request own) request.written) _ _
            (λ (q : random.Progress). Stays q.step.own)
            (λ e. (refl, refl)) (λ e. of_drawing (random.wanted request own - request.written) request word))
      ]

  of_service : (fault : Bool) (flash : ℕ → ℕ) (bytes : List ℕ) (request : StorageRequest)
      → Stays (storage.storage_served fault flash bytes request own).step.own
  of_service true flash bytes request = (refl, refl)
  of_service false flash bytes request =
      elim (request.kind) as (λ kind. Stays (storage.moving kind flash bytes request own).step.own)
      [ Read ↦ (refl, refl) | Write ↦ (refl, refl) ]

  of_stored : (fault : Bool) (flash : ℕ → ℕ) (bytes : List ℕ) → (storage.storage == other) ≡ false
      → Stays (own_after (storage.answered fault flash bytes own).step)
  unfolding storage.answered
  of_stored fault flash bytes apart =
      elim (waiting_in storages own) as (λ waiting. Stays (own_after (unwrap_or (option_map
      (λ (request : StorageRequest). storage.finished (storage.storage_served fault flash bytes request own)) waiting)
      (unanswered None own)).step)) [
        | None ↦ (refl, refl)
        | Some request ↦
            keeping storages None (storage.storage_served fault flash bytes request own).step apart
            (of_service fault flash bytes request)
      ]

-- the driver whose device tells a process something
abbrev pub driver_answering : Event → ℕ
driver_answering (Alarmed now) = alarm.alarm_driver
driver_answering (Edge button pressed) = buttons.buttons
driver_answering (Word word) = random.random
driver_answering NoWord = random.random
driver_answering (Stored moved) = storage.storage
driver_answering other = console.console

pub answers_stay : (settings : Settings) (event : Event) (r : Record) (other : ℕ) → IsAnswer event
    → (driver_answering event == other) ≡ false → Stays other r.own (apply settings event r).own
unfolding apply
answers_stay settings (Turn time) r other is apart = absurd (cc)
answers_stay settings (Alarmed now) r other is apart = of_alarm other r.own now apart
answers_stay settings (Edge button pressed) r other is apart = of_edge other r.own button pressed
answers_stay settings Taken r other is apart = of_taken other r.own apart
answers_stay settings WriteDone r other is apart = of_write_done other r.own apart
answers_stay settings (Input bytes) r other is apart = of_input other r.own bytes apart
answers_stay settings (Word word) r other is apart = of_word other r.own (Some word) apart
answers_stay settings NoWord r other is apart = of_word other r.own None apart
answers_stay settings (Stored moved) r other is apart = of_stored other r.own (not moved) (flash_of r) r.storage apart
answers_stay settings (Act verb) r other is apart = absurd (cc)

pub answers_beside : (settings : Settings) (event : Event) (r : Record) (other : ℕ) → IsAnswer event
    → (driver_answering event == other) ≡ false → kept other (apply settings event r).own ≡ kept other r.own
answers_beside settings event r other is apart = (answers_stay settings event r other is apart).0
