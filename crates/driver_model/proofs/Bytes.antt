-- The bytes of a process's own after commands and answers: they change inside the buffer that the driver may write, and
-- nowhere else. Values kept, requests and upcalls leave all bytes, as the kernel break stays; so what is left is the
-- one write of each, by the law `only_writes_change_bytes`, which needs that the own is whole.
use Rattle.std.proofs.Common.{◌≡◌, ◌⊎◌, inl, inr, ℕ, ◌+◌, ◌-◌, ◌<◌, Bool, true, false, cond, nat_le, List, [], ◌∷◌}
use Rattle.std.proofs.Common.{length, Option, None, Some, refl, ap, sym, subst}
use Rattle.std.specs.Prelude.{min, slice_range}
use Rattle.tk_base.specs.Bits.{bit_of}
use Rattle.tk_base.specs.Call.{code_of}
use Rattle.tk_base.specs.declared.call.ErrorCode.TheVariants.{CANCEL}
use Rattle.tk_base.specs.declared.kinds.PairKind.TheVariants.{ReadOnly, ReadWrite, Readable}
use Rattle.grant_values.specs.declared.alarm.Armed.{Armed}
use Rattle.grant_values.specs.declared.random.RandomRequest.{RandomRequest}
use Rattle.grant_values.specs.declared.storage.StorageKind.{StorageKind}
use Rattle.grant_values.specs.declared.storage.StorageKind.TheVariants.{Read, Write}
use Rattle.grant_values.specs.declared.storage.StorageRequest.{StorageRequest}
use Rattle.grant_values.specs.Values.{KeptValue}
use Rattle.grant_model.specs.Grants.{with_value}
use Rattle.grant_model.proofs.Costs.{same_costs}
use Rattle.process_model.specs.Own.{Own, kernel_break_of}
use Rattle.process_model.specs.Handed.{held, own_entering}
use Rattle.process_model.specs.Served.{own_scheduled, with_kept, with_written}
use Rattle.process_model.specs.Changes.{ChangesAt, IsInside, IsOwnAddress, IsWhole, KeepsBytes, OnlyWritesChangeBytes}
use Rattle.process_model.specs.Changes.{own_byte}
use Rattle.driver_model.specs.Parts.{fired_if, with_word}
use Rattle.driver_model.specs.Alarm as alarm
use Rattle.driver_model.specs.Buttons as buttons
use Rattle.driver_model.specs.Console as console
use Rattle.driver_model.specs.Console.{console_reads, console_writes}
use Rattle.driver_model.specs.Random as random
use Rattle.driver_model.specs.Random.{randoms}
use Rattle.driver_model.specs.Storage as storage
use Rattle.driver_model.specs.Storage.{storages}
use Rattle.driver_model.specs.Requests.{RequestAnswered, RequestKind, keeping_request, waiting_in, with_request}
use Rattle.driver_model.specs.Steps.{DriverStep, own_after, scheduling, silently}
use Rattle.driver_model.specs.Bytes.{AnswersWriteInBuffers, CommandsWriteInBuffers, ShowsClock, clock_buffer}
use Rattle.driver_model.specs.Bytes.{input_buffer, shows_clock}
use Rattle.driver_model.specs.Bytes.{stored_buffer, word_buffer}
use Rattle.driver_model.specs.Commands.{Commanded}
use Rattle.driver_model.specs.Drivers.{CommandContext}
use Rattle.driver_model.proofs.Outcomes.{of_command}
use Rattle.driver_model.proofs.Requesting.{requesting_commutes}
use Rattle.driver_model.proofs.Scheduled.{schedules}
use Rattle.driver_model.proofs.Services.{if_waits}
use Rattle.std.proofs.lemmas.Bool.{cond_both}
use Rattle.driver_model.specs.Random.{Progress}

-- an upcall that is scheduled changes no byte
then_scheduled : (Cause : ℕ → Type 0) (driver number : ℕ) (args : List ℕ) (own o : Own) → ChangesAt Cause own o
    → ChangesAt Cause own (own_scheduled driver number args o)
then_scheduled Cause driver number args own o changes at before after =
    let rest = (schedules driver number args o).rest in
    subst (λ (x : Own). IsOwnAddress at x → (own_byte x at ≡ own_byte own at) ⊎ Cause at) (sym rest) (changes at before)
    after

keeps_scheduled : (driver number : ℕ) (args : List ℕ) (own : Own)
    → KeepsBytes own (own_scheduled driver number args own)
keeps_scheduled driver number args own at before after =
    let rest = (schedules driver number args own).rest in
    subst (λ (x : Own). own_byte x at ≡ own_byte own at) (sym rest) refl

stays_scheduled : (Cause : ℕ → Type 0) (driver number : ℕ) (args : List ℕ) (own : Own)
    → ChangesAt Cause own (own_scheduled driver number args own)
stays_scheduled Cause driver number args own at before after =
    inl (keeps_scheduled driver number args own at before after)

-- a value that is kept leaves the kernel break
kept_ends : (driver : ℕ) (value : KeptValue) (own : Own)
    → kernel_break_of (with_kept driver value own) ≡ kernel_break_of own
kept_ends driver value own =
    ap (λ (n : ℕ). own.layout.end - n) (same_costs driver (with_value value) own.grants (λ g. refl))

-- so it changes no byte
changes_kept : (Cause : ℕ → Type 0) (driver : ℕ) (value : KeptValue) (own o : Own) → ChangesAt Cause own o
    → ChangesAt Cause own (with_kept driver value o)
changes_kept Cause driver value own o changes at before after =
    changes at before (after.0, subst (λ (n : ℕ). at < n) (kept_ends driver value o) after.1)

keeps_value : (driver : ℕ) (value : KeptValue) (own o : Own) → KeepsBytes own o
    → KeepsBytes own (with_kept driver value o)
keeps_value driver value own o keeps at before after =
    keeps at before (after.0, subst (λ (n : ℕ). at < n) (kept_ends driver value o) after.1)

-- nor is one changed by an upcall that is scheduled once another value is kept
told_kept : (driver number : ℕ) (args : List ℕ) (d : ℕ) (value : KeptValue) (own : Own)
    → KeepsBytes own (own_scheduled driver number args (with_kept d value own))
told_kept driver number args d value own at before after =
    keeps_scheduled driver number args (with_kept d value own) at
    (before.0, subst (λ (n : ℕ). at < n) (sym (kept_ends d value own)) before.1) after

-- nor does a request that is kept before, or after
then_kept : {R : Type 0} (Cause : ℕ → Type 0) (request_kind : RequestKind R) (request : Option R) (step : DriverStep)
    (own : Own) → ChangesAt Cause own (own_after step)
    → ChangesAt Cause own (own_after (keeping_request request_kind request step))
then_kept Cause request_kind request step own changes =
    subst (ChangesAt Cause own) (requesting_commutes request_kind request step.schedules step.own)
    (changes_kept Cause request_kind.driver _ own (own_after step) changes)

keeps_kept : {R : Type 0} (request_kind : RequestKind R) (request : Option R) (step : DriverStep) (own : Own)
    → KeepsBytes own (own_after step) → KeepsBytes own (own_after (keeping_request request_kind request step))
keeps_kept request_kind request step own keeps =
    subst (KeepsBytes own) (requesting_commutes request_kind request step.schedules step.own)
    (keeps_value request_kind.driver _ own (own_after step) keeps)

-- what is shown is written into its buffer
shows : OnlyWritesChangeBytes → (now : ℕ) (own : Own) → IsWhole own
    → ChangesAt (IsInside (clock_buffer own)) own (alarm.showing now own)
shows law now own whole = law.written Readable alarm.alarm_driver 0 0 _ own refl whole

pub commands_write_in_buffers : OnlyWritesChangeBytes → CommandsWriteInBuffers
commands_write_in_buffers law driver taker is around number a2 a3 own whole =
    of_command (λ around own c. Writes around own c) driver taker is around number a2 a3 own (record {
      refuses = λ rule at before after. inl refl;
      replies = λ reply at before after. inl refl;
      lights = λ led switch at before after. inl refl;
      shows = λ clock at before after. inside clock at (shows law around.now own (whole clock) at before after);
      keeps = λ d value reply apart at before after. inl refl;
      enters = λ d value reply apart room at before after. inl (enters d value at before after);
      cancels = λ is at before after.
          inl (told_kept console.console 2 (code_of CANCEL ∷ 0 ∷ 0 ∷ []) console.console _ own at before after);
      writes = λ request room none at before after. inl (enters console.console _ at before after);
      reads = λ request room none at before after. inl (enters console.console _ at before after);
      draws = λ request room none at before after. inl (enters random.random _ at before after);
      stores = λ request fits room none at before after. inl (enters storage.storage _ at before after);
    })
  where
    enters : (d : ℕ) (value : KeptValue) → KeepsBytes own (with_kept d value (own_entering d own))
    enters d value = keeps_value d value own (own_entering d own) (law.entering d own)

    Writes : CommandContext → Own → Commanded → Type 0
    Writes around own c = ChangesAt (ShowsClock driver number own c) own (own_after c.step)

    inside : shows_clock driver number ≡ true → (at : ℕ)
        → (own_byte (alarm.showing around.now own) at ≡ own_byte own at) ⊎ IsInside (clock_buffer own) at
        → (own_byte (alarm.showing around.now own) at ≡ own_byte own at)
        ⊎ ((shows_clock driver number ≡ true) × (true ≡ true) × IsInside (clock_buffer own) at)
    inside clock at (inl same) = inl same
    inside clock at (inr there) = inr (clock, refl, there)

module _ (law : OnlyWritesChangeBytes) where
  fires : (now : ℕ) (own : Own) (due : Option Armed) → IsWhole own
      → ChangesAt (IsInside (clock_buffer own)) own (own_after (fired_if now own due))
  fires now own None whole = λ at before after. inl refl
  fires now own (Some armed) whole =
      then_scheduled (IsInside (clock_buffer own)) alarm.alarm_driver 0 (now ∷ alarm.expiration armed ∷ 0 ∷ []) own
      (alarm.with_alarm None (alarm.showing now own))
      (changes_kept (IsInside (clock_buffer own)) alarm.alarm_driver _ own (alarm.showing now own)
      (shows law now own whole))

  drawing : (left : ℕ) (request : RandomRequest) (own : Own) (word : Option ℕ) → IsWhole own
      → ChangesAt (IsInside (word_buffer own)) own (own_after (random.drawing left request own word).step)
  drawing left request own None whole =
      stays_scheduled (IsInside (word_buffer own)) random.random 0 (1 ∷ request.written ∷ 0 ∷ []) own
  drawing left request own (Some word) whole =
      let o = with_word word left request own in
      let written : ChangesAt (IsInside (word_buffer own)) own o =
      law.written ReadWrite random.random 0 _ _ own refl whole in
      cond_both (nat_le left 4) _ _ (λ (p : Progress). ChangesAt (IsInside (word_buffer own)) own (own_after p.step))
      (λ last. then_scheduled (IsInside (word_buffer own)) random.random 0 (0 ∷ (request.written + left) ∷ 0 ∷ []) own o
      written) (λ more. written)

  progress : (word : Option ℕ) (request : RandomRequest) (own : Own) → IsWhole own
      → ChangesAt (IsInside (word_buffer own)) own (own_after (random.progress word request own).step)
  progress word request own whole =
      cond_both (nat_le (random.wanted request own) request.written) _ _
      (λ (p : Progress). ChangesAt (IsInside (word_buffer own)) own (own_after p.step))
      (λ e. stays_scheduled (IsInside (word_buffer own)) random.random 0 (0 ∷ request.written ∷ 0 ∷ []) own)
      (λ e. drawing _ request own word whole)

  no_progress : (request : RandomRequest) (own : Own) → KeepsBytes own
      (own_after (random.progress None request own).step)
  no_progress request own =
      cond_both (nat_le (random.wanted request own) request.written) _ _
      (λ (p : Progress). KeepsBytes own (own_after p.step))
      (λ e. keeps_scheduled random.random 0 (0 ∷ request.written ∷ 0 ∷ []) own)
      (λ e. keeps_scheduled random.random 0 (1 ∷ request.written ∷ 0 ∷ []) own)

  moving : (kind : StorageKind) (flash : ℕ → ℕ) (bytes : List ℕ) (request : StorageRequest) (own : Own) → IsWhole own
      → ChangesAt (IsInside (stored_buffer own)) own (own_after (storage.moving kind flash bytes request own).step)
  moving Read flash bytes request own whole =
      let count = min request.length (stored_buffer own).1 in
      let copied = slice_range bytes request.offset (request.offset + count) in
      then_scheduled (IsInside (stored_buffer own)) storage.storage 0 (count ∷ 0 ∷ 0 ∷ []) own
      (with_written ReadWrite storage.storage 0 0 copied own)
      (law.written ReadWrite storage.storage 0 0 copied own refl whole)
  moving Write flash bytes request own whole =
      stays_scheduled (IsInside (stored_buffer own)) storage.storage 1
      (min request.length (held ReadOnly storage.storage 0 own).1 ∷ 0 ∷ 0 ∷ []) own

  served : (fault : Bool) (flash : ℕ → ℕ) (bytes : List ℕ) (request : StorageRequest) (own : Own) → IsWhole own
      → ChangesAt (IsInside (stored_buffer own)) own
      (own_after (storage.storage_served fault flash bytes request own).step)
  served true flash bytes request own whole =
      stays_scheduled (IsInside (stored_buffer own)) storage.storage (storage.upcall_for request.kind) (0 ∷ 1 ∷ 0 ∷ [])
      own
  served false flash bytes request own whole = moving request.kind flash bytes request own whole

  edges : (own : Own) (args : List ℕ) (is_told : Bool)
      → KeepsBytes own (own_after (cond is_told (scheduling buttons.buttons 0 args own) (silently own)))
  edges own args true = keeps_scheduled buttons.buttons 0 args own
  edges own args false = λ at before after. refl

  pub answers_write_in_buffers : AnswersWriteInBuffers
  unfolding alarm.answered buttons.edged random.answered storage.answered
  answers_write_in_buffers = record {
    alarmed = λ now own whole. fires now own (alarm.due_alarm now own) whole;
    edged = λ button state own. edges own (button ∷ bit_of state ∷ 0 ∷ []) (buttons.is_told button own);
    taken = λ own. if_waits (λ (s : DriverStep). KeepsBytes own (own_after s)) (console.taking own) (silently own)
        (waiting_in console_writes own)
        (λ at before after. refl) (λ write at before after. refl);
    write_done = λ own. if_waits (λ (s : DriverStep). KeepsBytes own (own_after s)) (console.write_completing own)
        (silently own) (waiting_in console_writes own)
        (λ at before after. refl) (λ write. told_kept console.console 1 (write.taken ∷ 0 ∷ 0 ∷ []) console.console _
        own);
    input = λ bytes own whole.
        if_waits (λ (s : DriverStep). ChangesAt (IsInside (input_buffer own)) own (own_after s))
        (console.reading_in bytes own)
        (silently own)
        (waiting_in console_reads own) (λ at before after. inl refl)
        (λ read.
        then_scheduled (IsInside (input_buffer own)) console.console 2 (console.read_status own ∷ length bytes ∷ 0 ∷ [])
        own (with_request console_reads None (with_written ReadWrite console.console 1 0 bytes own))
        (changes_kept (IsInside (input_buffer own)) console.console _ own
        (with_written ReadWrite console.console 1 0 bytes own)
        (law.written ReadWrite console.console 1 0 bytes own refl whole)));
    word = λ word own whole.
        if_waits (λ (a : RequestAnswered (Option ℕ)). ChangesAt (IsInside (word_buffer own)) own (own_after a.step)) _ _
        (waiting_in randoms own) (λ at before after. inl refl)
        (λ request. let p = random.progress word request own in
        then_kept _ randoms p.rest p.step own (progress word request own whole));
    no_word = λ own.
        if_waits (λ (a : RequestAnswered (Option ℕ)). KeepsBytes own (own_after a.step)) _ _ (waiting_in randoms own)
        (λ at before after. refl)
        (λ request. let p = random.progress None request own in
        keeps_kept randoms p.rest p.step own (no_progress request own));
    stored = λ fault flash bytes own whole.
        if_waits (λ (a : RequestAnswered (Option (ℕ × List ℕ))). ChangesAt (IsInside (stored_buffer own)) own
        (own_after a.step)) _ _ (waiting_in storages own) (λ at before after. inl refl)
        (λ request. then_kept _ storages None (storage.storage_served fault flash bytes request own).step own
        (served fault flash bytes request own whole));
    failed = λ flash bytes own. if_waits (λ (a : RequestAnswered (Option (ℕ × List ℕ))). a.moved ≡ None) _ _
        (waiting_in storages own) refl (λ request. refl);
  }
