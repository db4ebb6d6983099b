-- The request that a process keeps for a queue, as a value of its driver, and the one that waits: what entering a
-- driver and putting another request leave of it. And what an answer of a device leaves of it: it is as it was, where
-- the answer is of another queue's device (`left`); and by its own device none is left, or one that goes on from the
-- one before (`GoesOnAs`).
use Rattle.kernel_laws.proofs.Cases.{cases_option}
use Rattle.std.proofs.Common.{inl, inr}
use Rattle.std.proofs.Common.{◌≡◌, ◌≢◌, ℕ, ◌-◌, Bool, true, false, not, cond, nat_le}
use Rattle.std.proofs.Common.{Option, None, Some, IfSome, unwrap_or, refl, sym, ap, ◌∙◌}
use Rattle.std.specs.Prelude.{IsSomeAnd}
use Rattle.std.specs.Option.{option_and_then, option_map}
use Rattle.std.proofs.lemmas.Bool.{cond_both, false≢true}
use Rattle.tk_base.specs.declared.kinds.PairKind.TheVariants.{ReadWrite}
use Rattle.tk_base.specs.declared.process.Verb.{Verb}
use Rattle.grant_values.specs.declared.random.RandomRequest.{RandomRequest}
use Rattle.grant_values.specs.Drivers.{drivers}
use Rattle.grant_values.specs.Values.{KeptValue, NoValue, fresh_value}
use Rattle.process_model.specs.Handed.{own_entering}
use Rattle.process_model.specs.Own.{Own, own_restarted}
use Rattle.process_model.specs.Served.{kept, with_written}
use Rattle.driver_model.specs.Commands.{QueueName, Writes, Reads, Randoms, Stores, is_same}
use Rattle.driver_model.specs.Console as console
use Rattle.driver_model.specs.Console.{console_reads, console_writes}
use Rattle.driver_model.specs.Keeping.{DriversKeep}
use Rattle.driver_model.specs.Laws.{StaysInPlace}
use Rattle.driver_model.specs.Lines.{RequestOf, kind_in}
use Rattle.driver_model.specs.Random as random
use Rattle.driver_model.specs.Requests.{RequestAnswered, on_request, request_in, waiting_in, with_request}
use Rattle.driver_model.specs.Steps.{DriverStep, own_after}
use Rattle.driver_model.specs.Storage as storage
use Rattle.kernel_model.specs.Record.{Record, flash_of}
use Rattle.kernel_model.specs.declared.settings.Settings.{Settings}
use Rattle.kernel_model.specs.Calls.{restart}
use Rattle.kernel_model.specs.Turn.{Act, Event, Input, NoWord, Stored, Taken, Turn, Word, WriteDone}
use Rattle.kernel_model.specs.Turn.{apply, is_turn, operated}
use Rattle.kernel_model.proofs.Steps.{IsAnswer, of_answer, of_operated, of_told}
use Rattle.kernel_laws.specs.Asking.{GoesOnAs}
use Rattle.kernel_laws.specs.Asking.{RequestsGoOn}
use Rattle.kernel_laws.specs.Queues.{queue_for}
use Rattle.kernel_model.proofs.Beside.{answers_beside, scheduled_keeps}
use Rattle.kernel_model.proofs.Restarts.{restart_by}
use Rattle.kernel_model.proofs.Values.{kept_beside, kept_entering, kept_put, entering_read}

-- the request of a queue that is kept, and the one that waits
abbrev pub asks : (queue : QueueName) → Own → Option (RequestOf queue)
asks queue own = request_in (kind_in queue) own

abbrev pub waits : (queue : QueueName) → Own → Option (RequestOf queue)
waits queue own = waiting_in (kind_in queue) own

abbrev pub told : (queue : QueueName) → Option KeptValue → Option (RequestOf queue)
told queue value = option_and_then (kind_in queue).told value

-- what is told where a request was put, of a driver that keeps something
put_told : (here queue : QueueName) (request : Option (RequestOf here)) (later : KeptValue → Option (RequestOf queue))
    (own : Own)
    → ((value : KeptValue) → (kind_in queue).told ((kind_in here).with_request request value) ≡ later value)
    → told queue (kept (kind_in here).driver (with_request (kind_in here) request own))
    ≡ option_and_then later (kept (kind_in here).driver own)
put_told here queue request later own each =
    ap (told queue) (kept_put (kind_in here).driver _ own) ∙ by_kept (kept (kind_in here).driver own)
  where
    by_kept : (o : Option KeptValue)
        → told queue (option_map (λ (old : KeptValue). (kind_in here).with_request request (unwrap_or o NoValue)) o)
        ≡ option_and_then later o
    by_kept None = refl
    by_kept (Some value) = each value

-- a request that is put is asked for, where the driver keeps something
pub put_asks : (q : QueueName) (request : Option (RequestOf q)) (own : Own)
    → asks q (with_request (kind_in q) request own)
    ≡ option_and_then (λ (value : KeptValue). request) (kept (kind_in q).driver own)
put_asks q request own = put_told q q request (λ value. request) own (reads q request)
  where
    reads : (q : QueueName) (request : Option (RequestOf q)) (value : KeptValue)
        → (kind_in q).told ((kind_in q).with_request request value) ≡ request
    reads Writes request value = refl
    reads q request value = refl

-- where it was entered it is that
pub entered_asks : (q : QueueName) (request : Option (RequestOf q)) (own : Own)
    → asks q (with_request (kind_in q) request (own_entering (kind_in q).driver own)) ≡ request
entered_asks q request own =
    put_asks q request (own_entering (kind_in q).driver own)
    ∙ ap (option_and_then (λ (value : KeptValue). request)) (kept_entering (kind_in q).driver own)

-- what another queue asks for stays
pub beside_asks : (here queue : QueueName) → is_same here queue ≡ false → (request : Option (RequestOf here))
    (own : Own)
    → asks queue (with_request (kind_in here) request own) ≡ asks queue own
beside_asks Writes Writes apart request own = absurd (false≢true (sym apart))
beside_asks Reads Reads apart request own = absurd (false≢true (sym apart))
beside_asks Randoms Randoms apart request own = absurd (false≢true (sym apart))
beside_asks Stores Stores apart request own = absurd (false≢true (sym apart))
beside_asks Writes Reads apart request own = put_told Writes Reads request console_reads.told own (λ value. refl)
beside_asks Reads Writes apart request own = put_told Reads Writes request console_writes.told own (λ value. refl)
beside_asks here queue apart request own =
    ap (told queue) (kept_beside (kind_in here).driver (kind_in queue).driver _ own refl)

-- and so where a driver is entered
pub blank : (q : QueueName) (o : Option KeptValue)
    → told q (Some (unwrap_or o (fresh_value (kind_in q).driver))) ≡ told q o
unfolding drivers
blank q (Some value) = refl
blank Writes None = refl
blank q None = refl

pub entering_asks : (queue : QueueName) (driver : ℕ) (own : Own)
    → asks queue (own_entering driver own) ≡ asks queue own
entering_asks queue driver own = entering_read (kind_in queue).driver (told queue) (blank queue) driver own

pub waits_same : (queue : QueueName) (own o : Own) → asks queue o ≡ asks queue own → o.lives ≡ own.lives
    → waits queue o ≡ waits queue own
waits_same queue own o asked lives = rw (asked, lives) refl

-- one that starts again has none
pub of_restart : (Q : Own → Type 0) (s : Record) → Q s.own → ((brk : ℕ) → Q (own_restarted brk s.own)) → Q
    (restart s).own
of_restart Q s same again = restart_by (λ r. Q r.own) s same (λ h m is main. again _)

pub none_put : (queue : QueueName) (o : Option KeptValue)
    → option_and_then {U = RequestOf queue} (λ (value : KeptValue). None) o ≡ None
none_put queue None = refl
none_put queue (Some value) = refl

-- where nothing is asked for nothing waits
pub none_waits : (queue : QueueName) (own : Own) → asks queue own ≡ None → waits queue own ≡ None
none_waits queue own none = cond_both own.lives (asks queue own) None (λ o. o ≡ None) (λ e. none) (λ e. refl)

-- a request that waits is kept
pub waits_kept : (queue : QueueName) (own : Own) (request : RequestOf queue) → waits queue own ≡ Some request
    → asks queue own ≡ Some request
waits_kept queue own request =
    cond_both own.lives (asks queue own) None (λ o. o ≡ Some request → asks queue own ≡ Some request) (λ alive e. e)
    (λ ended e. absurd (cc))

-- What an answer leaves of the request that waits in a queue.
abbrev GoesOn : (queue : QueueName) → Option (RequestOf queue) → Option (RequestOf queue) → Type 0
GoesOn queue before later = IfSome later (λ q. IsSomeAnd before (λ p. GoesOnAs queue p q))

goes_self : (queue : QueueName) (o : Option (RequestOf queue)) → GoesOn queue o o
goes_self queue None = tt
goes_self Writes (Some request) = refl
goes_self queue (Some request) = refl

-- by whether the process lives
goes_by : (queue : QueueName) (lives : Bool) (before later : Option (RequestOf queue)) → GoesOn queue before later
    → GoesOn queue (cond lives before None) (cond lives later None)
goes_by queue true before later goes = goes
goes_by queue false before later goes = tt

module _ (queue : QueueName) (own : Own) where
  -- what holds where none waits, and of what is made of one that is kept, holds of what is made of the one that waits
  pub of_request : {A : Type 0} (P : A → Type 0) (otherwise : A) (serve : RequestOf queue → A) → P otherwise
      → ((request : RequestOf queue) → asks queue own ≡ Some request → P (serve request))
      → P (on_request (kind_in queue) own otherwise serve)
  of_request P otherwise serve none each =
      elim (cases_option (waits queue own)) [
        | inl gone ↦ rw gone none
        | inr some ↦ rw some.1 (each some.0 (waits_kept queue own some.0 some.1))
      ]

  -- what goes on, or none, once it was put in the place of the request
  abbrev Goes : DriverStep → Type 0
  Goes step = GoesOn queue (asks queue own) (asks queue (own_after step))

  goes_put : (request : RequestOf queue) (rest : Option (RequestOf queue)) (o : Own) (step : DriverStep)
      → step.own ≡ with_request (kind_in queue) rest o → IfSome rest (GoesOnAs queue request)
      → asks queue own ≡ Some request → Goes step
  goes_put request rest o step puts goes is =
      let driver = (kind_in queue).driver in
      let same : asks queue (own_after step) ≡ option_and_then (λ (v : KeptValue). rest) (kept driver o) =
      ap (told queue) (scheduled_keeps driver step ∙ ap (kept driver) puts) ∙ put_asks queue rest o in
      rw (same, is) (by_rest rest goes (kept driver o))
    where
      by_rest : (rest : Option (RequestOf queue)) → IfSome rest (GoesOnAs queue request) → (v : Option KeptValue)
          → GoesOn queue (Some request) (option_and_then (λ (v : KeptValue). rest) v)
      by_rest rest goes None = tt
      by_rest None goes (Some v) = tt
      by_rest (Some next) goes (Some v) = goes

module _ (own : Own) where
  -- of random bytes: what is left of the request goes on from it
  abbrev IsRest : RandomRequest → random.Progress → Type 0
  IsRest request p = IfSome p.rest (GoesOnAs Randoms request)

  is_rest : (request : RandomRequest) (word : Option ℕ) → IsRest request (random.progress word request own)
  is_rest request word =
      cond_both (nat_le (random.wanted request own) request.written) _ _ (IsRest request) (λ e. tt) (λ e. by_word word)
    where
      by_word : (word : Option ℕ)
          → IsRest request (random.drawing (random.wanted request own - request.written) request own word)
      by_word None = tt
      by_word (Some word) =
          cond_both (nat_le (random.wanted request own - request.written) 4) _ _ (IsRest request) (λ e. tt) (λ e. refl)

  of_word : (word : Option ℕ) → Goes Randoms own (random.answered word own).step
  unfolding random.answered
  of_word word =
      of_request Randoms own (λ (a : RequestAnswered _). Goes Randoms own a.step) _ _
      (goes_self Randoms (asks Randoms own)) (λ request.
      let p = random.progress word request own in
      goes_put Randoms own request p.rest p.step.own (random.advanced p).step refl (is_rest request word))

-- so of each event
module _ (settings : Settings) (r : Record) where
  -- an answer of another queue's device leaves it
  abbrev Left : QueueName → DriverStep → Type 0
  Left queue step = asks queue (own_after step) ≡ asks queue r.own

  pub left : (queue : QueueName) (event : Event) → IsAnswer event → queue_for event ≢ Some queue
      → asks queue (apply settings event r).own ≡ asks queue r.own
  unfolding apply
  left Writes Taken is none = absurd (none refl)
  left Writes WriteDone is none = absurd (none refl)
  left Reads (Input bytes) is none = absurd (none refl)
  left Randoms (Word word) is none = absurd (none refl)
  left Randoms NoWord is none = absurd (none refl)
  left Stores (Stored moved) is none = absurd (none refl)
  left Reads Taken is none =
      of_request Writes r.own (Left Reads) _ _ refl (λ write e. beside_asks Writes Reads refl _ r.own)
  left Reads WriteDone is none =
      of_request Writes r.own (Left Reads) _ _ refl (λ write e.
      ap (told Reads) (scheduled_keeps console.console (console.write_completing r.own write))
      ∙ beside_asks Writes Reads refl None r.own)
  left Writes (Input bytes) is none =
      of_request Reads r.own (Left Writes) _ _ refl (λ read e.
      ap (told Writes) (scheduled_keeps console.console (console.reading_in bytes r.own read))
      ∙ beside_asks Reads Writes refl None (with_written ReadWrite console.console 1 0 bytes r.own))
  left queue (Turn time) is none = absurd (cc)
  left queue (Act verb) is none = absurd (cc)
  left queue event is none = ap (told queue) (answers_beside settings event r (kind_in queue).driver is refl)

  goes_asked : (queue : QueueName) (event : Event) → IsAnswer event
      → GoesOn queue (asks queue r.own) (asks queue (apply settings event r).own)
  unfolding apply storage.answered
  goes_asked Writes Taken is =
      of_request Writes r.own (Goes Writes r.own) _ _ (goes_self Writes (asks Writes r.own)) (λ write.
      goes_put Writes r.own write (Some _) r.own (console.taking r.own write) refl refl)
  goes_asked Writes WriteDone is =
      of_request Writes r.own (Goes Writes r.own) _ _ (goes_self Writes (asks Writes r.own)) (λ write.
      goes_put Writes r.own write None r.own (console.write_completing r.own write) refl tt)
  goes_asked Reads (Input bytes) is =
      of_request Reads r.own (Goes Reads r.own) _ _ (goes_self Reads (asks Reads r.own)) (λ read.
      goes_put Reads r.own read None (with_written ReadWrite console.console 1 0 bytes r.own)
      (console.reading_in bytes r.own read) refl tt)
  goes_asked Randoms (Word word) is = of_word r.own (Some word)
  goes_asked Randoms NoWord is = of_word r.own None
  goes_asked Stores (Stored moved) is =
      of_request Stores r.own (λ (a : RequestAnswered _). Goes Stores r.own a.step) _ _
      (goes_self Stores (asks Stores r.own)) (λ request.
      let s = storage.storage_served (not moved) (flash_of r) r.storage request r.own in
      goes_put Stores r.own request None s.step.own (storage.finished s).step refl tt)
  goes_asked queue (Turn time) is = absurd (cc)
  goes_asked queue (Act verb) is = absurd (cc)
  goes_asked queue event is = rw (left queue event is (λ e. cc)) (goes_self queue (asks queue r.own))

  answer_goes : DriversKeep → (queue : QueueName) (event : Event) → IsAnswer event
      → GoesOn queue (waits queue r.own) (waits queue (apply settings event r).own)
  answer_goes keep queue event is =
      rw (ap (λ (x : Own). x.lives) (of_answer StaysInPlace keep.places settings event r is))
      (goes_by queue r.own.lives _ _ (goes_asked queue event is))

  act_goes : (queue : QueueName) (verb : Verb) → GoesOn queue (waits queue r.own) (waits queue (operated verb r).own)
  act_goes queue verb =
      let same = goes_self queue (waits queue r.own) in
      of_operated (λ ended s. GoesOn queue (waits queue r.own) (waits queue s.own)) r same (λ held. same) (λ lives. tt)
      (of_restart (λ o. GoesOn queue (waits queue r.own) (waits queue o)) r same (λ brk. tt)) verb

pub requests_go_on : DriversKeep → (settings : Settings) (event : Event) (r : Record) → is_turn event ≡ false
    → RequestsGoOn r (apply settings event r)
unfolding apply
requests_go_on keep settings event r =
    of_told (λ e. RequestsGoOn r (apply settings e r))
    (λ e is. record { each = λ queue. answer_goes settings r keep queue e is })
    (λ verb. record { each = λ queue. act_goes settings r queue verb }) event
