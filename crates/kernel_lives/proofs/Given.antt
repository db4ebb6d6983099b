-- That what a device tells of a process is what the process gets: event by event, computed from what the driver does
-- with the request that waits, its bytes read back where they were put (`put_read`), which needs that the own is whole.
-- The labels of a step come from the walk over devices (`of_device`).
use Rattle.std.proofs.Common.{◌≡◌, inl, inr, ◌<◌, ◌≤◌, ℕ, ◌+◌, ◌-◌, Bool, true, false, cond, min, nat_le}
use Rattle.std.proofs.Common.{not, List, [], length, take, Option, None, Some, IfSome, slice_get}
use Rattle.std.proofs.Common.{slice_index, unwrap_or, refl, sym, ap, ◌∙◌, arith}
use Rattle.std.specs.Prelude.{All}
use Rattle.std.specs.Int.{w32, to_le_bytes}
use Rattle.std.specs.Option.{option_and_then, option_map}
use Rattle.std.proofs.lemmas.Bool.{false≢true, leb-true}
use Rattle.std.proofs.lemmas.Bool.Decides.{nat_tests}
use Rattle.std.proofs.lemmas.List.{length-take, places}
use Rattle.std.proofs.lemmas.List.Elements.{All-nil, All-cons}
use Rattle.std.proofs.lemmas.Option.{slice_get-map}
use Rattle.tk_base.specs.Bytes.{over}
use Rattle.tk_base.specs.declared.kinds.PairKind.TheVariants.{ReadWrite}
use Rattle.tk_base.specs.declared.process.Dev.{Dev}
use Rattle.grant_values.specs.declared.console.WaitingRead.{WaitingRead}
use Rattle.grant_values.specs.declared.random.RandomRequest.{RandomRequest}
use Rattle.grant_values.specs.declared.storage.StorageKind.{StorageKind}
use Rattle.grant_values.specs.declared.storage.StorageKind.TheVariants.{Read}
use Rattle.grant_values.specs.declared.storage.StorageRequest.{StorageRequest}
use Rattle.grant_values.specs.Values.{KeptValue, AlarmValue}
use Rattle.process_model.specs.Changes.{own_byte}
use Rattle.process_model.specs.Handed.{held}
use Rattle.process_model.specs.Own.{Own}
use Rattle.process_model.specs.Served.{fitting, kept, with_written}
use Rattle.driver_model.specs.Alarm as alarm
use Rattle.driver_model.specs.Commands.{QueueName, Writes, Reads, Randoms, Stores}
use Rattle.driver_model.specs.Console as console
use Rattle.driver_model.specs.Lines.{kind_in}
use Rattle.driver_model.specs.Random as random
use Rattle.driver_model.specs.Requests.{unanswered, with_request}
use Rattle.driver_model.specs.Steps.{silently}
use Rattle.driver_model.specs.Storage as storage
use Rattle.kernel_model.specs.Record.{Record, flash_of, record_with_step}
use Rattle.kernel_model.specs.declared.settings.Settings.{Settings}
use Rattle.kernel_model.specs.Laws.{edge_done, edge_heard, one_answered}
use Rattle.kernel_model.specs.Parts.{alarmed, drawn_event, written_over}
use Rattle.kernel_model.specs.Turn.{Alarmed, Input, NoWord, Stored, Taken, WriteDone, apply}
use Rattle.kernel_model.specs.Wholes.{HasWholeOwn}
use Rattle.kernel_model.specs.World.{Answer, DeviceAnswer, Stepped, World, answer_label}
use Rattle.kernel_model.specs.World.{device_step_of, done, lane_in, operating, random_step}
use Rattle.kernel_model.specs.World.{receive_step, storing, telling_edge, transmitting}
use Rattle.kernel_model.proofs.Places.{set_own}
use Rattle.kernel_model.proofs.Told.{edge_answer, of_device, told_labels, with_rest}
use Rattle.kernel_laws.specs.Between.{OfAnswerIn}
use Rattle.kernel_laws.proofs.Asking.{none_put, none_waits, put_asks, told, waits}
use Rattle.kernel_model.proofs.Values.{kept_put}
use Rattle.kernel_lives.specs.Given.{AnswersAreGiven, InputIsGiven, IsGiven, StorageIsDone}
use Rattle.kernel_lives.specs.Given.{WordIsGiven, due_to}
use Rattle.kernel_lives.proofs.OwnBuffers.{read_write_lies}
use Rattle.kernel_lives.proofs.Shown.{clock_shown}
use Rattle.kernel_model.proofs.Labels.{labels_by_device}
use Rattle.std.proofs.lemmas.Bool.{cases_Bool, lt-leb}
use Rattle.kernel_lives.proofs.Changes.{none_or_one}
use Rattle.kernel_model.specs.Turn.{Word}

take_read : (xs : List ℕ) (n k : ℕ) → k < n → k < length xs → slice_index (take n xs) k ≡ slice_index xs k
take_read xs n k less within = grind (arith, places)

-- bytes that are put into a buffer from a place on stand there
put_read : (ram bytes : List ℕ) (buffer : ℕ × ℕ) (start place k : ℕ) → start ≤ buffer.0
    → buffer.0 + buffer.1 ≤ start + length ram → place + length bytes ≤ buffer.1 → k < length bytes
    → slice_index (over ram (buffer.0 - start + place) (fitting buffer place bytes)) (buffer.0 + place + k - start)
    ≡ slice_index bytes k
put_read ram bytes buffer start place k above below few less = grind (arith, places)

pub put_none : (queue : QueueName) (own : Own) → waits queue (with_request (kind_in queue) None own) ≡ None
put_none queue own =
    none_waits queue (with_request (kind_in queue) None own)
    (put_asks queue None own ∙ none_put queue (kept (kind_in queue).driver own))

module _ (settings : Settings) (r : Record) where
  -- bytes that came in
  pub input_given : (ring : List ℕ) (o : Option WaitingRead)
      → let bytes = (unwrap_or (option_map (console.receiving ring r.own) o) (unanswered [] r.own)).moved in
      IfSome o (λ read. InputIsGiven bytes read r
      (record_with_step r (unwrap_or (option_map (console.reading_in bytes r.own) o) (silently r.own))))
  input_given ring None = tt
  input_given ring (Some read) =
      let buffer = held ReadWrite console.console 1 r.own in
      let size = length-take (min read.length buffer.1) ring in
      record {
        asked = omega (arith, size);
        room = omega (arith, size);
        stand = λ whole k less.
            let lies = read_write_lies r whole console.console 1 (omega (arith, size, less)) in
            put_read r.own.ram (take (min read.length buffer.1) ring) buffer r.own.layout.start 0 k lies.low lies.fits
            (omega (arith, size)) less;
        tells = refl;
        done = put_none Reads (with_written ReadWrite console.console 1 0 (take (min read.length buffer.1) ring) r.own);
      }

  -- a write
  sent_given : (completed : Bool) → let event = cond completed WriteDone Taken in
      IsGiven event r (apply settings event r)
  unfolding apply
  sent_given true =
      elim (none_or_one (waits Writes r.own)) [
        | inl none ↦ rw none tt
        | inr (write, is) ↦ rw is (record { tells = refl; done = put_none Writes r.own })
      ]
  sent_given false =
      elim (none_or_one (waits Writes r.own)) [ inl none ↦ rw none | inr (write, is) ↦ rw is ]

  -- storage
  stored_given : (moved : Bool) → IsGiven (Stored moved) r (apply settings (Stored moved) r)
  unfolding apply storage.answered
  stored_given moved =
      elim (none_or_one (waits Stores r.own)) [
        | inl none ↦ rw none tt
        | inr (request, is) ↦ rw is (by_kind moved request.kind request.offset request.length)
      ]
    where
      by_kind : (moved : Bool) (kind : StorageKind) (offset length : ℕ) →
          let request : StorageRequest = record { kind = kind; offset = offset; length = length } in
          let a = storage.finished (storage.storage_served (not moved) (flash_of r) r.storage request r.own) in
          StorageIsDone moved request r
          (record (record_with_step r a.step) { storage = written_over r.storage a.moved })
      by_kind true Read offset length =
          let request : StorageRequest = record { kind = Read; offset = offset; length = length } in
          record {
            tells = refl;
            done = put_none Stores (storage.moving Read (flash_of r) r.storage request r.own).step.own;
          }
      by_kind moved kind offset length = record { tells = refl; done = put_none Stores r.own }

  -- an alarm
  alarm_given : (now : ℕ) → IsGiven (Alarmed now) r (apply settings (Alarmed now) r)
  unfolding apply alarm.answered
  alarm_given now =
      let shown = alarm.showing now r.own in
      elim (none_or_one (alarm.due_alarm now r.own)) [
        | inl none ↦ rw none tt
        | inr (armed, is) ↦ rw is (record {
          shows = clock_shown now r _ (λ at. refl);
          tells = refl;
          done = ap alarm.armed_in (kept_put alarm.alarm_driver (AlarmValue None) shown)
              ∙ elim (none_or_one (kept alarm.alarm_driver shown)) [ inl e ↦ rw e | inr (value, e) ↦ rw e ];
        })
      ]

  -- random bytes: the word that is told, where some are still to be written
  pub word_given : (word : ℕ) (request : RandomRequest) → waits Randoms r.own ≡ Some request
      → request.written < due_to request r →
      WordIsGiven word request r
      (record_with_step r (random.advanced (random.progress (Some word) request r.own)).step)
  word_given word request waiting short =
      let some = lt-leb (due_to request r) request.written short in
      elim (cases_Bool (nat_le (due_to request r - request.written) 4)) [
        | inl e ↦
            let few = leb-true _ _ e in
            let all : request.written + (due_to request r - request.written) ≡ due_to request r
            = omega (arith, short) in
            rw (some, e) (record {
              short = short;
              stand = stands;
              last = λ end. (
                ap (λ (n : ℕ). (record_with_step r (random.advanced
                    (random.completing (Some word) 0 n written)).step).own.inbox) all,
                put_none Randoms written,
              );
              more = λ on. absurd (omega (arith, few, on, short));
            })
        | inr e ↦
            let many : 4 < due_to request r - request.written = grind (arith, nat_tests) in
            rw (some, e) (record {
              short = short;
              stand = stands;
              last = λ end. absurd (omega (arith, many, end));
              more = λ on. (refl, kept_waits (record request { written = request.written + 4 }));
            })
      ]
    where
      written : Own
      written = with_written ReadWrite random.random 0 request.written
          (take (min 4 (due_to request r - request.written)) (to_le_bytes w32 word)) r.own

      stands : HasWholeOwn r → (k : ℕ) → k < 4 → request.written + k < due_to request r →
          own_byte written ((held ReadWrite random.random 0 r.own).0 + request.written + k)
          ≡ slice_index (to_le_bytes w32 word) k
      stands whole k four within =
          let buffer = held ReadWrite random.random 0 r.own in
          let lies = read_write_lies r whole random.random 0 (omega (arith, within)) in
          let size = length-take (min 4 (due_to request r - request.written)) (to_le_bytes w32 word) in
          put_read r.own.ram (take (min 4 (due_to request r - request.written)) (to_le_bytes w32 word)) buffer
          r.own.layout.start request.written k lies.low lies.fits (omega (arith, size, short))
          (omega (arith, size, four, within))
          ∙ take_read (to_le_bytes w32 word) (min 4 (due_to request r - request.written)) k
          (omega (arith, four, within)) four

      kept_waits : (request_put : RandomRequest)
          → waits Randoms (with_request random.randoms (Some request_put) written) ≡ Some request_put
      kept_waits request_put =
          ap (λ (q : Option RandomRequest). cond r.own.lives q None) (put_asks Randoms (Some request_put) written)
          ∙ so r.own.lives (kept random.random r.own) waiting
        where
          so : (lives : Bool) (o : Option KeptValue) → cond lives (told Randoms o) None ≡ Some request
              → cond lives (option_and_then (λ (value : KeptValue). Some request_put) o) None ≡ Some request_put
          so true (Some value) e = refl
          so lives o e = absurd (cc)

  word_waits : (word : ℕ) → IfSome (waits Randoms r.own) (λ request. request.written < due_to request r)
      → IsGiven (Word word) r (apply settings (Word word) r)
  unfolding apply random.answered
  word_waits word short =
      elim (none_or_one (waits Randoms r.own)) [
        | inl none ↦ rw none tt
        | inr (request, is) ↦ rw is (word_given word request is (rw is at short))
      ]

  no_word_given : IsGiven NoWord r (apply settings NoWord r)
  unfolding apply random.answered
  no_word_given =
      elim (none_or_one (waits Randoms r.own)) [
        | inl none ↦ rw none tt
        | inr (request, is) ↦
            elim (cases_Bool (nat_le (due_to request r) request.written)) [
              | inl e ↦ rw (is, e) (record {
                tells = (0, inl (refl, leb-true _ _ e), refl);
                done = put_none Randoms r.own;
              })
              | inr e ↦ rw (is, e) (record {
                tells = (1, inr (refl, grind (arith, nat_tests)), refl);
                done = put_none Randoms r.own;
              })
            ]
      ]

  -- what the source of random bytes tells by its next word
  drawn_short : (next : Option ℕ) → IfSome (random.answered next r.own).moved
      (λ word. IfSome (waits Randoms r.own) (λ request. request.written < due_to request r))
  unfolding random.answered
  drawn_short next =
      elim (none_or_one (waits Randoms r.own)) [
        | inl none ↦ rw none tt
        | inr (request, is) ↦
            elim (cases_Bool (nat_le (due_to request r) request.written)) [
              | inl e ↦ rw (is, e) tt
              | inr e ↦ rw (is, e) (by_next request next (grind (arith, nat_tests)))
            ]
      ]
    where
      by_next : (request : RandomRequest) (next : Option ℕ) → request.written < due_to request r
          → IfSome (random.drawing (due_to request r - request.written) request r.own next).drawn
          (λ word. request.written < due_to request r)
      by_next request None short = tt
      by_next request (Some word) short =
          elim (cases_Bool (nat_le (due_to request r - request.written) 4)) [ inl e ↦ rw e short | inr e ↦ rw e short ]

  drawn_given : (next : Option ℕ) → let event = drawn_event (random.answered next r.own).moved in
      IsGiven event r (apply settings event r)
  drawn_given next = by_drawn (random.answered next r.own).moved (drawn_short next)
    where
      by_drawn : (drawn : Option ℕ)
          → IfSome drawn (λ word. IfSome (waits Randoms r.own) (λ request. request.written < due_to request r))
          → IsGiven (drawn_event drawn) r (apply settings (drawn_event drawn) r)
      by_drawn None short = no_word_given
      by_drawn (Some word) short = word_waits word short

-- of the labels of a step
module _ (w : World) where
  abbrev Gives : Stepped → Type 0
  Gives s = All (OfAnswerIn IsGiven w s.after) s.labels

  there : (v : World) (slot : ℕ) (a : Answer) (r s : Record) → slice_get w.records slot ≡ Some r
      → slice_get v.records slot ≡ Some s → IsGiven a.event r s → OfAnswerIn IsGiven w v (answer_label slot a)
  there v slot a r s is_r is_s gives no_turn = rw (is_r, is_s) gives

  one : (slot : ℕ) (r : Record) (a : DeviceAnswer) → slice_get w.records slot ≡ Some r
      → IsGiven a.answer.event r (apply w.settings a.answer.event r) → Gives (one_answered w slot r a)
  one slot r a is gives =
      All-cons (OfAnswerIn IsGiven w (one_answered w slot r a).after) (answer_label slot a.answer) []
      (there (one_answered w slot r a).after slot a.answer r (apply w.settings a.answer.event r) is
      (set_own w.records slot (apply w.settings a.answer.event r) r is) gives)
      (All-nil (OfAnswerIn IsGiven w (one_answered w slot r a).after))

  received_given : (r : Record) (ring : List ℕ) → let event = Input (console.received ring r.own).moved in
      IsGiven event r (apply w.settings event r)
  unfolding apply console.received
  received_given r ring = input_given w.settings r ring (waits Reads r.own)

  of_devices : (device : Dev) → Gives (done w (device_step_of w device))
  unfolding apply
  of_devices device = of_device w Gives (record {
    none = All-nil (OfAnswerIn IsGiven w w);
    arrives = λ bytes rest. All-nil _;
    edges = λ button pressed rest.
        let v = (edge_done w button pressed (with_rest w.devices rest)).after in
        told_labels (OfAnswerIn IsGiven w v) (telling_edge button pressed w.records w.devices).told 0 w.records
        (λ slot at r a here is tells.
        let same : slot ≡ at = omega (arith, here) in
        let is_there : slice_get w.records at ≡ Some r = ap (slice_get w.records) (sym same) ∙ is in
        there v at a r (edge_heard button pressed r) is_there
        (rw (slice_get-map (edge_heard button pressed) w.records at, is_there))
        (rw (edge_answer button pressed (slice_get w.records at) a tells) tt));
    nobody = λ rest. All-nil _;
    acts = λ verb rest slot r is. one slot r (operating verb (with_rest w.devices rest) slot r) is tt;
    alarms = λ slot r first is. one slot r (alarmed w.settings w.clock.time w.devices) is (alarm_given w.settings r _);
    sends = λ slot r first is. one slot r (transmitting (lane_in w) w.clock.time w.devices slot r) is
        (sent_given w.settings r (console.sent (flash_of r) r.own).completed);
    receives = λ slot r first is. one slot r (receive_step (lane_in w) w.devices slot r) is (received_given r _);
    draws = λ slot r first is. one slot r (random_step (lane_in w) w.devices slot r) is (drawn_given w.settings r _);
    stores = λ slot r first is. one slot r (storing (lane_in w) w.devices slot r) is (stored_given w.settings r _);
  }) device

pub answers_are_given : AnswersAreGiven
answers_are_given w =
    labels_by_device (λ s. OfAnswerIn IsGiven w s.after) w
    (λ slot r is may no_turn. absurd (false≢true (sym no_turn))) (of_devices w)
