-- That each storage request asks for bytes that its slot has: a command is refused that asks for others, and storage
-- stays as long as it is. A turn (`TurnsKeepLines`) and an act keep it by what they leave of requests, and an answer of
-- another driver leaves the value; so by induction on the choices reads give storage in every run.
use Rattle.std.proofs.Common.{◌≡◌, ◌≤◌, ℕ, ◌+◌, Bool, true, false, not, List, [], ◌∷◌}
use Rattle.std.proofs.Common.{◌++◌, drop, length}
use Rattle.std.proofs.Common.{take, slice_get, Option, None, Some, IfSome, refl, sym, ap, subst, ◌∙◌, arith}
use Rattle.std.specs.Option.{option_and_then}
use Rattle.std.proofs.lemmas.List.{length-append, length-drop, length-take}
use Rattle.tk_base.specs.declared.kinds.PairKind.TheVariants.{ReadOnly}
use Rattle.tk_base.specs.declared.process.Choice.{Choice}
use Rattle.grant_values.specs.declared.storage.StorageKind.{StorageKind}
use Rattle.grant_values.specs.declared.storage.StorageKind.TheVariants.{Read, Write}
use Rattle.grant_values.specs.declared.storage.StorageRequest.{StorageRequest}
use Rattle.grant_values.specs.Values.{KeptValue, StorageValue}
use Rattle.process_model.specs.Handed.{held}
use Rattle.process_model.specs.Own.{Own}
use Rattle.process_model.specs.Served.{bytes_at, kept}
use Rattle.board_devices.specs.Storage.{overwritten}
use Rattle.driver_model.specs.Lines.{IsWithin}
use Rattle.driver_model.specs.Requests.{keeping_request, request_in, waiting_in}
use Rattle.driver_model.specs.Steps.{DriverStep, own_after}
use Rattle.driver_model.specs.Storage as storage
use Rattle.driver_model.specs.Storage.{storages}
use Rattle.kernel_model.specs.Laws.{TurnsKeepLines}
use Rattle.kernel_model.specs.Lives.{HoldsThroughout, LivesAsItRuns}
use Rattle.kernel_model.specs.Record.{Record, flash_of}
use Rattle.kernel_model.specs.declared.settings.Settings.{Settings}
use Rattle.kernel_model.specs.Replay.{after_all}
use Rattle.kernel_model.specs.Wholes.{HasWholeOwn}
use Rattle.kernel_model.specs.Turn.{Act, Event, Stored, Turn}
use Rattle.kernel_model.specs.Turn.{apply}
use Rattle.kernel_model.specs.World.{World, after}
use Rattle.kernel_model.proofs.Replays.{kept_settings, record_is_replay}
use Rattle.kernel_model.proofs.Steps.{IsAnswer, of_step}
use Rattle.kernel_model.proofs.Beside.{answers_beside, scheduled_keeps}
use Rattle.kernel_model.proofs.Values.{kept_put}
use Rattle.kernel_lives.specs.StoredBytes.{AsksWithin, ReadsInRunsGiveStorage, RequestsStayWithin}
use Rattle.kernel_lives.specs.StoredBytes.{all_written, write_by, writes_at}
use Rattle.kernel_lives.proofs.Lists.{act_keeps}
use Rattle.kernel_lives.proofs.StoredBytes.{acted, one_writes, reads_give_storage, turn_leaves_storage}
use Rattle.kernel_model.proofs.Places.{same_some}
use Rattle.std.proofs.Common.{inl, inr}
use Rattle.kernel_lives.proofs.Changes.{none_or_one}
use Rattle.kernel_lives.proofs.Lists.{turn_keeps}
use Rattle.kernel_lives.proofs.Prints.{if_so}

-- the storage request in a value that is kept
abbrev request_told : Option KeptValue → Option StorageRequest
request_told value = option_and_then storages.told value

-- one that was served waits no more
served_none : (step : DriverStep) → request_in storages (own_after (keeping_request storages None step)) ≡ None
served_none step =
    ap request_told (scheduled_keeps storage.storage (keeping_request storages None step)
    ∙ kept_put storage.storage (StorageValue None) step.own)
    ∙ elim (none_or_one (kept storage.storage step.own)) [ inl e ↦ rw e | inr (value, e) ↦ rw e ]

-- a request that waits is kept
kept_waiting : (own : Own) (request : StorageRequest) → waiting_in storages own ≡ Some request
    → request_in storages own ≡ Some request
kept_waiting own request waits = (if_so own.lives _ request waits).1

module _ (size : ℕ) where
  stored_within : (fault : Bool) (flash : ℕ → ℕ) (bytes : List ℕ) (own : Own) → IsWithin size own
      → IsWithin size (own_after (storage.answered fault flash bytes own).step)
  unfolding storage.answered
  stored_within fault flash bytes own h =
      elim (none_or_one (waiting_in storages own)) [
        | inl none ↦ rw none h
        | inr (request, waits) ↦
            rw (waits, served_none (storage.storage_served fault flash bytes request own).step) tt
      ]

  answer_within : (settings : Settings) (event : Event) (r : Record) → IsAnswer event → IsWithin size r.own
      → IsWithin size (apply settings event r).own
  unfolding apply
  answer_within settings (Turn time) r is h = absurd (cc)
  answer_within settings (Stored moved) r is h = stored_within (not moved) (flash_of r) r.storage r.own h
  answer_within settings (Act verb) r is h = absurd (cc)
  answer_within settings event r is h =
      subst (λ (o : Option KeptValue). IfSome (request_told o) (λ q. q.offset + q.length ≤ size))
      (sym (answers_beside settings event r storage.storage is refl)) h

-- what is written over a storage leaves as many bytes, where it fits
overwritten_size : (bytes written : List ℕ) (offset count : ℕ) → length written ≤ count → offset + count ≤ length bytes
    → length (overwritten bytes offset written) ≡ length bytes
overwritten_size bytes written offset count few fits =
    let last = drop (offset + length written) bytes in
    let front = length-take offset bytes in
    let rest = length-drop (offset + length written) bytes in
    let whole = length-append (take offset bytes ++ written) last in
    let first = length-append (take offset bytes) written in
    whole ∙ omega (arith, front, rest, first, few, fits)

-- so does each thing that happens to a process
event_size : (settings : Settings) (event : Event) (r : Record) → IsWithin (length r.storage) r.own
    → length (apply settings event r).storage ≡ length r.storage
event_size settings event r within =
    ap (λ (bytes : List ℕ). length bytes) (one_writes settings event r) ∙ by_event event
  where
    by_kind : (request : StorageRequest) (kind : StorageKind) → request.offset + request.length ≤ length r.storage
        → length (all_written (write_by r request kind) r.storage) ≡ length r.storage
    by_kind request Read fits = refl
    by_kind request Write fits =
        let bytes = bytes_at (flash_of r) r.own (held ReadOnly storage.storage 0 r.own) in
        overwritten_size r.storage (take request.length bytes) request.offset request.length
        (omega (arith, length-take request.length bytes)) fits

    by_event : (event : Event) → length (all_written (writes_at event r) r.storage) ≡ length r.storage
    by_event (Stored true) =
        elim (none_or_one (waiting_in storages r.own)) [
          | inl none ↦ rw none
          | inr (request, waits) ↦
              rw waits (by_kind request request.kind (rw (kept_waiting r.own request waits) at within))
        ]
    by_event (Stored false) = refl
    by_event event = refl

module _ (turns : TurnsKeepLines) (stay : HoldsThroughout LivesAsItRuns) where
  step_within : (w : World) (choice : Choice) (slot : ℕ) → IfSome (slice_get w.records slot) LivesAsItRuns
      → IfSome (slice_get w.records slot) (AsksWithin w.settings.storage)
      → IfSome (slice_get (after w choice).records slot) (AsksWithin w.settings.storage)
  step_within w choice slot lives h =
      let size = w.settings.storage in
      of_step w slot (λ ended tolds o. IfSome o (AsksWithin size)) (record {
        stays = h;
        turn = λ r is free.
            let asks = rw is at h in (
              (turn_keeps turns w.settings w.clock.time r (rw is at lives)).within asks.0,
              rw (turn_leaves_storage w.settings w.clock.time r) asks.1,
            );
        answer = λ r is event answers.
            let asks = rw is at h in (
              answer_within size w.settings event r answers asks.0,
              event_size w.settings event r (rw asks.1 asks.0) ∙ asks.1,
            );
        act = λ r is verb.
            let asks = rw is at h in
            ((act_keeps size verb r (rw is at lives).application).within asks.0, rw (acted verb r) asks.1);
      }) choice

  pub requests_stay_within : RequestsStayWithin
  requests_stay_within w [] slot lives h = h
  requests_stay_within w (choice ∷ choices) slot lives h =
      let same = ap (λ (s : Settings). s.storage) (kept_settings w choice) in
      rw same at (requests_stay_within (after w choice) choices slot (stay w (choice ∷ []) slot lives)
      (rw same (step_within w choice slot lives h)))

pub reads_in_runs_give_storage : HoldsThroughout HasWholeOwn → RequestsStayWithin → ReadsInRunsGiveStorage
reads_in_runs_give_storage stay within w choices choice slot r s lives whole asks there later told =
    let v = after_all w choices in
    let is_whole = rw there at (stay w choices slot whole) in
    let is_within = rw there at (within w choices slot lives asks) in
    let is = same_some _ s (sym (rw (told, there) at (record_is_replay v (choice ∷ []) slot)) ∙ later) in
    rw (← is) (elim (none_or_one (waiting_in storages r.own)) [
      | inl none ↦ rw none tt
      | inr (request, waits) ↦ rw waits (λ read k asked room.
          reads_give_storage v.settings r request k is_whole waits read
          (rw is_within.1 (rw (kept_waiting r.own request waits) at is_within.0)) asked room)
    ])
