-- That storage is memory: a turn leaves it, a served write is written over it, and all else leaves it. Each part of a
-- turn has the record's storage as it was, so an event writes what it says (`writes_at`), and a history all of that,
-- one after another, by induction. What a read gives is then read back from the buffer.
use Rattle.std.proofs.Common.{◌≡◌, ◌≤◌, ◌<◌, inl, inr, ℕ, ◌+◌, ◌-◌, Bool, true, false, min, List, []}
use Rattle.std.proofs.Common.{◌∷◌, ◌++◌, length, take, drop, None, Some}
use Rattle.std.proofs.Common.{refl, sym, ap, ◌∙◌, arith, slice_index, slice_range}
use Rattle.std.proofs.lemmas.List.{length-take, places, take_all}
use Rattle.std.proofs.lemmas.List.FromFn.{length-map-range_with_len}
use Rattle.std.proofs.lemmas.Bool.{cases_lt}
use Rattle.tk_base.specs.Bytes.{over}
use Rattle.tk_base.specs.declared.kinds.PairKind.TheVariants.{ReadOnly}
use Rattle.tk_base.specs.declared.process.Verb.{Verb}
use Rattle.tk_base.specs.declared.process.Verb.TheVariants as verbs
use Rattle.grant_values.specs.declared.storage.StorageKind.{StorageKind}
use Rattle.grant_values.specs.declared.storage.StorageKind.TheVariants.{Read, Write}
use Rattle.grant_values.specs.declared.storage.StorageRequest.{StorageRequest}
use Rattle.syscall_abi.specs.declared.form.CallForm.{CallForm}
use Rattle.process_model.specs.Changes.{own_byte}
use Rattle.process_model.specs.Served.{fitting, bytes_at}
use Rattle.process_model.specs.Own.{Own}
use Rattle.process_model.specs.Handed.{held, lies_in_ram}
use Rattle.process_record.specs.Parts.{after_fault}
use Rattle.board_devices.specs.Storage.{overwritten}
use Rattle.driver_model.specs.Bytes.{stored_buffer}
use Rattle.driver_model.specs.Requests.{keeping_request, waiting_in}
use Rattle.driver_model.specs.Steps.{own_after}
use Rattle.driver_model.specs.Storage as storage
use Rattle.driver_model.specs.Drivers.{CommandContext}
use Rattle.kernel_model.specs.Record.{Record, flash_of, with_effect}
use Rattle.kernel_model.specs.declared.settings.Settings.{Settings}
use Rattle.kernel_model.specs.Calls.{restart, served}
use Rattle.kernel_model.specs.Parts.{with_process, written_over}
use Rattle.kernel_model.specs.Turn.{Act, Event, Turn, Stored}
use Rattle.kernel_model.specs.Turn.{apply, operated, surroundings, turn_counted}
use Rattle.kernel_model.specs.Turn.{turned}
use Rattle.kernel_model.specs.Replay.{history, replay}
use Rattle.kernel_model.proofs.Replays.{record_is_replay}
use Rattle.kernel_lives.proofs.OwnBuffers.{read_write_lies}
use Rattle.kernel_model.proofs.Calling.{of_commanded, of_served}
use Rattle.kernel_model.proofs.Restarts.{restart_by}
use Rattle.kernel_model.proofs.Turning.{of_denial, of_each_end}
use Rattle.kernel_model.proofs.Yields.{kept_by_yield}
use Rattle.kernel_lives.specs.StoredBytes.{ReadsGiveStorage, StorageIsMemory, all_written, write_by, writes_at}
use Rattle.kernel_lives.specs.StoredBytes.{writes_in}
use Rattle.std.proofs.lemmas.Bool.{cond_both}
use Rattle.kernel_lives.proofs.Changes.{none_or_one}

-- no restart changes it
restarted : (r : Record) → (restart r).storage ≡ r.storage
restarted r = restart_by (λ (s : Record). s.storage ≡ r.storage) r refl (λ h m read main. refl)

-- nor does a call
call_leaves : (around : CommandContext) (r : Record) (strict : Bool) (call : CallForm)
    → (served strict around r call).after.storage ≡ r.storage
call_leaves around r strict call =
    of_served (λ s. s.after.storage ≡ r.storage) around r strict call (record {
      refused = λ rule. refl;
      same = λ reply. refl;
      moved = λ new reply may. refl;
      swapped = λ swap reply may. refl;
      yields = λ number a1 a2 same. (kept_by_yield r number a1 a2).storage;
      commands = λ driver number a2 a3 taker same there.
          of_commanded (λ s. s.after.storage ≡ r.storage) r (taker around number a2 a3 r.own) (λ reply is. refl)
          (λ rule is. refl);
      ends = λ kind code same. refl;
      again = λ kind code same. restarted r;
    })

-- nor a turn
pub turn_leaves_storage : (settings : Settings) (time : ℕ) (r : Record)
    → (turned settings time r).after.storage ≡ r.storage
turn_leaves_storage settings time r =
    of_each_end settings time r (λ t. t.after.storage ≡ r.storage) (record {
      nothing = λ none. refl;
      went = λ t is. refl;
      faults = λ t denial is runs.
          let s = with_effect (turn_counted r) t in
          of_denial (λ x. x.storage ≡ r.storage) settings s denial refl
          (restarted (with_process s (after_fault s.process denial)));
      makes = λ t form is calls runs made.
          let s = with_effect (turn_counted r) t in
          call_leaves (surroundings settings time s) s settings.strict form;
      delivers = λ next is yielded. refl;
    })

-- a buffer gives no more bytes than it has
buffer_size : (flash : ℕ → ℕ) (own : Own) (buffer : ℕ × ℕ) → length (bytes_at flash own buffer) ≤ buffer.1
buffer_size flash own buffer =
    let from = buffer.0 - own.layout.start in
    cond_both (lies_in_ram own.layout buffer.0 buffer.1) _ _ (λ (xs : List ℕ). length xs ≤ buffer.1)
    (λ e. omega (arith, length-take (from + buffer.1 - from) (drop from own.ram)))
    (λ e. omega (arith, length-map-range_with_len flash buffer.0 buffer.1))

take_fewer : {X : Type 0} (k n : ℕ) (xs : List X) → length xs ≤ n → take (min k n) xs ≡ take k xs
take_fewer k n xs few =
    elim (cases_lt n k) [
      | inl less ↦
          let is : min k n ≡ n = omega (arith, less) in
          rw is (take_all n xs few ∙ sym (take_all k xs (omega (arith, few, less))))
      | inr more ↦ let is : min k n ≡ k = omega (arith, more) in rw is
    ]

-- a request that is served writes what it asks for
serves : (r : Record) (request : StorageRequest) (kind : StorageKind)
    → written_over r.storage (storage.moving kind (flash_of r) r.storage request r.own).written
    ≡ all_written (write_by r request kind) r.storage
serves r request Read = refl
serves r request Write =
    let buffer = held ReadOnly storage.storage 0 r.own in
    ap (λ (bytes : List ℕ). overwritten r.storage request.offset bytes)
    (take_fewer request.length buffer.1 (bytes_at (flash_of r) r.own buffer)
    (buffer_size (flash_of r) r.own buffer))

served_writes : (r : Record)
    → written_over r.storage (storage.answered false (flash_of r) r.storage r.own).moved
    ≡ all_written (writes_at (Stored true) r) r.storage
unfolding storage.answered
served_writes r =
    elim (none_or_one (waiting_in storage.storages r.own)) [
      | inl none ↦ rw none
      | inr (request, is) ↦ rw is (serves r request request.kind)
    ]

failed_writes : (r : Record) → written_over r.storage (storage.answered true (flash_of r) r.storage r.own).moved
    ≡ r.storage
unfolding storage.answered
failed_writes r =
    elim (none_or_one (waiting_in storage.storages r.own)) [ inl none ↦ rw none | inr (request, is) ↦ rw is ]

pub acted : (verb : Verb) (r : Record) → (operated verb r).storage ≡ r.storage
acted verbs.Restart r = restarted r
acted verb r = refl

-- each thing that happens to a process writes what it says over its storage
pub one_writes : (settings : Settings) (event : Event) (r : Record)
    → (apply settings event r).storage ≡ all_written (writes_at event r) r.storage
unfolding apply
one_writes settings (Turn time) r = turn_leaves_storage settings time r
one_writes settings (Stored true) r = served_writes r
one_writes settings (Stored false) r = failed_writes r
one_writes settings (Act verb) r = acted verb r
one_writes settings event r = refl

written_then : (ws vs : List (ℕ × List ℕ)) (bytes : List ℕ)
    → all_written (ws ++ vs) bytes ≡ all_written vs (all_written ws bytes)
written_then [] vs bytes = refl
written_then (w ∷ ws) vs bytes = written_then ws vs (overwritten bytes w.0 w.1)

history_writes : (settings : Settings) (events : List Event) (r : Record)
    → (replay settings events r).storage ≡ all_written (writes_in settings events r) r.storage
history_writes settings [] r = refl
history_writes settings (event ∷ events) r =
    let s = apply settings event r in
    history_writes settings events s ∙ ap (all_written (writes_in settings events s)) (one_writes settings event r)
    ∙ sym (written_then (writes_at event r) (writes_in settings events s) r.storage)

pub storage_is_memory : StorageIsMemory
storage_is_memory w choices slot first is =
    rw (record_is_replay w choices slot, is) (history_writes w.settings (history slot w choices) first)

-- where so many bytes of an interval are put at a buffer's start, its byte k is that of the interval
put_read : (ram bytes : List ℕ) (buffer : ℕ × ℕ) (start offset count k : ℕ) → start ≤ buffer.0
    → buffer.0 + buffer.1 ≤ start + length ram → count ≤ buffer.1 → k < count → offset + count ≤ length bytes
    → slice_index (over ram (buffer.0 - start + 0) (fitting buffer 0 (slice_range bytes offset (offset + count))))
    (buffer.0 + k - start) ≡ slice_index bytes (offset + k)
put_read ram bytes buffer start offset count k above below few less fits = grind (arith, places)

-- so it is with a read that is served
module _ (flash : ℕ → ℕ) (bytes : List ℕ) (request : StorageRequest) (own : Own) (k : ℕ)
    (above : own.layout.start ≤ (stored_buffer own).0)
    (below : (stored_buffer own).0 + (stored_buffer own).1 ≤ own.layout.start + length own.ram)
    (asked : k < request.length) (room : k < (stored_buffer own).1)
    (fits : request.offset + request.length ≤ length bytes) where
  moved : (kind : StorageKind) → kind ≡ Read →
      own_byte (own_after (keeping_request storage.storages None (storage.moving kind flash bytes request own).step))
      ((stored_buffer own).0 + k) ≡ slice_index bytes (request.offset + k)
  moved Write is = absurd (cc)
  moved Read is =
      put_read own.ram bytes (stored_buffer own) own.layout.start request.offset
      (min request.length (stored_buffer own).1) k above below (omega arith) (omega (arith, asked, room))
      (omega (arith, fits))

  answered : request.kind ≡ Read → waiting_in storage.storages own ≡ Some request →
      own_byte (own_after (storage.answered false flash bytes own).step) ((stored_buffer own).0 + k)
      ≡ slice_index bytes (request.offset + k)
  unfolding storage.answered
  answered read waits = rw waits (moved request.kind read)

pub reads_give_storage : ReadsGiveStorage
unfolding apply
reads_give_storage settings r request k whole waits read fits asked room =
    let lies = read_write_lies r whole storage.storage 0 (omega (arith, room)) in
    answered (flash_of r) r.storage request r.own k lies.low lies.fits asked room fits read waits
