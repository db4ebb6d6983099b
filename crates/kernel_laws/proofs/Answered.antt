-- What an answer of a device changes of a process's bytes: those inside the buffer that is held for it, and of the
-- storage what a write asks for; an operator's act only as it starts the process again. Event by event, by the law that
-- answers write in buffers (`AnswersWriteInBuffers`), which needs that the own is whole.
use Rattle.kernel_model.proofs.Restarts.{restart_by}
use Rattle.std.proofs.Common.{◌≡◌, ◌≢◌, ◌⊎◌, inl, inr, ◌<◌, ◌≤◌, ℕ, ◌+◌, Bool, true, false, cond, List, length, min}
use Rattle.std.proofs.Common.{unwrap_or, slice_index, Option, None, Some, refl, ap, arith}
use Rattle.std.specs.Prelude.{IsSomeAnd}
use Rattle.std.proofs.Math.Logic.{⊎_map}
use Rattle.std.proofs.lemmas.Bool.{cases_lt}
use Rattle.std.proofs.lemmas.List.{length-take, places}
use Rattle.std.specs.Option.{option_map}
use Rattle.tk_base.specs.declared.kinds.PairKind.TheVariants.{ReadOnly}
use Rattle.grant_values.specs.declared.storage.StorageKind.{StorageKind}
use Rattle.grant_values.specs.declared.storage.StorageKind.TheVariants.{Read, Write}
use Rattle.grant_values.specs.declared.storage.StorageRequest.{StorageRequest}
use Rattle.process_model.specs.Own.{Own}
use Rattle.process_model.specs.Handed.{held}
use Rattle.process_model.specs.Served.{bytes_at}
use Rattle.driver_model.specs.Requests.{unanswered, waiting_in}
use Rattle.tk_base.specs.declared.process.Verb.{Verb}
use Rattle.tk_base.specs.declared.process.Verb.TheVariants as verbs
use Rattle.process_model.specs.Changes.{ChangesAt, IsInside, IsWhole}
use Rattle.process_model.specs.Own.{own_ended}
use Rattle.process_record.specs.Process.{after_end, is_alive}
use Rattle.board_devices.specs.Storage.{overwritten}
use Rattle.driver_model.specs.Bytes.{AnswersWriteInBuffers}
use Rattle.driver_model.specs.Storage as storage
use Rattle.kernel_model.specs.Record.{Record}
use Rattle.kernel_model.specs.declared.settings.Settings.{Settings}
use Rattle.kernel_model.specs.Turn.{Act, Event, Turn, Alarmed, Edge, Taken, WriteDone, Input, Word, NoWord, Stored}
use Rattle.kernel_model.specs.Turn.{apply, is_turn, operated}
use Rattle.kernel_model.specs.Record.{flash_of}
use Rattle.kernel_model.specs.Parts.{written_over}
use Rattle.kernel_model.specs.Causes.{AnswerHasCauses, AnswersHaveCauses, Overwrites, StorageChangesAt}
use Rattle.kernel_model.specs.Causes.{buffer_for}
use Rattle.kernel_model.proofs.Steps.{IsAnswer, of_told}

-- what is written over bytes changes its own places alone
overwritten_other : (bytes written : List ℕ) (offset k : ℕ) → k < length bytes
    → (k < offset) ⊎ (offset + length written ≤ k)
    → slice_index (overwritten bytes offset written) k ≡ slice_index bytes k
overwritten_other bytes written offset k within out = grind (arith, places)

-- a place that a write covers, if there is one
abbrev Covers : Option (ℕ × List ℕ) → ℕ → Type 0
Covers o k = IsSomeAnd o (λ written. (written.0 ≤ k) × (k < written.0 + length written.1))

overwrites : (bytes : List ℕ) (o : Option (ℕ × List ℕ)) → StorageChangesAt (Covers o) bytes (written_over bytes o)
overwrites bytes None k within = inl refl
overwrites bytes (Some written) k within =
    elim (cases_lt k written.0) [
      | inl below ↦ inl (overwritten_other bytes written.1 written.0 k within (inl below))
      | inr above ↦ elim (cases_lt k (written.0 + length written.1)) [
        | inl under ↦ inr (above, under)
        | inr past ↦ inl (overwritten_other bytes written.1 written.0 k within (inr past))
      ]
    ]

-- what serving a request writes over the storage, where that does not fail, lies where a write asks for
abbrev AsksFor : Own → ℕ → StorageRequest → Type 0
AsksFor own k request =
    (request.kind ≡ Write) × (request.offset ≤ k)
    × (k < request.offset + min request.length (held ReadOnly storage.storage 0 own).1)

served_asks : (flash : ℕ → ℕ) (bytes : List ℕ) (request : StorageRequest) (own : Own) (k : ℕ) (kind : StorageKind)
    → request.kind ≡ kind → Covers (storage.moving kind flash bytes request own).written k → AsksFor own k request
served_asks flash bytes request own k Read is covers = absurd covers
served_asks flash bytes request own k Write is covers =
    let buffer = held ReadOnly storage.storage 0 own in
    let count = min request.length buffer.1 in
    let size = length-take count (bytes_at flash own buffer) in
    (is, covers.0, omega (arith, covers.1, size))

answer_asks : (flash : ℕ → ℕ) (bytes : List ℕ) (own : Own) (k : ℕ)
    → Covers (storage.answered false flash bytes own).moved k
    → IsSomeAnd (waiting_in storage.storages own) (AsksFor own k)
unfolding storage.answered
answer_asks flash bytes own k =
    elim (waiting_in storage.storages own) as (λ (o : Option StorageRequest).
    Covers (unwrap_or (option_map (λ request.
    storage.finished (storage.storage_served false flash bytes request own)) o) (unanswered None own)).moved k
    → IsSomeAnd o (AsksFor own k)) [
      | None ↦ λ covers. absurd covers
      | Some request ↦ served_asks flash bytes request own k request.kind refl
    ]

-- a device's answer changes bytes inside the buffer that is held for it
record AnswerIsInBuffer (event : Event) (r s : Record) : Type 0 where
  own : ChangesAt (IsInside (buffer_for event r.own)) r.own s.own
  storage : StorageChangesAt (Overwrites event r) r.storage s.storage

answer_in_buffer : AnswersWriteInBuffers → (settings : Settings) (event : Event) (r : Record) → IsAnswer event
    → IsWhole r.own → AnswerIsInBuffer event r (apply settings event r)
unfolding apply
answer_in_buffer law settings (Turn time) r is whole = absurd (cc)
answer_in_buffer law settings (Alarmed now) r is whole =
    record { own = law.alarmed now r.own whole; storage = λ k within. inl refl }
answer_in_buffer law settings (Edge button pressed) r is whole =
    record {
      own = λ at before after. inl (law.edged button pressed r.own at before after);
      storage = λ k within. inl refl;
    }
answer_in_buffer law settings Taken r is whole =
    record { own = λ at before after. inl (law.taken r.own at before after); storage = λ k within. inl refl }
answer_in_buffer law settings WriteDone r is whole =
    record { own = λ at before after. inl (law.write_done r.own at before after); storage = λ k within. inl refl }
answer_in_buffer law settings (Input bytes) r is whole =
    record { own = law.input bytes r.own whole; storage = λ k within. inl refl }
answer_in_buffer law settings (Word word) r is whole =
    record { own = law.word _ r.own whole; storage = λ k within. inl refl }
answer_in_buffer law settings NoWord r is whole =
    record {
      own = λ at before after. inl (law.no_word r.own at before after);
      storage = λ k within. inl refl;
    }
answer_in_buffer law settings (Stored true) r is whole = record {
  own = law.stored false (flash_of r) r.storage r.own whole;
  storage = λ k within.
      ⊎_map (λ same. same) (answer_asks (flash_of r) r.storage r.own k)
      (overwrites r.storage (storage.answered false (flash_of r) r.storage r.own).moved k within);
}
answer_in_buffer law settings (Stored false) r is whole = record {
  own = law.stored true (flash_of r) r.storage r.own whole;
  storage = λ k within. inl (ap (λ (o : Option (ℕ × List ℕ)). slice_index (written_over r.storage o) k)
      (law.failed (flash_of r) r.storage r.own));
}
answer_in_buffer law settings (Act verb) r is whole = absurd (cc)

answer_has_causes : AnswersWriteInBuffers → (settings : Settings) (event : Event) (r : Record) → IsAnswer event
    → IsWhole r.own → AnswerHasCauses event r (apply settings event r)
answer_has_causes law settings event r is whole =
    let causes = answer_in_buffer law settings event r is whole in
    record {
      own = λ at before after. ⊎_map (λ same. same) (λ inside. inl inside) (causes.own at before after);
      storage = causes.storage;
    }

-- an operator's act changes bytes only where it starts the process again
act_has_causes : (verb : Verb) (r : Record) → AnswerHasCauses (Act verb) r (operated verb r)
act_has_causes verbs.Restart r =
    restart_by (AnswerHasCauses (Act verbs.Restart) r) r
    (record { own = λ at before after. inl refl; storage = λ k within. inl refl })
    (λ h m read main. record { own = λ at before after. inr (inr (refl, refl)); storage = λ k within. inl refl })
act_has_causes verbs.Terminate r = by_test (is_alive r.process.state)
  where
    by_test : (b : Bool) → AnswerHasCauses (Act verbs.Terminate) r (record r {
      process = cond b (after_end r.process 0) r.process;
      own = cond b (own_ended r.own) r.own;
    })
    by_test true = record { own = λ at before after. inl refl; storage = λ k within. inl refl }
    by_test false = record { own = λ at before after. inl refl; storage = λ k within. inl refl }
act_has_causes verb r = record { own = λ at before after. inl refl; storage = λ k within. inl refl }

-- so what a process is told, or an operator does to it, has its causes
pub told_has_causes : AnswersWriteInBuffers → (settings : Settings) (event : Event) (r : Record)
    → is_turn event ≡ false → IsWhole r.own → AnswerHasCauses event r (apply settings event r)
unfolding apply
told_has_causes law settings event r is whole =
    of_told (λ (e : Event). AnswerHasCauses e r (apply settings e r))
    (λ e answers. answer_has_causes law settings e r answers whole) (λ verb. act_has_causes verb r) event is

-- an event that is none at any time is no turn
no_turn : (event : Event) → ((time : ℕ) → event ≢ Turn time) → is_turn event ≡ false
no_turn (Turn time) none = absurd (none time refl)
no_turn event none = refl

pub answers_have_causes : AnswersWriteInBuffers → AnswersHaveCauses
answers_have_causes law settings event r none whole =
    told_has_causes law settings event r (no_turn event none) whole
