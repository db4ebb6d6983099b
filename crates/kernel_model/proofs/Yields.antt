-- What a yield comes to, by its number and by what is pending: the walk `of_yield`, with a case for each. And what no
-- yield changes, whatever its number (`KeptByYield`): it writes at most a byte of its flag, waits or takes an upcall,
-- and so all that drivers keep, the storage and the object are as they were, and it asks nothing of the board.
use Rattle.std.proofs.Common.{◌≡◌, ◌≢◌, ℕ, ◌==◌, false, List, [], slice_get}
use Rattle.std.proofs.Common.{Option, None, Some, refl, sym, subst, eqb-true}
use Rattle.tk_base.specs.declared.call.CallRule.{CallRule}
use Rattle.tk_base.specs.declared.upcall.Upcall.{Upcall as Scheduled}
use Rattle.upcall_queue.specs.Pending.{place_of}
use Rattle.process_model.specs.Own.{Own}
use Rattle.process_model.specs.Flag.{with_flag}
use Rattle.process_model.specs.Handed.{lies_in_ram}
use Rattle.syscall_abi.specs.declared.reply.Reply.{Reply}
use Rattle.process_record.specs.declared.outcome.Outcome.{Outcome}
use Rattle.process_record.specs.declared.outcome.Outcome.TheVariants.{Replied, ToDriver, Waits, Delivered, GoesOn}
use Rattle.process_record.specs.declared.process.Process.{Process}
use Rattle.process_record.specs.Process.{after_call, waiting}
use Rattle.kernel_model.specs.Record.{Record}
use Rattle.kernel_model.specs.Calls.{Served, comes_to, yield_for, yield_now, yielding}
use Rattle.kernel_model.specs.Parts.{with_process}
use Rattle.kernel_model.specs.Turn.{rule_shown}
use Rattle.kernel_model.proofs.Lines.{SameKept, all_same}
use Rattle.kernel_model.proofs.Memops.{by_case}
use Rattle.std.proofs.Common.{inl, inr}
use Rattle.std.proofs.lemmas.Bool.{cond_both}
use Rattle.kernel_model.proofs.Places.{cases_Option}
use Rattle.std.proofs.Common.{rules}

-- what holds of each: one that does not wait finds none, or the first; one waits; one that asks for an upcall finds
-- none, and waits for it, or finds one; and one of any other number goes on
pub record OfEachYield (P : Served → Type 0) (r : Record) (number one two : ℕ) : Type 0 where
  pub none : number ≡ 0 → slice_get r.own.inbox.pending 0 ≡ None → P (yield_now r one None)
  pub first : (upcall : Scheduled) → number ≡ 0 → slice_get r.own.inbox.pending 0 ≡ Some upcall
      → P (yield_now r one (Some upcall))
  pub waits : number ≡ 1 → P (comes_to (with_process r (waiting r.process)) Waits)
  pub waits_for : number ≡ 2 → slice_get r.own.inbox.pending (place_of one two r.own.inbox.pending) ≡ None
      → P (yield_for r one two None)
  pub found : (upcall : Scheduled) → number ≡ 2
      → slice_get r.own.inbox.pending (place_of one two r.own.inbox.pending) ≡ Some upcall
      → P (yield_for r one two (Some upcall))
  pub goes_on : (number == 0) ≡ false → (number == 2) ≡ false
      → P (comes_to (with_process r (after_call r.process)) GoesOn)

module _ (P : Served → Type 0) (r : Record) (number one two : ℕ) (each : OfEachYield P r number one two) where
  pub of_yield : P (yielding r number one two)
  unfolding yielding
  of_yield =
      by_case P (number == 0) _ _ (λ zero. let is = eqb-true number 0 zero in
      elim (cases_Option (slice_get r.own.inbox.pending 0))
      [ inl none ↦ rw none (each.none is none) | inr some ↦ rw some.1 (each.first some.0 is some.1) ])
      (λ zero. by_case P (number == 1) _ _ (λ is. each.waits (eqb-true number 1 is))
      (λ first. by_case P (number == 2) _ _ (λ asks. let is = eqb-true number 2 asks in
      elim (cases_Option (slice_get r.own.inbox.pending (place_of one two r.own.inbox.pending)))
      [ inl none ↦ rw none (each.waits_for is none) | inr some ↦ rw some.1 (each.found some.0 is some.1) ])
      (λ asks. each.goes_on zero asks)))

-- a flag that is written changes bytes alone
pub flag_rest : (at byte : ℕ) (own : Own) → with_flag at byte own ≡ record own { ram = (with_flag at byte own).ram }
flag_rest at byte own =
    cond_both (lies_in_ram own.layout at 1) _ own (λ o. o ≡ record own { ram = o.ram }) (λ e. refl) (λ e. refl)

-- so what holds of any other bytes holds once it is written
pub flag_so : (P : Own → Type 0) (at byte : ℕ) (own : Own) → ((ram : List ℕ) → P (record own { ram = ram }))
    → P (with_flag at byte own)
flag_so P at byte own each = subst P (sym (flag_rest at byte own)) (each (with_flag at byte own).ram)

-- what comes of a yield is no reply
pub record IsNoReply (outcome : Outcome) : Type 0 where
  pub rule : rule_shown outcome ≡ None
  pub reply : (reply : Reply) (rule : Option CallRule) → outcome ≢ Replied reply rule
  pub done : outcome ≢ ToDriver

pub record KeptByYield (r : Record) (s : Served) : Type 0 where
  pub same : SameKept r.own s.after.own
  pub object : s.after.object ≡ r.object
  pub storage : s.after.storage ≡ r.storage
  pub pressed : s.after.pressed ≡ r.pressed
  pub acts : s.acts ≡ []
  pub silent : IsNoReply s.outcome

module _ (r : Record) (number one two : ℕ) where
  keeps : (process : Process) (own : Own) (outcome : Outcome) → SameKept r.own own → IsNoReply outcome
      → KeptByYield r (comes_to (record r { process = process; own = own }) outcome)
  keeps process own outcome same silent =
      record { same = same; object = refl; storage = refl; pressed = refl; acts = refl; silent = silent }

  flagged : (byte : ℕ) → SameKept r.own (with_flag one byte r.own)
  flagged byte =
      flag_so (SameKept r.own) one byte r.own (λ ram. search rules)

  pub kept_by_yield : KeptByYield r (yielding r number one two)
  kept_by_yield =
      of_yield (KeptByYield r) r number one two (record {
        none = λ is none. keeps _ _ GoesOn (flagged 0) (search rules);
        first = λ upcall is some. let same = flagged 1 in
            keeps _ _ Delivered
            (record { grants = same.grants; lives = same.lives; life = same.life; dropped = same.dropped })
            (search rules);
        waits = λ is. keeps _ r.own Waits (all_same r.own) (search rules);
        waits_for = λ is none. keeps _ _ Waits (search rules) (search rules);
        found = λ upcall is some. keeps _ _ Delivered (search rules) (search rules);
        goes_on = λ zero asks. keeps _ r.own GoesOn (all_same r.own) (search rules);
      })
