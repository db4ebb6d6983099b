-- What a device tells is what its step did.
use Rattle.std.proofs.Common.{◌≡◌, ℕ, ◌-◌, ◌==◌, nat_le, cond, List, Option, None, Some}
use Rattle.std.proofs.Common.{IfSome, option_map, unwrap_or, refl, ap, sym}
use Rattle.grant_values.specs.declared.random.RandomRequest.{RandomRequest}
use Rattle.process_model.specs.Own.{Own}
use Rattle.driver_model.specs.Requests.{RequestAnswered, unanswered, waiting_in}
use Rattle.driver_model.specs.Console as console
use Rattle.driver_model.specs.Console.{console_reads, console_writes}
use Rattle.driver_model.specs.Random as random
use Rattle.driver_model.specs.Random.{Progress, randoms}
use Rattle.driver_model.specs.Answers.{EventsTellSteps}
use Rattle.std.proofs.lemmas.Bool.{cases_Bool}
use Rattle.std.proofs.Common.{inl, inr}
use Rattle.driver_model.proofs.Tables.{cases_Option}

-- a write's step is what the process is told
abbrev TellsWrite : Own → RequestAnswered (List ℕ) → Type 0
TellsWrite own s = s.step ≡ cond s.completed (console.write_done own) (console.taken own)

writes : (flash : ℕ → ℕ) (own : Own) → TellsWrite own (console.sent flash own)
unfolding console.sent
writes flash own =
    elim (cases_Option (waiting_in console_writes own)) [
      | inl none ↦ rw none
      | inr is ↦ elim (cases_Bool (console.portion is.0 own == 0)) [ inl e ↦ rw (is.1, e) | inr e ↦ rw (is.1, e) ]
    ]

reads : (ring : List ℕ) (own : Own) → let r = console.received ring own in r.step ≡ console.input r.moved own
unfolding console.received
reads ring own =
    elim (cases_Option (waiting_in console_reads own)) [ inl none ↦ rw none | inr is ↦ rw is.1 ]

-- a step of a request is what it is with the word that it drew, which is the next one
pub record Draws (word : Option ℕ) (request : RandomRequest) (own : Own) (p : Progress) : Type 0 where
  pub same : random.progress p.drawn request own ≡ p
  pub next : IfSome p.drawn (λ drawn. word ≡ Some drawn)

draws_step : (word : Option ℕ) (request : RandomRequest) (own : Own)
    → Draws word request own (random.progress word request own)
draws_step None request own =
    elim (cases_Bool (nat_le (random.wanted request own) request.written)) [
      | inl e ↦ rw e (record { same = rw e; next = tt })
      | inr e ↦ rw e (record { same = rw e; next = tt })
    ]
draws_step (Some word) request own =
    elim (cases_Bool (nat_le (random.wanted request own) request.written)) [
      | inl e ↦ rw e (record { same = rw e; next = tt })
      | inr e ↦ elim (cases_Bool (nat_le (random.wanted request own - request.written) 4)) [
        | inl last ↦ rw (e, last) (record { same = rw (e, last); next = refl })
        | inr more ↦ rw (e, more) (record { same = rw (e, more); next = refl })
      ]
    ]

-- the step of a request that waits, or of none
abbrev at : Option ℕ → Own → Option RandomRequest → RequestAnswered (Option ℕ)
at word own waiting =
    unwrap_or (option_map (λ (request : RandomRequest). random.advanced (random.progress word request own)) waiting)
    (unanswered None own)

draws : (word : Option ℕ) (own : Own) (waiting : Option RandomRequest)
    → let a = at word own waiting in a.step ≡ (at a.moved own waiting).step
draws word own None = refl
draws word own (Some request) = ap (λ (p : Progress). (random.advanced p).step) (sym (draws_step word request own).same)

drawn_next : (word : Option ℕ) (own : Own) (waiting : Option RandomRequest)
    → IfSome (at word own waiting).moved (λ drawn. word ≡ Some drawn)
drawn_next word own None = tt
drawn_next word own (Some request) = (draws_step word request own).next

pub events_tell_steps : EventsTellSteps
unfolding random.answered
events_tell_steps = record {
  writes = writes;
  reads = reads;
  randoms = λ word own. draws word own (waiting_in randoms own);
  drawn = λ word own. drawn_next word own (waiting_in randoms own);
}
