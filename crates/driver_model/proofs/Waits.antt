-- Who waits, by what is asked for before and after.
use Rattle.std.proofs.Common.{◌≡◌, ◌≤◌, ℕ, zero, suc, ◌+◌, Bool, true, false, Option, is_some, IfSome}
use Rattle.std.proofs.Common.{refl, ap, sym}
use Rattle.std.proofs.Common.{◌∙◌, subst, eqb-true, eq-eqb}
use Rattle.process_model.specs.Own.{Own}
use Rattle.driver_model.specs.Commands.{QueueName, Writes, Reads, Randoms, Stores, is_same, order_of}
use Rattle.driver_model.specs.Requests.{request_in}
use Rattle.driver_model.specs.Lines.{IsWithin, RequestOf, has_waiting, kind_in}
use Rattle.std.proofs.lemmas.Bool.{cases_Bool}
use Rattle.std.proofs.Common.{inl, inr}

-- each queue has its place in the order
pub same_queue : (here queue : QueueName) → is_same here queue ≡ true → here ≡ queue
same_queue here queue e =
    sym (there here) ∙ ap queue_at (eqb-true (order_of here) (order_of queue) e) ∙ there queue
  where
    queue_at : ℕ → QueueName
    queue_at zero = Writes
    queue_at (suc zero) = Reads
    queue_at (suc (suc zero)) = Randoms
    queue_at (suc (suc (suc n))) = Stores

    there : (q : QueueName) → queue_at (order_of q) ≡ q
    there Writes = refl
    there q = refl

pub same_here : (queue : QueueName) → is_same queue queue ≡ true
same_here queue = eq-eqb (order_of queue) (order_of queue) refl

-- in each queue one asks after something as a rule says, by whether it did before
abbrev pub Moves : (QueueName → Bool → Bool) → Own → Own → Type 0
Moves rule own o = (queue : QueueName)
    → is_some (request_in (kind_in queue) o) ≡ rule queue (is_some (request_in (kind_in queue) own))

-- the same is asked for in each queue, or in all but one
abbrev pub AsksBeside : QueueName → Own → Own → Type 0
AsksBeside here own o = (queue : QueueName) → is_same here queue ≡ false
    → request_in (kind_in queue) o ≡ request_in (kind_in queue) own

-- the rule of a queue is that of all others: one waits as before
pub moves_one : (here : QueueName) (rule : QueueName → Bool → Bool) (own o : Own) → AsksBeside here own o
    → ((queue : QueueName) → is_same here queue ≡ false → (waits : Bool) → waits ≡ rule queue waits)
    → is_some (request_in (kind_in here) o) ≡ rule here (is_some (request_in (kind_in here) own)) → Moves rule own o
moves_one here rule own o beside stays moves queue =
    elim (cases_Bool (is_same here queue)) [
      | inl e ↦ rw (← same_queue here queue e) moves
      | inr e ↦ ap is_some (beside queue e) ∙ stays queue e (is_some (request_in (kind_in queue) own))
    ]

-- then it waits as the rule says, where none begins to wait that has ended
pub each_waits : (rule : QueueName → Bool → Bool) (own o : Own) → o.lives ≡ own.lives
    → ((queue : QueueName) → own.lives ≡ false → rule queue false ≡ false) → Moves rule own o
    → (queue : QueueName) → has_waiting queue o ≡ rule queue (has_waiting queue own)
each_waits rule own o lives ended moves queue =
    rw lives (elim (cases_Bool own.lives) [
      | inl alive ↦ rw alive (moves queue)
      | inr dead ↦ rw dead (sym (ended queue dead))
    ])

-- a storage request that is kept as before lies in as many bytes
pub within_still : (size : ℕ) (own o : Own) → request_in (kind_in Stores) o ≡ request_in (kind_in Stores) own
    → IsWithin size own → IsWithin size o
within_still size own o same =
    subst (λ (q : Option (RequestOf Stores)). IfSome q (λ r. r.offset + r.length ≤ size)) (sym same)
