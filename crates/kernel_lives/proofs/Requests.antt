-- That each request is completed once at most: who is told something of a queue's device stands in that queue, and so
-- has a request there (`ListsAreOfRequests`). So a step is one of eight cases, by whether it told an answer and whether
-- a request waited before it and waits after it, and sums go by induction on the choices.
use Rattle.std.proofs.Common.{◌≡◌, ◌≤◌, ℕ, ◌+◌, ◌==◌, ◌&&◌, Bool, true, false, not, List, [], ◌∷◌, filter}
use Rattle.std.proofs.Common.{Option, None, Some, IfSome, slice_get, refl, ap, ◌∙◌, arith}
use Rattle.std.proofs.Common.{eqb-true, eq-eqb}
use Rattle.std.specs.Prelude.{All}
use Rattle.std.specs.List.{list_any}
use Rattle.std.proofs.lemmas.Bool.{false≢true}
use Rattle.std.proofs.lemmas.List.Elements.{All-head, All-tail}
use Rattle.process_model.specs.Own.{Own}
use Rattle.driver_model.specs.Commands.{QueueName}
use Rattle.driver_model.specs.Keeping.{DriversKeep}
use Rattle.driver_model.specs.Laws.{StaysInPlace}
use Rattle.kernel_model.specs.Laws.{TurnsKeepLines}
use Rattle.kernel_model.specs.Named.{slots_in}
use Rattle.kernel_model.specs.World.{Label, World, after, labels, may_serve, only_in}
use Rattle.kernel_model.proofs.Steps.{of_answer, of_step}
use Rattle.kernel_laws.specs.Queues.{FirstAreServed, IsOfFirst, queue_for}
use Rattle.kernel_lives.proofs.Lists.{act_keeps}
use Rattle.kernel_lives.specs.Lists.{ListsAreOfRequests, ListsStay, once_if, times_in}
use Rattle.kernel_lives.specs.Requests.{HasRequestsOfItsLife, RequestsAddUp}
use Rattle.kernel_lives.specs.Requests.{RequestsEndWithTheirLife}
use Rattle.kernel_lives.specs.Requests.{answers_for, asks_in}
use Rattle.kernel_model.proofs.Places.{same_name, same_some}
use Rattle.kernel_model.proofs.Places.{same_there}
use Rattle.kernel_lives.proofs.Lists.{turn_keeps}
use Rattle.std.proofs.Common.{inl, inr}
use Rattle.std.proofs.lemmas.Bool.{and_parts, cases_Bool, cond_both}
use Rattle.kernel_lives.proofs.Changes.{none_or_one}

-- the first of some slots is among them
pub stands : (slot x : ℕ) (xs : List ℕ) → x ≡ slot → 1 ≤ times_in slot (x ∷ xs)
stands slot x xs e = rw (eq-eqb x slot e) (omega arith)

pub stands_later : (slot x : ℕ) (xs : List ℕ) → 1 ≤ times_in slot xs → 1 ≤ times_in slot (x ∷ xs)
stands_later slot x xs h = cond_both (x == slot) _ _ (λ n. 1 ≤ n) (λ e. omega (arith, h)) (λ e. h)

first_stands : (p : ℕ → Bool) (slot : ℕ) (xs : List ℕ) → slice_get (filter p xs) 0 ≡ Some slot → 1 ≤ times_in slot xs
first_stands p slot [] e = absurd (cc)
first_stands p slot (x ∷ xs) e =
    elim (cases_Bool (p x)) [
      | inl t ↦ stands slot x xs (same_some x slot (rw t at e))
      | inr f ↦ stands_later slot x xs (first_stands p slot xs (rw f at e))
    ]

served_stands : (only : Option ℕ) (slot : ℕ) (xs : List ℕ) → slice_get (may_serve only xs) 0 ≡ Some slot
    → 1 ≤ times_in slot xs
served_stands None slot [] e = absurd (cc)
served_stands None slot (x ∷ xs) e = stands slot x xs (same_some x slot e)
served_stands (Some only) slot xs e = first_stands (λ s. s == only) slot xs e

pub counts : (b : Bool) (n : ℕ) → n ≡ once_if b → 1 ≤ n → b ≡ true
counts true n e some = refl
counts false n e some = absurd (omega (arith, e, some))

-- a process that is told something of a queue's device has a request there
module _ (w : World) (h : ListsAreOfRequests w) (queue : QueueName) (slot : ℕ) where
  first_asks : slice_get (may_serve (only_in w) (slots_in queue w.devices.waiting)) 0 ≡ Some slot
      → asks_in queue slot w ≡ true
  first_asks first =
      counts (asks_in queue slot w) _ (h.each queue slot)
      (served_stands (only_in w) slot (slots_in queue w.devices.waiting) first)

  label_asks : (label : Label) → IsOfFirst w label → answers_for queue slot label ≡ true → asks_in queue slot w ≡ true
  label_asks label serves told =
      let tests = and_parts (label.slot == slot) _ told in
      elim (none_or_one (queue_for label.event)) [
        | inl e ↦ absurd (false≢true (rw e at tests.1))
        | inr (name, e) ↦
            let one = same_name name queue (rw e at tests.1) in
            first_asks (serves queue (e ∙ ap Some one) ∙ ap Some (eqb-true label.slot slot tests.0))
      ]

  told_asks : (ls : List Label) → All (IsOfFirst w) ls → list_any (answers_for queue slot) ls ≡ true
      → asks_in queue slot w ≡ true
  told_asks [] each told = absurd (false≢true told)
  told_asks (label ∷ ls) each told =
      elim (cases_Bool (answers_for queue slot label)) [
        | inl e ↦ label_asks label (All-head (IsOfFirst w) label ls each) e
        | inr e ↦ told_asks ls (All-tail (IsOfFirst w) label ls each) (rw e at told)
      ]

-- one step: by whether an answer was told, and whether a request waited before it and waits after it
step_adds : (told before later : Bool) → (told ≡ true → before ≡ true)
    → once_if (not before && later) + once_if before
    ≡ once_if (told && not later) + once_if later + once_if (before && (not later && not told))
step_adds true false later h = absurd (false≢true (h refl))
step_adds told true true h = refl
step_adds told false true h = refl
step_adds told before later h = refl

pub requests_add_up : FirstAreServed → ListsStay → RequestsAddUp
requests_add_up serve stay w [] queue slot h = omega arith
requests_add_up serve stay w (choice ∷ choices) queue slot h =
    let v = after w choice in
    let later = requests_add_up serve stay v choices queue slot (stay w (choice ∷ []) h) in
    let here =
    step_adds (list_any (answers_for queue slot) (labels w choice)) (asks_in queue slot w) (asks_in queue slot v)
    (told_asks w h queue slot (labels w choice) (serve w choice)) in
    omega (arith, later, here)

-- and it is of the life in which it was made: a turn keeps a request in its life alone
pub requests_end_with_their_life : DriversKeep → TurnsKeepLines → RequestsEndWithTheirLife
requests_end_with_their_life law turns w choice slot r is lives =
    of_step w slot (λ ended tolds o. IfSome o (HasRequestsOfItsLife r)) (record {
      stays = rw is (λ queue waits. refl);
      turn = λ q there free.
          rw (← same_there _ r q is there) (turn_keeps turns w.settings w.clock.time r lives).life;
      answer = λ q there event answers queue waits.
          rw (← same_there _ r q is there) (ap (λ (o : Own). o.life)
          (of_answer StaysInPlace law.places w.settings event r answers));
      act = λ q there verb. rw (← same_there _ r q is there) (act_keeps 0 verb r lives.application).life;
    }) choice
