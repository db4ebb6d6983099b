-- That queues follow requests: by what one slot that joins or leaves does to who stands in them.
use Rattle.std.proofs.Common.{◌≡◌, inl, inr, ◌≤◌, ℕ, ◌+◌, ◌==◌, Bool, true, false, not, List, [], ◌∷◌, ◌++◌}
use Rattle.std.proofs.Common.{filter, refl, sym, ap, subst, ◌∙◌, arith, eqb-true}
use Rattle.std.proofs.lemmas.List.{append-nil}
use Rattle.std.proofs.lemmas.List.Elements.{All-nil, All-cons}
use Rattle.driver_model.specs.Commands.{QueueName}
use Rattle.kernel_model.specs.World.{World, after, queue_without}
use Rattle.kernel_laws.specs.Queues.{JoinsOrLeaves, QueuesKeepOrder}
use Rattle.kernel_lives.specs.Lists.{ListsStay, once_if, times_in}
use Rattle.kernel_lives.specs.Requests.{FollowsRequests, QueuesFollowRequests, asks_in}
use Rattle.kernel_lives.proofs.Lists.{gone_from, gone_other, joined, joined_other}
use Rattle.kernel_lives.proofs.Requests.{counts, stands, stands_later}
use Rattle.std.proofs.lemmas.Bool.{cases_Bool}
use Rattle.std.proofs.lemmas.Bool.Decides.{nat_tests}

-- two tests that are the same of each slot in a list leave the same of it
same_filter : (p q : ℕ → Bool) (xs : List ℕ) → ((x : ℕ) → 1 ≤ times_in x xs → p x ≡ q x) → filter p xs ≡ filter q xs
same_filter p q [] same = refl
same_filter p q (x ∷ xs) same =
    rw (same x (stands x x xs refl), same_filter p q xs (λ y there. same y (stands_later y x xs there)))

all_stay : (xs : List ℕ) → filter (λ (x : ℕ). true) xs ≡ xs
all_stay [] = refl
all_stay (x ∷ xs) = rw (all_stay xs)

none_of : (b : Bool) (n : ℕ) → n ≡ once_if b → n ≡ 0 → b ≡ false
none_of true n e none = absurd (omega (arith, e, none))
none_of false n e none = refl

module _ (w v : World) (queue : QueueName) (before later : List ℕ)
    (asked : (slot : ℕ) → times_in slot before ≡ once_if (asks_in queue slot w))
    (asks : (slot : ℕ) → times_in slot later ≡ once_if (asks_in queue slot v)) where
  abbrev still : ℕ → Bool
  still slot = asks_in queue slot v

  abbrev Begins : ℕ → Type 0
  Begins slot = (asks_in queue slot w ≡ false) × (asks_in queue slot v ≡ true)

  stays : later ≡ before → FollowsRequests queue w v before later
  stays same = record {
    come = [];
    is = same ∙ sym (append-nil (filter still before) ∙ same_filter still (λ x. true) before (λ x there.
        counts (still x) (times_in x later) (asks x) (subst (λ (xs : List ℕ). 1 ≤ times_in x xs) (sym same) there))
        ∙ all_stay before);
    one = omega arith;
    begin = All-nil Begins;
  }

  joins : (slot : ℕ) → later ≡ before ++ slot ∷ [] → FollowsRequests queue w v before later
  joins slot same =
      let now : times_in slot later ≡ times_in slot before + 1 = ap (times_in slot) same ∙ joined slot before in
      let some : 1 ≤ times_in slot later = omega (arith, now) in
      let here : still slot ≡ true = counts (still slot) (times_in slot later) (asks slot) some in
      let once : times_in slot later ≡ 1 = asks slot ∙ ap once_if here in
      let none : times_in slot before ≡ 0 = omega (arith, now, once) in
      record {
        come = slot ∷ [];
        is = same ∙ ap (λ (xs : List ℕ). xs ++ slot ∷ []) (sym (same_filter still (λ x. true) before (kept none)
            ∙ all_stay before));
        one = omega arith;
        begin = All-cons Begins slot [] (none_of (asks_in queue slot w) (times_in slot before) (asked slot) none, here)
            (All-nil Begins);
      }
    where
      kept : times_in slot before ≡ 0 → (x : ℕ) → 1 ≤ times_in x before → still x ≡ true
      kept none x there =
          elim (cases_Bool (slot == x)) [
            | inl e ↦ absurd (omega (arith, rw (eqb-true slot x e) at none, there))
            | inr e ↦
                let as_often = ap (times_in x) same ∙ joined_other slot x before e in
                counts (still x) (times_in x later) (asks x) (omega (arith, as_often, there))
          ]

  leaves : (slot : ℕ) → later ≡ queue_without slot before → FollowsRequests queue w v before later
  leaves slot same = record {
    come = [];
    is = same ∙ sym (append-nil (filter still before) ∙ same_filter still (λ x. not (x == slot)) before left);
    one = omega arith;
    begin = All-nil Begins;
  }
    where
      left : (x : ℕ) → 1 ≤ times_in x before → still x ≡ not (x == slot)
      left x there =
          elim (cases_Bool (x == slot)) [
            | inl e ↦ rw e (none_of (still x) (times_in x later) (asks x)
                (ap (times_in x) same ∙ rw (eqb-true x slot e) (gone_from slot before)))
            | inr e ↦
                let apart : (slot == x) ≡ false = grind (arith, nat_tests) in
                let as_often = ap (times_in x) same ∙ gone_other slot x before apart in
                rw e (counts (still x) (times_in x later) (asks x) (omega (arith, as_often, there)))
          ]

  moves : (slot : ℕ) → JoinsOrLeaves slot before later → FollowsRequests queue w v before later
  moves slot (inl joined_it) = joins slot joined_it
  moves slot (inr left_it) = leaves slot left_it

pub queues_follow_requests : QueuesKeepOrder → ListsStay → QueuesFollowRequests
queues_follow_requests order stay w choice queue lists =
    let v = after w choice in
    let later = stay w (choice ∷ []) lists in
    elim (order w choice queue) [
      | inl same ↦ stays w v queue _ _ (lists.each queue) (later.each queue) same
      | inr one ↦ moves w v queue _ _ (lists.each queue) (later.each queue) one.1.slot one.4
    ]
