-- What is done to the devices does the same to a slot's lane of any two that are alike in it; and what is done for
-- another slot leaves the lane as it was. Of queues a lane has only whether the slot stands in one, which a change of a
-- queue decides by its slot (`begins`, `ends`); acts and answers are such changes, one after another.
use Rattle.std.proofs.lemmas.Bool.{cases_Bool}
use Rattle.std.proofs.Common.{inl, inr, ne_eqb, subst}
use Rattle.std.proofs.Common.{◌≡◌, ◌≢◌, ℕ, zero, suc, ◌==◌, ◌∷◌, ◌++◌, Bool, true, false, cond, List, [], filter}
use Rattle.std.proofs.Common.{slice_get, slice_index_or, slice_set, option_map, unwrap_or, refl, sym}
use Rattle.std.proofs.Common.{◌∙◌, arith, eq-eqb, eqb-true}
use Rattle.std.proofs.lemmas.Bool.{false≢true}
use Rattle.std.proofs.lemmas.Bool.Decides.{nat_tests}
use Rattle.driver_model.specs.Commands.{BoardRequest, Waits, Leaves, Lights, QueueName, Writes}
use Rattle.driver_model.specs.Commands.{is_same}
use Rattle.kernel_model.specs.World.{Devices, acted, after_answer, queue_without, routed}
use Rattle.kernel_model.specs.Parts.{is_waited_for}
use Rattle.kernel_model.specs.World.{with_queue}
use Rattle.kernel_model.proofs.Places.{queue_with}
use Rattle.kernel_partitions.specs.Alike.{LanesAreAlike}

-- whether a slot stands in a queue
abbrev pub stands : ℕ → List ℕ → Bool
stands slot slots = is_waited_for (filter (λ (s : ℕ). s == slot) slots)

pub some_wait : (s : ℕ) (slots : List ℕ) → is_waited_for (s ∷ slots) ≡ true
some_wait s slots = grind (arith, nat_tests)

-- one begins to wait
begins : (other slot : ℕ) (slots : List ℕ)
    → stands slot (slots ++ other ∷ []) ≡ cond (other == slot) true (stands slot slots)
begins other slot [] =
    elim (cases_Bool (other == slot)) [
      | inl h ↦ rw h (some_wait other [])
      | inr h ↦ rw h refl
    ]
begins other slot (s ∷ slots) =
    elim (cases_Bool (s == slot)) [
      | inl e ↦ rw (e, some_wait s (filter (λ (x : ℕ). x == slot) (slots ++ other ∷ [])), some_wait)
          (elim (cases_Bool (other == slot)) [
            | inl h ↦ rw h refl
            | inr h ↦ rw h refl
          ])
      | inr e ↦ rw e (begins other slot slots)
    ]

-- one waits no more
ends : (other slot : ℕ) (slots : List ℕ)
    → stands slot (queue_without other slots) ≡ cond (other == slot) false (stands slot slots)
ends other slot [] =
    elim (cases_Bool (other == slot)) [
      | inl h ↦ rw h refl
      | inr h ↦ rw h refl
    ]
ends other slot (s ∷ slots) =
    let rest = ends other slot slots in
    elim (cases_Bool (s == other)) [
      | inl a ↦ rw (a, eqb-true s other a) (elim (cases_Bool (other == slot)) [
        | inl h ↦ rw h (rw h at rest)
        | inr h ↦ rw h (rw h at rest)
      ])
      | inr a ↦ rw a (elim (cases_Bool (s == slot)) [
        | inl b ↦ rw (
          b,
          some_wait s (filter (λ (x : ℕ). x == slot) (queue_without other slots)),
          some_wait,
          ne_eqb other slot (λ h.
              false≢true (sym a ∙ eq-eqb s other (eqb-true s slot b ∙ sym h))),
        ) refl
        | inr b ↦ rw b rest
      ])
    ]

-- being alike goes on, and back
pub lanes_same : (slot : ℕ) (d : Devices) → LanesAreAlike slot d d
lanes_same slot d = record {
  arrivals = refl;
  faults = refl;
  line = refl;
  words = refl;
  served = refl;
  waits = λ queue. refl;
}

pub lanes_back : (slot : ℕ) (d e : Devices) → LanesAreAlike slot d e → LanesAreAlike slot e d
lanes_back slot d e alike = record {
  arrivals = sym alike.arrivals;
  faults = sym alike.faults;
  line = sym alike.line;
  words = sym alike.words;
  served = sym alike.served;
  waits = λ queue. sym (alike.waits queue);
}

pub lanes_then : (slot : ℕ) (c d e : Devices) → LanesAreAlike slot c d → LanesAreAlike slot d e → LanesAreAlike slot c e
lanes_then slot c d e one two = record {
  arrivals = one.arrivals ∙ two.arrivals;
  faults = one.faults ∙ two.faults;
  line = one.line ∙ two.line;
  words = one.words ∙ two.words;
  served = one.served ∙ two.served;
  waits = λ queue. one.waits queue ∙ two.waits queue;
}

-- a queue that changes is all that does
queue_alone : (name : QueueName) (change : List ℕ → List ℕ) (d : Devices)
    → with_queue name change d ≡ record d { waiting = (with_queue name change d).waiting }
queue_alone Writes change d = refl
queue_alone _ change d = refl

-- two changes of a queue, by which a slot stands in it or not as it did before or did not
queue_changes : (slot : ℕ) (name : QueueName) (f g : List ℕ → List ℕ) (d e : Devices)
    → ((xs ys : List ℕ) → stands slot xs ≡ stands slot ys → stands slot (f xs) ≡ stands slot (g ys))
    → LanesAreAlike slot d e → LanesAreAlike slot (with_queue name f d) (with_queue name g e)
queue_changes slot name f g d e same alike =
    let left = queue_alone name f d in
    let right = queue_alone name g e in
    record {
      arrivals = rw (left, right) alike.arrivals;
      faults = rw (left, right) alike.faults;
      line = rw (left, right) alike.line;
      words = rw (left, right) alike.words;
      served = rw (left, right) alike.served;
      waits = λ queue. rw (queue_with queue name f d, queue_with queue name g e)
          (elim (cases_Bool (is_same name queue)) [
            | inl here ↦ rw here (same _ _ (alike.waits queue))
            | inr other ↦ rw other (alike.waits queue)
          ]);
    }

-- the same change
pub queues_alike : (slot : ℕ) (name : QueueName) (change : List ℕ → List ℕ) (d e : Devices)
    → ((xs ys : List ℕ) → stands slot xs ≡ stands slot ys → stands slot (change xs) ≡ stands slot (change ys))
    → LanesAreAlike slot d e → LanesAreAlike slot (with_queue name change d) (with_queue name change e)
queues_alike slot name change = queue_changes slot name change change

-- a change of a queue that leaves whether a slot stands in it
queue_stays : (name : QueueName) (d : Devices) → with_queue name (λ xs. xs) d ≡ d
queue_stays Writes d = refl
queue_stays _ d = refl

queue_leaves : (slot : ℕ) (name : QueueName) (change : List ℕ → List ℕ) (d : Devices)
    → ((xs : List ℕ) → stands slot (change xs) ≡ stands slot xs) → LanesAreAlike slot (with_queue name change d) d
queue_leaves slot name change d same =
    subst (LanesAreAlike slot (with_queue name change d)) (queue_stays name d)
    (queue_changes slot name change (λ xs. xs) d d (λ xs ys e. same xs ∙ e) (lanes_same slot d))

-- what each change of a queue does to a slot's place in it
begin_alike : (other slot : ℕ) (xs ys : List ℕ) → stands slot xs ≡ stands slot ys
    → stands slot (xs ++ other ∷ []) ≡ stands slot (ys ++ other ∷ [])
begin_alike other slot xs ys same = rw (begins other slot xs, begins other slot ys, same) refl

end_alike : (other slot : ℕ) (xs ys : List ℕ) → stands slot xs ≡ stands slot ys
    → stands slot (queue_without other xs) ≡ stands slot (queue_without other ys)
end_alike other slot xs ys same = rw (ends other slot xs, ends other slot ys, same) refl

begin_leaves : (other slot : ℕ) → other ≢ slot → (xs : List ℕ) → stands slot (xs ++ other ∷ []) ≡ stands slot xs
begin_leaves other slot apart xs = rw (begins other slot xs, ne_eqb other slot apart) refl

end_leaves : (other slot : ℕ) → other ≢ slot → (xs : List ℕ) → stands slot (queue_without other xs) ≡ stands slot xs
end_leaves other slot apart xs = rw (ends other slot xs, ne_eqb other slot apart) refl

-- what a turn asks of the board
acts_alike : (other slot : ℕ) (act : BoardRequest) (d e : Devices) → LanesAreAlike slot d e
    → LanesAreAlike slot (acted other act d) (acted other act e)
acts_alike other slot (Waits queue) d e alike =
    queues_alike slot queue (λ slots. slots ++ other ∷ []) d e (begin_alike other slot) alike
acts_alike other slot (Leaves queue) d e alike =
    queues_alike slot queue (queue_without other) d e (end_alike other slot) alike
acts_alike other slot (Lights led switch) d e alike = record {
  arrivals = alike.arrivals;
  faults = alike.faults;
  line = alike.line;
  words = alike.words;
  served = alike.served;
  waits = λ queue. alike.waits queue;
}

act_leaves : (other slot : ℕ) → other ≢ slot → (act : BoardRequest) (d : Devices)
    → LanesAreAlike slot (acted other act d) d
act_leaves other slot apart (Waits queue) d =
    queue_leaves slot queue (λ slots. slots ++ other ∷ []) d (begin_leaves other slot apart)
act_leaves other slot apart (Leaves queue) d =
    queue_leaves slot queue (queue_without other) d (end_leaves other slot apart)
act_leaves other slot apart (Lights led switch) d = record {
  arrivals = refl;
  faults = refl;
  line = refl;
  words = refl;
  served = refl;
  waits = λ queue. refl;
}

pub routes_alike : (other slot : ℕ) (acts : List BoardRequest) (d e : Devices) → LanesAreAlike slot d e
    → LanesAreAlike slot (routed other acts d) (routed other acts e)
routes_alike other slot [] d e alike = alike
routes_alike other slot (act ∷ acts) d e alike =
    routes_alike other slot acts (acted other act d) (acted other act e) (acts_alike other slot act d e alike)

pub route_leaves : (other slot : ℕ) → other ≢ slot → (acts : List BoardRequest) (d : Devices)
    → LanesAreAlike slot (routed other acts d) d
route_leaves other slot apart [] d = lanes_same slot d
route_leaves other slot apart (act ∷ acts) d =
    lanes_then slot (routed other acts (acted other act d)) (acted other act d) d
    (route_leaves other slot apart acts (acted other act d))
    (act_leaves other slot apart act d)

-- an answer to a request, which completed or did not
pub answers_alike : (other slot : ℕ) (name : QueueName) (completed : Bool) (d e : Devices) → LanesAreAlike slot d e
    → LanesAreAlike slot (after_answer name completed other d) (after_answer name completed other e)
answers_alike other slot name true d e alike =
    queues_alike slot name (λ slots. queue_without other slots) d e (end_alike other slot) alike
answers_alike other slot name false d e alike = queues_alike slot name (λ slots. slots) d e (λ xs ys same. same) alike

pub answer_leaves : (other slot : ℕ) → other ≢ slot → (name : QueueName) (completed : Bool) (d : Devices)
    → LanesAreAlike slot (after_answer name completed other d) d
answer_leaves other slot apart name true d =
    queue_leaves slot name (λ slots. queue_without other slots) d (end_leaves other slot apart)
answer_leaves other slot apart name false d = queue_leaves slot name (λ slots. slots) d (λ xs. refl)

-- what is put at a place stands there, if there is such a place
set_there : {X : Type 0} (xs : List X) (i : ℕ) (x : X) → slice_get (slice_set xs i x) i
    ≡ option_map (λ (old : X). x) (slice_get xs i)
set_there [] i x = refl
set_there (y ∷ ys) zero x = refl
set_there (y ∷ ys) (suc i) x = set_there ys i x

pub sets_alike : {X : Type 0} (xs ys : List X) (i : ℕ) (x y : X) → slice_get xs i ≡ slice_get ys i → x ≡ y
    → slice_get (slice_set xs i x) i ≡ slice_get (slice_set ys i y) i
sets_alike xs ys i x y there same = rw (set_there xs i x, set_there ys i y, there, same) refl

-- what a list says of a place, by what stands there
pub index_by_get : {X : Type 0} (xs : List X) (i : ℕ) (d : X) → slice_index_or xs i d ≡ unwrap_or (slice_get xs i) d
index_by_get [] i d = refl
index_by_get (x ∷ xs) zero d = refl
index_by_get (x ∷ xs) (suc i) d = index_by_get xs i d

pub indexes_alike : {X : Type 0} (xs ys : List X) (i : ℕ) (d : X) → slice_get xs i ≡ slice_get ys i
    → slice_index_or xs i d ≡ slice_index_or ys i d
indexes_alike xs ys i d same = rw (index_by_get xs i d, index_by_get ys i d, same) refl
