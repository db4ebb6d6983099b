-- Those that wait in a line are those with a request, after what a turn or a device's step asks. Each act puts its
-- process at the end, takes it out, or leaves the line, so whether a slot waits follows the acts by induction, and all
-- other slots wait as before; who waits is still there (`line_after`).
use Rattle.std.proofs.Common.{◌≡◌, ◌≢◌, ◌<◌, ℕ, ◌==◌, ◌||◌, Bool, true, false, not, List, [], ◌∷◌, ◌++◌, length}
use Rattle.std.proofs.Common.{slice_get, slice_set, slice_index_or, Some, refl, sym, ap, subst, ◌∙◌, arith, eqb-true}
use Rattle.std.specs.List.{AllByRecursion}
use Rattle.std.proofs.Common.{inl, inr}
use Rattle.std.proofs.lemmas.Bool.{cases_Bool, cases_eq, cond_both, eq-eqb, false≢true}
use Rattle.std.proofs.lemmas.Bool.Decides.{nat_tests}
use Rattle.std.proofs.lemmas.List.{get_or-set_same, get_or-set_other, length-set}
use Rattle.std.proofs.lemmas.Option.{slice_get_within, get_or_from_slice_get}
use Rattle.tk_base.specs.declared.process.ProcessId.{ProcessId}
use Rattle.process_model.specs.Own.{Own}
use Rattle.driver_model.specs.Commands.{BoardRequest, Waits, Leaves, Lights, QueueName, is_same}
use Rattle.driver_model.specs.Lines.{has_waiting, waits_after, waits_by}
use Rattle.driver_requests.specs.Waiting.{after_act, queue_after, waits, without}
use Rattle.grant_enter.specs.Homes.{nobody}
use Rattle.board_drivers.specs.Driven.{IsQueueOf, IsThere}

same_number : (n : ℕ) → (n == n) ≡ true
same_number n = grind (arith, nat_tests)

other_number : (m n : ℕ) → m ≢ n → (m == n) ≡ false
other_number m n apart = grind (arith, nat_tests)

none_or : (b : Bool) → (b || false) ≡ b
none_or b = grind arith

or_true : (b : Bool) → (b || true) ≡ true
or_true b = grind arith

-- one more that waits
waits_more : (slot : ℕ) (ids : List ProcessId) (id : ProcessId)
    → waits slot (ids ++ id ∷ []) ≡ (waits slot ids || (id.slot == slot))
waits_more slot [] id = none_or (id.slot == slot)
waits_more slot (x ∷ ids) id =
    rw (waits_more slot ids id) (assoc (x.slot == slot) (waits slot ids) (id.slot == slot))
  where
    assoc : (a b c : Bool) → (a || (b || c)) ≡ ((a || b) || c)
    assoc true b c = refl
    assoc false b c = refl

-- and one less
waits_less_itself : (slot : ℕ) (ids : List ProcessId) → waits slot (without slot ids) ≡ false
waits_less_itself slot [] = refl
waits_less_itself slot (x ∷ ids) = elim (cases_Bool (x.slot == slot)) [
  | inl is ↦ rw is (waits_less_itself slot ids)
  | inr not ↦ rw (not, not) (waits_less_itself slot ids)
]

waits_less_other : (slot other : ℕ) (ids : List ProcessId) → other ≢ slot
    → waits other (without slot ids) ≡ waits other ids
waits_less_other slot other [] apart = refl
waits_less_other slot other (x ∷ ids) apart = elim (cases_eq x.slot slot) [
  | inl same ↦
      let no_other : (x.slot == other) ≡ false = other_number x.slot other (λ is. apart (sym is ∙ same)) in
      rw (eq-eqb x.slot slot same, no_other) (waits_less_other slot other ids apart)
  | inr differ ↦ rw (other_number x.slot slot differ, waits_less_other slot other ids apart) refl
]

-- whether its process waits after an act, and whether another one does
own_by_act : (here : QueueName) (id : ProcessId) (ids : List ProcessId) (act : BoardRequest)
    → waits id.slot (after_act here id ids act) ≡ waits_by here act (waits id.slot ids)
own_by_act here id ids (Waits line) = elim (cases_Bool (is_same line here)) [
  | inl is ↦ rw (is, waits_more id.slot ids id, same_number id.slot) (or_true (waits id.slot ids))
  | inr not ↦ rw not refl
]
own_by_act here id ids (Leaves line) = elim (cases_Bool (is_same line here)) [
  | inl is ↦ rw is (waits_less_itself id.slot ids)
  | inr not ↦ rw not refl
]
own_by_act here id ids (Lights led switch) = refl

other_by_act : (here : QueueName) (id : ProcessId) (other : ℕ) (ids : List ProcessId) (act : BoardRequest)
    → other ≢ id.slot → waits other (after_act here id ids act) ≡ waits other ids
other_by_act here id other ids (Waits line) apart =
    cond_both (is_same line here) (ids ++ id ∷ []) ids (λ xs. waits other xs ≡ waits other ids)
    (λ is. rw (waits_more other ids id, other_number id.slot other (λ is. apart (sym is))) (none_or (waits other ids)))
    (λ not. refl)
other_by_act here id other ids (Leaves line) apart =
    cond_both (is_same line here) (without id.slot ids) ids (λ xs. waits other xs ≡ waits other ids)
    (λ is. waits_less_other id.slot other ids apart) (λ not. refl)
other_by_act here id other ids (Lights led switch) apart = refl

own_after : (here : QueueName) (id : ProcessId) (ids : List ProcessId) (acts : List BoardRequest)
    → waits id.slot (queue_after here id ids acts) ≡ waits_after here (waits id.slot ids) acts
own_after here id ids [] = refl
own_after here id ids (act ∷ acts) =
    own_after here id (after_act here id ids act) acts
    ∙ ap (λ (b : Bool). waits_after here b acts) (own_by_act here id ids act)

other_after : (here : QueueName) (id : ProcessId) (other : ℕ) (ids : List ProcessId) (acts : List BoardRequest)
    → other ≢ id.slot → waits other (queue_after here id ids acts) ≡ waits other ids
other_after here id other ids [] apart = refl
other_after here id other ids (act ∷ acts) apart =
    other_after here id other (after_act here id ids act) acts apart ∙ other_by_act here id other ids act apart

-- each of those that wait is one that did, or the process itself
all_more : (P : ProcessId → Type 0) (ids : List ProcessId) (id : ProcessId) → P id → AllByRecursion P ids
    → AllByRecursion P (ids ++ id ∷ [])
all_more P [] id p all = (p, tt)
all_more P (x ∷ ids) id p all = (all.0, all_more P ids id p all.1)

all_less : (P : ProcessId → Type 0) (slot : ℕ) (ids : List ProcessId) → AllByRecursion P ids
    → AllByRecursion P (without slot ids)
all_less P slot [] all = tt
all_less P slot (x ∷ ids) all =
    cond_both (not (x.slot == slot)) (x ∷ without slot ids) (without slot ids) (AllByRecursion P)
    (λ is. (all.0, all_less P slot ids all.1)) (λ not. all_less P slot ids all.1)

all_by_act : (P : ProcessId → Type 0) (here : QueueName) (id : ProcessId) (ids : List ProcessId) (act : BoardRequest)
    → P id → AllByRecursion P ids → AllByRecursion P (after_act here id ids act)
all_by_act P here id ids (Waits line) p all =
    cond_both (is_same line here) (ids ++ id ∷ []) ids (AllByRecursion P) (λ is. all_more P ids id p all) (λ not. all)
all_by_act P here id ids (Leaves line) p all =
    cond_both (is_same line here) (without id.slot ids) ids (AllByRecursion P) (λ is. all_less P id.slot ids all)
    (λ not. all)
all_by_act P here id ids (Lights led switch) p all = all

all_after : (P : ProcessId → Type 0) (here : QueueName) (id : ProcessId) (ids : List ProcessId)
    (acts : List BoardRequest) → P id → AllByRecursion P ids → AllByRecursion P (queue_after here id ids acts)
all_after P here id ids [] p all = all
all_after P here id ids (act ∷ acts) p all =
    all_after P here id (after_act here id ids act) acts p (all_by_act P here id ids act p all)

-- Who waits is there still, where what is the own of one slot's process changed: it keeps its life, or does not wait.
still_there : (owns : List Own) (slot : ℕ) (own o : Own) (ids : List ProcessId) → slice_get owns slot ≡ Some own
    → (waits slot ids ≡ true → o.life ≡ own.life) → AllByRecursion (IsThere owns) ids
    → AllByRecursion (IsThere (slice_set owns slot o)) ids
still_there owns slot own o [] was life all = tt
still_there owns slot own o (id ∷ ids) was life all = (
  by_slot (id.slot == slot) refl,
  still_there owns slot own o ids was (λ later.
      life (ap (λ (b : Bool). (id.slot == slot) || b) later ∙ or_true (id.slot == slot))) all.1,
)
  where
    within : slot < length owns
    within = slice_get_within owns slot own was

    long : length (slice_set owns slot o) ≡ length owns
    long = length-set owns slot o

    by_slot : (b : Bool) → (id.slot == slot) ≡ b → IsThere (slice_set owns slot o) id
    by_slot true e =
        let same : id.slot ≡ slot = eqb-true id.slot slot e in
        let kept : o.life ≡ own.life = life (ap (λ (b : Bool). b || waits slot ids) e) in
        let before : own.life ≡ id.life =
        ap (λ (x : Own). x.life) (sym (get_or_from_slice_get owns slot own nobody was))
        ∙ ap (λ (k : ℕ). (slice_index_or owns k nobody).life) (sym same) ∙ all.0.1 in (
          omega (arith, all.0.0, long),
          ap (λ (k : ℕ). (slice_index_or (slice_set owns slot o) k nobody).life) same
              ∙ ap (λ (x : Own). x.life) (get_or-set_same owns slot o nobody within) ∙ kept ∙ before,
        )
    by_slot false e =
        let apart : id.slot ≢ slot = λ is. false≢true (sym e ∙ ap (λ (k : ℕ). k == slot) is ∙ same_number slot) in (
          omega (arith, all.0.0, long),
          ap (λ (x : Own). x.life) (get_or-set_other owns slot id.slot o nobody apart)
              ∙ all.0.1,
        )

-- Those that wait are those with a request, after a change of one slot's process and what it asks.
pub line_after : (queue : QueueName) (ids : List ProcessId) (owns : List Own) (slot : ℕ)
    (own o : Own) (acts : List BoardRequest)
    → IsQueueOf queue ids owns → slice_get owns slot ≡ Some own
    → has_waiting queue o ≡ waits_after queue (has_waiting queue own) acts
    → (has_waiting queue o ≡ true → o.life ≡ own.life)
    → IsQueueOf queue (queue_after queue (record { slot = slot; life = own.life }) ids acts)
    (slice_set owns slot o)
line_after queue ids owns slot own o acts line was follows life = record {
  there = still_there owns slot own o ids' was (λ waiting. life (sym own_waits ∙ waiting))
      (all_after (IsThere owns) queue id ids acts is_there line.there);
  each = λ s h. by_slot (s == slot) refl h;
}
  where
    id : ProcessId
    id = record { slot = slot; life = own.life }

    ids' : List ProcessId
    ids' = queue_after queue id ids acts

    within : slot < length owns
    within = slice_get_within owns slot own was

    here : slice_index_or owns slot nobody ≡ own
    here = get_or_from_slice_get owns slot own nobody was

    is_there : IsThere owns id
    is_there = (within, ap (λ (x : Own). x.life) here)

    own_waits : waits slot ids' ≡ has_waiting queue o
    own_waits = own_after queue id ids acts
        ∙ ap (λ (b : Bool). waits_after queue b acts)
        (line.each slot within ∙ ap (has_waiting queue) here) ∙ sym follows

    by_slot : {s : ℕ} (b : Bool) → (s == slot) ≡ b → s < length (slice_set owns slot o)
        → waits s ids' ≡ has_waiting queue (slice_index_or (slice_set owns slot o) s nobody)
    by_slot {s = s} true e h =
        let same : s ≡ slot = eqb-true s slot e in
        subst (λ (k : ℕ). waits k ids' ≡ has_waiting queue (slice_index_or (slice_set owns slot o) k nobody))
        (sym same)
        (own_waits ∙ ap (has_waiting queue) (sym (get_or-set_same owns slot o nobody within)))
    by_slot {s = s} false e h =
        let apart : s ≢ slot = λ is. false≢true (sym e ∙ ap (λ (k : ℕ). k == slot) is ∙ same_number slot) in
        other_after queue id s ids acts apart ∙ line.each s (omega (arith, h, length-set owns slot o))
        ∙ ap (has_waiting queue) (sym (get_or-set_other owns slot s o nobody apart))
