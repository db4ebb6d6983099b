-- No more wait than there are slots, since of each slot at most one does.
use Rattle.std.proofs.Common.{◌≡◌, ℕ, zero, suc, ◌==◌, ◌||◌, ◌<◌, ◌≤◌, Bool, true, false, List, [], ◌∷◌, ◌++◌}
use Rattle.std.proofs.Common.{length, filter, refl, ap, ◌∙◌, arith, inl, inr}
use Rattle.std.specs.Cmp.{IsEquivalence}
use Rattle.std.specs.List.{AllByRecursion, IsDistinct, list_any}
use Rattle.std.proofs.lemmas.Bool.{cases_Bool, cond_both}
use Rattle.std.proofs.lemmas.Cmp.{nat_eq_equiv, on_equiv}
use Rattle.std.proofs.lemmas.Map.Keys.{IsDistinct-push}
use Rattle.std.proofs.lemmas.Map.Made.{length-le_from_is_member}
use Rattle.tk_base.specs.declared.limits.TheConstants.{SLOT_COUNT}
use Rattle.tk_base.specs.declared.process.ProcessId.{ProcessId}
use Rattle.driver_requests.specs.Waiting.{OnceEach, of_same_slot, waits, without}

same_slots : IsEquivalence of_same_slot
same_slots = on_equiv (λ (id : ProcessId). id.slot) nat_eq_equiv

-- an id of each slot below a number
of_each : ℕ → List ProcessId
of_each zero = []
of_each (suc n) = record { slot = n; life = 0 } ∷ of_each n

or_false : (b c : Bool) → (b || c) ≡ true → b ≡ false → c ≡ true
or_false true c e f = cc
or_false false c e f = e

is_below : (a b : ℕ) → a < suc b → (a == b) ≡ false → a < b
is_below a b h f = grind arith

-- a slot below a number is that of one of them
is_of_each : (id : ProcessId) (n : ℕ) → id.slot < n → list_any (of_same_slot id) (of_each n) ≡ true
unfolding of_each
is_of_each id zero h = absurd (omega arith)
is_of_each id (suc n) h =
    elim (cases_Bool (id.slot == n)) [
      | inl e ↦ rw (e) refl
      | inr e ↦ rw (e) (is_of_each id n (is_below id.slot n h e))
    ]

equal_below : (a b : ℕ) → (a == b) ≡ true → b < SLOT_COUNT → a < SLOT_COUNT
equal_below a b e h = grind arith

-- where one of a slot waits the slot is one that there is
is_slot : (id : ProcessId) (ids : List ProcessId) → AllByRecursion (λ other. other.slot < SLOT_COUNT) ids
    → list_any (of_same_slot id) ids ≡ true → id.slot < SLOT_COUNT
is_slot id [] all e = absurd cc
is_slot id (other ∷ ids) all e =
    elim (cases_Bool (id.slot == other.slot)) [
      | inl f ↦ equal_below id.slot other.slot f all.0
      | inr f ↦ is_slot id ids all.1 (or_false _ _ e f)
    ]

pub at_most_one_each : (ids : List ProcessId) → OnceEach ids → length ids ≤ SLOT_COUNT
unfolding of_each
at_most_one_each ids once =
    length-le_from_is_member same_slots ids (of_each SLOT_COUNT) once.apart
    (λ id e. is_of_each id SLOT_COUNT (is_slot id ids once.slots e))

all_push : {X : Type 0} (P : X → Type 0) (xs : List X) (y : X) → AllByRecursion P xs → P y
    → AllByRecursion P (xs ++ y ∷ [])
all_push P [] y all p = (p, tt)
all_push P (x ∷ xs) y all p = (all.0, all_push P xs y all.1 p)

all_filter : {X : Type 0} (P : X → Type 0) (test : X → Bool) (xs : List X) → AllByRecursion P xs
    → AllByRecursion P (filter test xs)
all_filter P test [] all = tt
all_filter P test (x ∷ xs) all =
    let rest = all_filter P test xs all.1 in
    cond_both (test x) _ _ (AllByRecursion P) (λ e. (all.0, rest)) (λ e. rest)

distinct_filter : {X : Type 0} (equal : X → X → Bool) (test : X → Bool) (xs : List X) → IsDistinct equal xs
    → IsDistinct equal (filter test xs)
unfolding IsDistinct
distinct_filter equal test [] apart = tt
distinct_filter equal test (x ∷ xs) apart =
    let rest = distinct_filter equal test xs apart.1 in
    cond_both (test x) _ _ (IsDistinct equal) (λ e. (all_filter (λ y. equal x y ≡ false) test xs apart.0, rest))
    (λ e. rest)

flipped : (slot : ℕ) (ids : List ProcessId) → list_any (λ id. slot == id.slot) ids ≡ waits slot ids
flipped slot [] = refl
flipped slot (id ∷ ids) = λ i. (nat_eq_equiv.symm slot id.slot i || flipped slot ids i)

pub none_once : OnceEach []
unfolding IsDistinct
none_once = record { apart = tt; slots = tt }

-- one more, of a slot of which none waits
pub pushed_once : (ids : List ProcessId) (id : ProcessId) → OnceEach ids → id.slot < SLOT_COUNT
    → waits id.slot ids ≡ false → OnceEach (ids ++ id ∷ [])
pushed_once ids id once slot alone = record {
  apart = IsDistinct-push same_slots ids id once.apart (flipped id.slot ids ∙ alone);
  slots = all_push _ ids id once.slots slot;
}

one_more : (ids : List ProcessId) (id : ProcessId) → length (ids ++ id ∷ []) ≡ suc (length ids)
one_more [] id = refl
one_more (other ∷ ids) id = ap suc (one_more ids id)

-- for which there is room
pub has_room : (ids : List ProcessId) (id : ProcessId) → OnceEach ids → id.slot < SLOT_COUNT → waits id.slot ids ≡ false
    → length ids < SLOT_COUNT
has_room ids id once slot alone =
    let long = at_most_one_each _ (pushed_once ids id once slot alone) in
    let more = one_more ids id in
    omega arith

-- one less
pub removed_once : (slot : ℕ) (ids : List ProcessId) → OnceEach ids → OnceEach (without slot ids)
removed_once slot ids once = record {
  apart = distinct_filter of_same_slot _ ids once.apart;
  slots = all_filter _ _ ids once.slots;
}
