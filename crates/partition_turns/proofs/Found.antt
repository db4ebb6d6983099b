-- What is first, and what is not there where nothing is first.
use Rattle.std.proofs.Common.{◌≡◌, ℕ, zero, suc, ◌+◌, ◌-◌, ◌<◌, Bool, true, false, cond, List, [], ◌∷◌, find}
use Rattle.std.proofs.Common.{None, Some, is_some, refl, sym, ap, ◌∙◌, arith}
use Rattle.std.specs.List.{range_with_len}
use Rattle.tk_base.specs.declared.process.Dev.{Dev}
use Rattle.tk_base.specs.declared.process.Dev.TheVariants.{Event, Alarm, Uart, Receive, Random, Store}
use Rattle.partition_turns.specs.LanesView.{LanesView}
use Rattle.partition_turns.specs.Windows.{device_is_ready, device_order, device_in_window}
use Rattle.std.proofs.lemmas.Bool.{cases_Bool, true≢false}
use Rattle.std.proofs.lemmas.Option.{same_Some}
use Rattle.std.proofs.Common.{inl, inr}
use Rattle.std.proofs.Common.{Option}

-- what is found passes
pub find-passes : {X : Type 0} (p : X → Bool) (xs : List X) (x : X) → find p xs ≡ Some x → p x ≡ true
find-passes p [] x h = absurd (cc)
find-passes p (y ∷ ys) x h =
    elim (cases_Bool (p y)) [
      | inl e ↦ rw (← same_Some y x (rw e at h)) e
      | inr e ↦ find-passes p ys x (rw e at h)
    ]

-- one that does not pass is passed over
pub passes_first : (p : ℕ → Bool) (from n m : ℕ) → n ≡ suc m → p from ≡ false
    → find p (range_with_len from n) ≡ find p (range_with_len (from + 1) m)
passes_first p from n m e f = rw (e, f) refl

pub find-pass : (p : ℕ → Bool) (slot to : ℕ) → slot < to → p slot ≡ false
    → find p (range_with_len (slot + 1) (to - (slot + 1))) ≡ find p (range_with_len slot (to - slot))
find-pass p slot to h f = sym (passes_first p slot (to - slot) (to - (slot + 1)) (omega arith) f)

-- where none of a range is found, none passes, and the other way round
pub find_range-none : (p : ℕ → Bool) (from n : ℕ) → is_some (find p (range_with_len from n)) ≡ false → (i : ℕ) → i < n
    → p (from + i) ≡ false
find_range-none p from zero none i below = absurd (omega (arith, below))
find_range-none p from (suc n) none i below =
    elim (cases_Bool (p from)) [
      | inl e ↦ absurd (true≢false (rw e at none))
      | inr e ↦ by_place i below e (find_range-none p (from + 1) n (rw e at none))
    ]
  where
    by_place : (i : ℕ) → i < suc n → p from ≡ false → ((k : ℕ) → k < n → p (from + 1 + k) ≡ false)
        → p (from + i) ≡ false
    by_place zero below is rest = let same : from + 0 ≡ from = omega arith in rw same is
    by_place (suc k) below is rest =
        let same : from + suc k ≡ from + 1 + k = omega arith in rw same (rest k (omega (arith, below)))

pub none-find_range : (p : ℕ → Bool) (from n : ℕ) → ((i : ℕ) → i < n → p (from + i) ≡ false)
    → is_some (find p (range_with_len from n)) ≡ false
none-find_range p from zero none = refl
none-find_range p from (suc n) none =
    let same : from + 0 ≡ from = omega arith in
    let first : p from ≡ false = sym (ap p same) ∙ none 0 (omega arith) in
    let rest : (i : ℕ) → i < n → p (from + 1 + i) ≡ false =
    λ i below. (let moved : from + 1 + i ≡ from + suc i = omega arith in
    ap p moved ∙ none (suc i) (omega (arith, below))) in
    rw first (none-find_range p (from + 1) n rest)

-- the first device step that is ready is; where none is first, none is ready
pub device_ready : (l : LanesView) (slot : ℕ) (device : Dev) → device_in_window l slot ≡ Some device
    → device_is_ready l slot device ≡ true
unfolding device_in_window
device_ready l slot device h = find-passes (device_is_ready l slot) device_order device h

pub devices_none : (l : LanesView) (slot : ℕ) → device_in_window l slot ≡ None → (device : Dev)
    → device_is_ready l slot device ≡ false
unfolding device_in_window
devices_none l slot h device =
    let event = passed (device_is_ready l slot Event) _ _ h in
    let alarm = passed (device_is_ready l slot Alarm) _ _ event.1 in
    let uart = passed (device_is_ready l slot Uart) _ _ alarm.1 in
    let receive = passed (device_is_ready l slot Receive) _ _ uart.1 in
    let random = passed (device_is_ready l slot Random) _ _ receive.1 in
    let store = passed (device_is_ready l slot Store) _ _ random.1 in
    elim device as (λ d. device_is_ready l slot d ≡ false) [
      | Event ↦ event.0
      | Alarm ↦ alarm.0
      | Uart ↦ uart.0
      | Receive ↦ receive.0
      | Random ↦ random.0
      | Store ↦ store.0
    ]
  where
    passed : (b : Bool) (device : Dev) (rest : Option Dev) → cond b (Some device) rest ≡ None
        → (b ≡ false) × (rest ≡ None)
    passed true device rest e = absurd (cc)
    passed false device rest e = (refl, e)

pub none-devices : (l : LanesView) (slot : ℕ) → ((device : Dev) → device_is_ready l slot device ≡ false)
    → device_in_window l slot ≡ None
unfolding device_in_window
none-devices l slot h =
    let event = h Event in let alarm = h Alarm in let uart = h Uart in
    let receive = h Receive in let random = h Random in let store = h Store in
    rw (event, alarm, uart, receive, random, store) refl
