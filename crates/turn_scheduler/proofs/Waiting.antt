-- Why a ready slot has a turn within a slice for each slot: each turn of another brings it nearer. What it waits for is
-- a number (`waits`): the turns left of the present slice, and a slice for each slot before it in cyclic order. Each
-- turn of another slot lowers it, and it begins below the bound; so by induction on the turns its own comes.
use Rattle.std.proofs.Common.{◌≡◌, ◌≢◌, ℕ, zero, suc, ◌+◌, ◌-◌, ◌*◌, ◌<◌, ◌≤◌, ◌==◌, Bool, true, false, ◌&&◌, nat_lt}
use Rattle.std.proofs.Common.{cond, List, [], ◌∷◌, length, find, All, Any, Option, Some, None, refl, sym, ap, subst}
use Rattle.std.proofs.Common.{◌∙◌, ◌⊎◌, inl, inr, arith}
use Rattle.std.specs.List.{range_with_len}
use Rattle.std.specs.Option.{option_or, option_map}
use Rattle.std.proofs.lemmas.Bool.{true≢false, cases_lt, cases_order}
use Rattle.std.proofs.lemmas.Bool.Decides.{nat_tests}
use Rattle.std.proofs.Math.Nat.{mul-le-mul_right}
use Rattle.std.proofs.Math.ListN.{get_or-eq_default}
use Rattle.std.proofs.lemmas.List.Elements.{All-tail}
use Rattle.std.proofs.lemmas.List.Folds.{find-append}
use Rattle.tk_base.specs.declared.limits.TheConstants.{SLOT_COUNT}
use Rattle.tk_base.specs.declared.process.Choice.TheVariants.{Run, Device, Pass}
use Rattle.tk_base.specs.declared.process.Dev.{Dev}
use Rattle.turn_scheduler.specs.Situation.{Situation}
use Rattle.turn_scheduler.specs.RoundRobin.{slots_after, next_slot, ready_device, choice}
use Rattle.turn_scheduler.specs.Parts.{place_is_ready}
use Rattle.turn_scheduler.specs.Parts.{goes_on}
use Rattle.turn_scheduler.specs.RoundRobin.{used_after}
use Rattle.turn_scheduler.specs.Turns.{GivesTurn, AreTurns, IsWindow, ReadyHasTurn}
use Rattle.std.proofs.lemmas.Bool.{cond_both, cases_eq, cases_Bool, and_parts, ltb-true}
use Rattle.std.proofs.lemmas.Option.{same_Some, none-some}

-- the first number of a range that passes a test
record IsFirst (p : ℕ → Bool) (from to first : ℕ) : Type 0 where
  above : from ≤ first
  below : first < to
  passes : p first ≡ true
  others : (k : ℕ) → from ≤ k → k < first → p k ≡ false

find_range-some : (p : ℕ → Bool) (from n first : ℕ) → find p (range_with_len from n) ≡ Some first
    → IsFirst p from (from + n) first
find_range-some p from zero first h = absurd (cc)
find_range-some p from (suc n) first h =
    elim (cases_Bool (p from)) [
      | inl e ↦
          let is : from ≡ first = same_Some from first (rw e at h) in
          record {
            above = omega (arith, is);
            below = omega (arith, is);
            passes = rw (← is) e;
            others = λ k le lt. absurd (omega (arith, is, le, lt));
          }
      | inr e ↦
          let l = find_range-some p (from + 1) n first (rw e at h) in
          let above = l.above in
          let below = l.below in
          record {
            above = omega (arith, above);
            below = omega (arith, below);
            passes = l.passes;
            others = λ k le lt. elim (cases_eq from k) [
              | inl same ↦ rw (← same) e
              | inr apart ↦ l.others k (omega (arith, le, apart)) lt
            ];
          }
    ]

pub find_range-none : (p : ℕ → Bool) (from n : ℕ) → find p (range_with_len from n) ≡ None → (k : ℕ) → from ≤ k
    → k < from + n → p k ≡ false
find_range-none p from zero h k le lt = absurd (omega arith)
find_range-none p from (suc n) h k le lt =
    elim (cases_Bool (p from)) [
      | inl e ↦ absurd (none-some from (sym (rw e at h)))
      | inr e ↦ elim (cases_eq from k) [
        | inl same ↦ rw (← same) e
        | inr apart ↦ find_range-none p (from + 1) n (rw e at h) k (omega (arith, le, apart)) (omega (arith, lt))
      ]
    ]

-- a slot that passes is not below the first
first_at_most : (p : ℕ → Bool) (from to first slot : ℕ) → IsFirst p from to first → p slot ≡ true → from ≤ slot
    → first ≤ slot
first_at_most p from to first slot f e le =
    elim (cases_lt slot first) [ inl less ↦ absurd (true≢false (sym e ∙ f.others slot le less)) | inr more ↦ more ]

-- how many slots come before a slot in cyclic order
abbrev before : Option ℕ → ℕ → ℕ
before None slot = slot
before (Some present) slot = cond (nat_lt present slot) (slot - (present + 1)) (slot + (SLOT_COUNT - (present + 1)))

-- another slot that has the turn in cyclic order comes before fewer
nearer-none : (p : ℕ → Bool) (slot q : ℕ) → find p (slots_after None) ≡ Some q → p slot ≡ true → q ≢ slot
    → before (Some q) slot + 1 ≤ slot
nearer-none p slot q h e ne =
    let f = find_range-some p 0 SLOT_COUNT q h in
    let le = first_at_most p 0 (0 + SLOT_COUNT) q slot f e (omega arith) in
    grind (arith, nat_tests)

nearer-after : (p : ℕ → Bool) (present slot q : ℕ)
    → IsFirst p (present + 1) (present + 1 + (SLOT_COUNT - (present + 1))) q → p slot ≡ true → slot < SLOT_COUNT
    → q ≢ slot → before (Some q) slot + 1 ≤ before (Some present) slot
nearer-after p present slot q f e lt ne = by (cases_lt present slot) where
  by : (present < slot) ⊎ (slot ≤ present) → before (Some q) slot + 1 ≤ before (Some present) slot
  by (inl less) =
      let le = first_at_most p (present + 1) (present + 1 + (SLOT_COUNT - (present + 1))) q slot f e (omega arith) in
      let above = f.above in let below = f.below in grind (arith, nat_tests)
  by (inr more) = let above = f.above in let below = f.below in grind (arith, nat_tests)

nearer-up_to : (p : ℕ → Bool) (present slot q : ℕ)
    → find p (range_with_len (present + 1) (SLOT_COUNT - (present + 1))) ≡ None → IsFirst p 0 (0 + (present + 1)) q
    → p slot ≡ true → slot < SLOT_COUNT → q ≢ slot → before (Some q) slot + 1 ≤ before (Some present) slot
nearer-up_to p present slot q none f e lt ne = by (cases_lt present slot) where
  by : (present < slot) ⊎ (slot ≤ present) → before (Some q) slot + 1 ≤ before (Some present) slot
  by (inl less) =
      absurd (true≢false (sym e
      ∙ find_range-none p (present + 1) (SLOT_COUNT - (present + 1)) none slot (omega arith) (omega arith)))
  by (inr more) =
      let le = first_at_most p 0 (0 + (present + 1)) q slot f e (omega arith) in
      let below = f.below in grind (arith, nat_tests)

nearer-some : (p : ℕ → Bool) (present slot q : ℕ) (after : Option ℕ)
    → find p (range_with_len (present + 1) (SLOT_COUNT - (present + 1))) ≡ after
    → option_or after (find p (range_with_len 0 (present + 1))) ≡ Some q → p slot ≡ true → slot < SLOT_COUNT → q ≢ slot
    → before (Some q) slot + 1 ≤ before (Some present) slot
nearer-some p present slot q None none h e lt ne =
    nearer-up_to p present slot q none (find_range-some p 0 (present + 1) q h) e lt ne
nearer-some p present slot q (Some x) found h e lt ne =
    nearer-after p present slot q (find_range-some p (present + 1) (SLOT_COUNT - (present + 1)) q (found ∙ h)) e lt ne

nearer : (p : ℕ → Bool) (present : Option ℕ) (slot q : ℕ) → find p (slots_after present) ≡ Some q → p slot ≡ true
    → slot < SLOT_COUNT → q ≢ slot → before (Some q) slot + 1 ≤ before present slot
nearer p None slot q h e lt ne = nearer-none p slot q h e ne
nearer p (Some present) slot q h e lt ne =
    nearer-some p present slot q _ refl (sym
    (find-append p (range_with_len (present + 1) (SLOT_COUNT - (present + 1))) (range_with_len 0 (present + 1)))
    ∙ h) e lt ne

-- the turns that the present slot may still have before the next one
abbrev left : List Bool → Option ℕ → ℕ → ℕ → ℕ
left ready present used slice = cond (goes_on ready present used slice) (slice - used) 0

-- how many turns of others come before a slot's at most
abbrev waits : List Bool → Option ℕ → ℕ → ℕ → ℕ → ℕ
waits ready present used slice slot = left ready present used slice + before present slot * slice

left-most : (ready : List Bool) (present : Option ℕ) (used slice : ℕ) → left ready present used slice ≤ slice - used
left-most ready present used slice =
    cond_both (goes_on ready present used slice) _ 0 (λ n. n ≤ slice - used) (λ e. omega arith) (λ e. omega arith)

-- what comes before fewer slots, comes a slice earlier
slices : (less more slice : ℕ) → less + 1 ≤ more → less * slice + slice ≤ more * slice
slices less more slice h = omega (arith, mul-le-mul_right {m = less + 1} {n = more} slice h)

-- after the turn of a slot whose slice lasts, there is one turn less to wait for
fewer-on : (ready' : List Bool) (present : Option ℕ) (used slice slot q : ℕ) → present ≡ Some q → used < slice
    → waits ready' (Some q) (used_after present used slice q) slice slot + 1
    ≤ (slice - used) + before present slot * slice
fewer-on ready' None used slice slot q e lt = absurd (cc)
fewer-on ready' (Some present) used slice slot q e lt =
    let is : present ≡ q = cc in
    let more : used_after (Some present) used slice q ≡ used + 1 = grind (arith, nat_tests) in
    let same : before (Some present) slot * slice ≡ before (Some q) slot * slice =
    ap (λ (k : ℕ). before (Some k) slot * slice) is in
    let most = left-most ready' (Some q) (used_after (Some present) used slice q) slice in
    omega (arith, more, same, most)

-- so is there after the turn of a slot that begins a slice
fewer-off : (ready' : List Bool) (present : Option ℕ) (used slice slot q : ℕ)
    → before (Some q) slot + 1 ≤ before present slot → 1 ≤ slice → 1 ≤ used_after present used slice q
    → waits ready' (Some q) (used_after present used slice q) slice slot + 1 ≤ 0 + before present slot * slice
fewer-off ready' present used slice slot q h one some =
    let most = left-most ready' (Some q) (used_after present used slice q) slice in
    let earlier = slices (before (Some q) slot) (before present slot) slice h in
    omega (arith, most, earlier)

used_after-some : (present : Option ℕ) (used slice q : ℕ) → 1 ≤ used_after present used slice q
used_after-some None used slice q = omega arith
used_after-some (Some present) used slice q = by ((present == q) && nat_lt used slice) where
  by : (b : Bool) → 1 ≤ cond b (used + 1) 1
  by true = omega arith
  by false = omega arith

in_slice : (ready : List Bool) (present : Option ℕ) (used slice : ℕ) → goes_on ready present used slice ≡ true
    → used < slice
in_slice ready None used slice e = absurd (cc)
in_slice ready (Some present) used slice e =
    ltb-true used slice (and_parts (place_is_ready ready present) (nat_lt used slice) e).1

-- after the turn of another slot, there is at least one turn less to wait for
fewer : (ready ready' : List Bool) (present : Option ℕ) (used slice slot q : ℕ)
    → next_slot ready present used slice ≡ Some q → place_is_ready ready slot ≡ true → slot < SLOT_COUNT → q ≢ slot
    → 1 ≤ slice → waits ready' (Some q) (used_after present used slice q) slice slot + 1
    ≤ waits ready present used slice slot
unfolding next_slot
fewer ready ready' present used slice slot q h e lt ne one =
    elim (cases_Bool (goes_on ready present used slice)) [
      | inl on ↦ rw on (fewer-on ready' present used slice slot q (rw on at h) (in_slice ready present used slice on))
      | inr off ↦
          rw off (fewer-off ready' present used slice slot q
          (nearer (place_is_ready ready) present slot q (rw off at h) e lt ne) one
          (used_after-some present used slice q))
    ]

-- a ready slot is a slot
is_slot : (ready : List Bool) (slot : ℕ) → length ready ≤ SLOT_COUNT → place_is_ready ready slot ≡ true
    → slot < SLOT_COUNT
is_slot ready slot few e =
    elim (cases_lt slot (length ready)) [
      | inl less ↦ omega (arith, less, few)
      | inr more ↦ absurd (true≢false (sym e ∙ get_or-eq_default ready false more))
    ]

before-most : (present : Option ℕ) (slot : ℕ) → slot < SLOT_COUNT → before present slot ≤ SLOT_COUNT - 1
before-most None slot lt = omega arith
before-most (Some present) slot lt = grind (arith, nat_tests)

before-other : (present slot : ℕ) → slot < SLOT_COUNT → present < SLOT_COUNT → present ≢ slot
    → before (Some present) slot ≤ SLOT_COUNT - 2
before-other present slot lt lt' ne = by (cases_order present slot) where
  by : (present ≡ slot) ⊎ ((present < slot) ⊎ (slot < present)) → before (Some present) slot ≤ SLOT_COUNT - 2
  by (inl same) = absurd (ne same)
  by (inr (inl less)) = grind (arith, nat_tests)
  by (inr (inr more)) = grind (arith, nat_tests)

first-on : (ready : List Bool) (present : Option ℕ) (used slice slot q : ℕ) → goes_on ready present used slice ≡ true
    → present ≡ Some q → length ready ≤ SLOT_COUNT → slot < SLOT_COUNT → q ≢ slot → 1 ≤ slice
    → (slice - used) + before present slot * slice + 1 ≤ SLOT_COUNT * slice
first-on ready None used slice slot q on e few lt ne one = absurd (cc)
first-on ready (Some present) used slice slot q on e few lt ne one =
    let is : present ≡ q = cc in
    let ready_too = (and_parts (place_is_ready ready present) (nat_lt used slice) on).0 in
    let most = before-other present slot lt (is_slot ready present few ready_too) (λ same. ne (sym is ∙ same)) in
    let bound = mul-le-mul_right {m = before (Some present) slot} {n = SLOT_COUNT - 2} slice most in
    omega (arith, bound)

-- before the first turn of another slot fewer turns than a slice for each slot are left to wait for
first : (ready : List Bool) (present : Option ℕ) (used slice slot q : ℕ) → next_slot ready present used slice ≡ Some q
    → place_is_ready ready slot ≡ true → length ready ≤ SLOT_COUNT → q ≢ slot → 1 ≤ slice
    → waits ready present used slice slot + 1 ≤ SLOT_COUNT * slice
unfolding next_slot
first ready present used slice slot q h e few ne one =
    let slots = is_slot ready slot few e in
    elim (cases_Bool (goes_on ready present used slice)) [
      | inl on ↦ rw on (first-on ready present used slice slot q on (rw on at h) few slots ne one)
      | inr off ↦
          let bound = mul-le-mul_right {m = before present slot} {n = SLOT_COUNT - 1} slice
          (before-most present slot slots) in
          rw off (omega (arith, bound))
    ]

-- whose turn it is
turn_is : (device : Option Dev) (slot pass : Option ℕ) (time q : ℕ)
    → option_or (option_map Device device) (option_or (option_map Run slot) (option_map (λ at. Pass (at - time)) pass))
    ≡ Some (Run q) → slot ≡ Some q
turn_is (Some device) slot pass time q h = absurd (cc)
turn_is None (Some slot) pass time q h = cc
turn_is None None (Some at) time q h = absurd (cc)
turn_is None None None time q h = absurd (cc)

gives : (s : Situation) (q : ℕ) → GivesTurn s q → next_slot s.ready s.present s.used s.slice ≡ Some q
unfolding choice
gives s q h = turn_is (ready_device s.devices) (next_slot s.ready s.present s.used s.slice) s.next s.time q h

abbrev waits_in : Situation → ℕ → ℕ
waits_in s slot = waits s.ready s.present s.used s.slice slot

fewer_next : (s t : Situation) (slot q : ℕ) → GivesTurn s q → t.present ≡ Some q
    → t.used ≡ used_after s.present s.used s.slice q → t.slice ≡ s.slice → place_is_ready s.ready slot ≡ true
    → length s.ready ≤ SLOT_COUNT → q ≢ slot → 1 ≤ s.slice → waits_in t slot + 1 ≤ waits_in s slot
fewer_next s t slot q g present used slice e few ne one =
    let same : waits_in t slot ≡ waits t.ready (Some q) (used_after s.present s.used s.slice q) s.slice slot = cc in
    let less = fewer s.ready t.ready s.present s.used s.slice slot q (gives s q g) e (is_slot s.ready slot few e) ne
    one in
    omega (arith, same, less)

-- a turn of the slot, the first or a later one
here : (s : Situation) (rest : List Situation) (slot q : ℕ) → GivesTurn s q → q ≡ slot
    → Any (λ s. GivesTurn s slot) (s ∷ rest)
here s rest slot q g e = let P : ℕ → Type 0 = GivesTurn s in (0, s, omega arith, refl, subst P e g)

later : (s : Situation) (rest : List Situation) (slot : ℕ) → Any (λ s. GivesTurn s slot) rest
    → Any (λ s. GivesTurn s slot) (s ∷ rest)
later s rest slot a = (suc a.0, a.1, omega (arith, a.2), a.3, a.4)

-- what is known of turns in which a slot is ready throughout
record AreReady (turns : List Situation) (slot each : ℕ) : Type 0 where
  ready : All (λ s. place_is_ready s.ready slot ≡ true) turns
  slots : All (λ s. length s.ready ≤ SLOT_COUNT) turns
  slice : All (λ s. s.slice ≡ each) turns

AreReady-tail : (s : Situation) (rest : List Situation) (slot each : ℕ) → AreReady (s ∷ rest) slot each
    → AreReady rest slot each
AreReady-tail s rest slot each a = record {
  ready = All-tail (λ s. place_is_ready s.ready slot ≡ true) s rest a.ready;
  slots = All-tail (λ s. length s.ready ≤ SLOT_COUNT) s rest a.slots;
  slice = All-tail (λ s. s.slice ≡ each) s rest a.slice;
}

-- no more than so many turns of others come before the slot's
abbrev WaitsAtMost : ℕ → ℕ → List Situation → Type 0
WaitsAtMost slot most [] = Unit {0}
WaitsAtMost slot most (s ∷ rest) = (q : ℕ) → GivesTurn s q → q ≢ slot → waits_in s slot ≤ most

turn_within : (slot each most : ℕ) (turns : List Situation) → 1 ≤ each → AreTurns turns → AreReady turns slot each
    → WaitsAtMost slot most turns → most < length turns → Any (λ s. GivesTurn s slot) turns
turn_within slot each most [] one turns a wait lt = absurd (omega arith)
turn_within slot each most (s ∷ []) one turns a wait lt =
    elim (cases_eq turns.0 slot) [
      | inl same ↦ here s [] slot turns.0 turns.1 same
      | inr other ↦
          let t : Situation = record s { present = Some turns.0; used = used_after s.present s.used s.slice turns.0 } in
          let less = fewer_next s t slot turns.0 turns.1 refl refl refl (a.ready 0 s (omega arith))
          (a.slots 0 s (omega arith)) other (omega (arith, a.slice 0 s (omega arith))) in
          absurd (omega (arith, less, wait turns.0 turns.1 other))
    ]
turn_within slot each most (s ∷ t ∷ rest) one turns a wait lt =
    elim (cases_eq turns.0.0 slot) [
      | inl same ↦ here s (t ∷ rest) slot turns.0.0 turns.0.1 same
      | inr other ↦
          let less = fewer_next s t slot turns.0.0 turns.0.1 turns.0.2 turns.0.3 turns.0.4 (a.ready 0 s (omega arith))
          (a.slots 0 s (omega arith)) other (omega (arith, a.slice 0 s (omega arith))) in
          let most_now = wait turns.0.0 turns.0.1 other in
          later s (t ∷ rest) slot (turn_within slot each (most - 1) (t ∷ rest) one turns.1
          (AreReady-tail s (t ∷ rest) slot each a) (λ q g ne. omega (arith, less, most_now))
          (omega (arith, less, most_now, lt)))
    ]

first_waits : (turns : List Situation) (slot each : ℕ) → IsWindow turns slot each
    → WaitsAtMost slot (SLOT_COUNT * each - 1) turns
first_waits [] slot each w = tt
first_waits (s ∷ rest) slot each w = λ q g ne.
    let is : s.slice ≡ each = w.slice 0 s (omega arith) in
    let most = first s.ready s.present s.used s.slice slot q (gives s q g) (w.ready 0 s (omega arith))
    (w.slots 0 s (omega arith)) ne (omega (arith, w.one)) in
    omega (arith, most, is)

pub ready_has_turn : ReadyHasTurn
ready_has_turn turns slot each w =
    turn_within slot each (SLOT_COUNT * each - 1) turns w.one w.in_turn
    (record { ready = w.ready; slots = w.slots; slice = w.slice }) (first_waits turns slot each w)
    (omega (arith, w.one, w.long))
