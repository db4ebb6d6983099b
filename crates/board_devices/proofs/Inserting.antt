-- The place at which an event is put among others.
use Rattle.std.proofs.Common.{◌≡◌, ℕ, zero, suc, ◌+◌, ◌≤◌, nat_le, nat_lt, not, Bool, true, false, cond, List, [], ◌∷◌}
use Rattle.std.proofs.Common.{Option, None, Some, drop, length, ap, refl, sym, ◌∙◌, arith}
use Rattle.std.specs.Prelude.{is_some, unwrap_or}
use Rattle.std.specs.List.{insert, position, position_or_len}
use Rattle.std.proofs.lemmas.Bool.{false≢true}
use Rattle.std.proofs.lemmas.Bool.Decides.{nat_tests}
use Rattle.std.proofs.lemmas.List.Recursion.{is_position_or_len}
use Rattle.std.proofs.lemmas.List.Sums.{prefix_len-le-length}
use Rattle.script_text.specs.Settings.{ScriptEvent}
use Rattle.board_devices.specs.Arriving.{inserted, is_later}

-- where the first place is found, and where none is
at_found : (b : Bool) (n i : ℕ) → Some i ≡ cond b (Some n) None → i ≡ n
at_found true n i h = ap (λ (o : Option ℕ). unwrap_or o 0) h
at_found false n i h = absurd (false≢true (sym (ap (λ (o : Option ℕ). is_some o) h)))

at_end : (b : Bool) (n m : ℕ) → nat_lt n m ≡ b → n ≤ m → None ≡ cond b (Some n) None → m ≡ n
at_end true n m t l h = absurd (false≢true (ap (λ (o : Option ℕ). is_some o) h))
at_end false n m t l h = grind (arith, nat_tests)

pub is_found : {X : Type 0} (p : X → Bool) (xs : List X) (i : ℕ) → Some i ≡ position p xs → i ≡ position_or_len p xs
is_found p xs i h = at_found (nat_lt (position_or_len p xs) (length xs)) (position_or_len p xs) i h

pub is_end : {X : Type 0} (p : X → Bool) (xs : List X) → None ≡ position p xs → length xs ≡ position_or_len p xs
is_end p xs h =
    at_end (nat_lt (position_or_len p xs) (length xs)) (position_or_len p xs) (length xs) refl
    (prefix_len-le-length (λ x. not (p x)) xs) h

-- the place by the recursion of what is put in
abbrev place_of : ℕ → List ScriptEvent → ℕ
place_of time [] = 0
place_of time (x ∷ xs) = cond (nat_le x.time time) (suc (place_of time xs)) 0

is_reckoned : (time : ℕ) (xs : List ScriptEvent) → place_of time xs ≡ position_or_len (is_later time) xs
is_reckoned time xs = is_position_or_len (place_of time) (is_later time) refl step xs
  where
    flipped : (n m : ℕ) → nat_le n m ≡ not (nat_lt m n)
    flipped n m = grind (arith, nat_tests)

    by_test : (b : Bool) (k : ℕ) → cond (not b) (suc k) 0 ≡ cond b 0 (1 + k)
    by_test true k = refl
    by_test false k = omega arith

    step : (x : ScriptEvent) (xs : List ScriptEvent)
        → place_of time (x ∷ xs) ≡ cond (is_later time x) 0 (1 + place_of time xs)
    step x xs =
        ap (λ (b : Bool). cond b (suc (place_of time xs)) 0) (flipped x.time time)
        ∙ by_test (nat_lt time x.time) (place_of time xs)

stands : (e : ScriptEvent) (xs : List ScriptEvent) → insert xs (place_of e.time xs) e ≡ inserted e xs
stands e [] = refl
stands e (x ∷ xs) = by_test (nat_le x.time e.time) (stands e xs)
  where
    by_test : (b : Bool) → insert xs (place_of e.time xs) e ≡ inserted e xs
        → insert (x ∷ xs) (cond b (suc (place_of e.time xs)) 0) e ≡ cond b (x ∷ inserted e xs) (e ∷ x ∷ xs)
    by_test true h = ap (λ (zs : List ScriptEvent). x ∷ zs) h
    by_test false h = refl

-- put in behind some, it is put among the rest
behind : {X : Type 0} (k p n : ℕ) (xs : List X) (x : X) → n ≡ k + p → k ≤ length xs
    → drop k (insert xs n x) ≡ insert (drop k xs) p x
behind zero p n xs x h l = ap (λ (m : ℕ). insert xs m x) (omega (arith, h))
behind (suc k) p n [] x h l = absurd (omega (arith, l))
behind (suc k) p zero (y ∷ ys) x h l = absurd (omega (arith, h))
behind (suc k) p (suc n) (y ∷ ys) x h l = behind k p n ys x (omega (arith, h)) (omega (arith, l))

pub put_among : (e : ScriptEvent) (events : List ScriptEvent) (come place : ℕ) → come ≤ length events
    → place ≡ position_or_len (is_later e.time) (drop come events)
    → drop come (insert events (come + place) e) ≡ inserted e (drop come events)
put_among e events come place l h =
    behind come place (come + place) events e refl l
    ∙ ap (λ (n : ℕ). insert (drop come events) n e) (h ∙ sym (is_reckoned e.time (drop come events)))
    ∙ stands e (drop come events)
