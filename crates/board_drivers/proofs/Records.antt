-- The records of a board: each process, with what is its own, beside the storage of its slot.
use Rattle.std.proofs.Common.{◌≡◌, ℕ, zero, suc, ◌≤◌, List, [], ◌∷◌, length, map, slice_get, slice_set, slice_index_or}
use Rattle.std.proofs.Common.{refl, sym, ap, ◌∙◌, arith, Some, ◌<◌, All, subst}
use Rattle.std.specs.List.{zip}
use Rattle.std.specs.Option.{option_map}
use Rattle.std.proofs.Common.{inl, inr}
use Rattle.std.proofs.lemmas.Bool.{cases_lt}
use Rattle.std.proofs.lemmas.List.{set-get_or}
use Rattle.kernel_model.specs.Record.{Record}
use Rattle.kernel_calls.specs.Residents.{Resident, record_of, HasLost, IsResident}
use Rattle.kernel_calls.proofs.Pairs.{zip-set, zip-get, length-firsts}
use Rattle.std.proofs.lemmas.Option.{slice_get-map, slice_get_within, get_or_from_slice_get}
use Rattle.tk_base.specs.declared.limits.TheConstants.{SLOT_COUNT}
use Rattle.process_model.specs.Own.{Own}
use Rattle.process_record.specs.declared.process.Process.{Process}
use Rattle.grant_enter.specs.Homes.{Homes, nobody, own_of}

-- that of a slot
pub beside_get : (rs : List Resident) (slots : List (List ℕ)) (i : ℕ) → length rs ≤ length slots
    → slice_get (zip rs slots) i ≡ option_map (λ (r : Resident). (r, slice_index_or slots i [])) (slice_get rs i)
beside_get [] slots i h = refl
beside_get (r ∷ rs) [] i h = absurd (omega arith)
beside_get (r ∷ rs) (s ∷ slots) zero h = refl
beside_get (r ∷ rs) (s ∷ slots) (suc i) h = beside_get rs slots i (omega (arith, h))

-- and after a change of its process
pub beside_set : (rs : List Resident) (slots : List (List ℕ)) (i : ℕ) (r : Resident)
    → zip (slice_set rs i r) slots ≡ slice_set (zip rs slots) i (r, slice_index_or slots i [])
beside_set rs slots i r =
    ap (zip (slice_set rs i r)) (sym (set-get_or slots i [])) ∙ zip-set rs slots i r (slice_index_or slots i [])

-- what is read of each record that storage has no part in
pub reads_shown : {X : Type 0} (f : Record → X) (g : Resident → X) (flash : List ℕ) (pressed : ℕ)
    (rs : List Resident) (slots : List (List ℕ)) → length rs ≤ length slots
    → ((p : Resident × List ℕ) → f (record_of flash pressed p) ≡ g p.0)
    → map f (map (record_of flash pressed) (zip rs slots)) ≡ map g rs
reads_shown f g flash pressed [] slots h same = refl
reads_shown f g flash pressed (r ∷ rs) [] h same = absurd (omega (arith, h))
reads_shown f g flash pressed (r ∷ rs) (s ∷ slots) h same =
    ap (λ xs. f (record_of flash pressed (r, s)) ∷ xs) (reads_shown f g flash pressed rs slots (omega (arith, h)) same)
    ∙ ap (λ x. x ∷ map g rs) (same (r, s))

-- the bytes of a slot's storage
abbrev pub bytes_of : List (List ℕ) → ℕ → List ℕ
bytes_of slots slot = slice_index_or slots slot []

-- the record of a slot
pub record_found : (flash : List ℕ) (pressed : ℕ) (processes : List Process) (owns : List Own) (slots : List (List ℕ))
    (slot : ℕ) (process : Process) (own : Own) → slice_get processes slot ≡ Some process
    → slice_get owns slot ≡ Some own → length (zip processes owns) ≤ length slots
    → slice_get (map (record_of flash pressed) (zip (zip processes owns) slots)) slot
    ≡ Some (record_of flash pressed ((process, own), bytes_of slots slot))
record_found flash pressed processes owns slots slot process own was own_was h =
    slice_get-map (record_of flash pressed) (zip (zip processes owns) slots) slot
    ∙ ap (option_map (record_of flash pressed)) (beside_get (zip processes owns) slots slot h
    ∙ ap (option_map (λ (r : Resident). (r, bytes_of slots slot)))
    (zip-get processes owns slot process own was own_was))

-- there are no more residents than slots have storage
pub beside : (processes : List Process) (owns : List Own) (slots : List (List ℕ)) → length owns ≡ length processes
    → length processes ≤ SLOT_COUNT → length slots ≡ SLOT_COUNT → length (zip processes owns) ≤ length slots
beside processes owns slots n few eight = omega (arith, length-firsts processes owns n, few, eight)

-- what a slot's process has lost
pub lost_there : (steps : ℕ) (home : Homes) (slot : ℕ) → All (HasLost steps) home.owns
    → (own_of home slot).inbox.dropped ≤ steps
lost_there steps home slot lost = of_each home.owns slot lost
  where
    past : (owns : List Own) (k : ℕ) → length owns ≤ k → (slice_index_or owns k nobody).inbox.dropped ≡ 0
    past [] k h = refl
    past (o ∷ owns) zero h = absurd (omega arith)
    past (o ∷ owns) (suc k) h = past owns k (omega arith)

    of_each : (owns : List Own) (k : ℕ) → All (HasLost steps) owns
        → (slice_index_or owns k nobody).inbox.dropped ≤ steps
    of_each owns k all =
        elim (cases_lt k (length owns)) [ inl h ↦ all k nobody h | inr h ↦ omega (arith, past owns k h) ]

-- there is one at each place of a list
pub found_at : {X : Type 0} (xs : List X) (i : ℕ) → i < length xs → (x : X) × (slice_get xs i ≡ Some x)
found_at [] i h = absurd (omega (arith, h))
found_at (x ∷ xs) zero h = (x, refl)
found_at (x ∷ xs) (suc i) h = found_at xs i (omega (arith, h))

-- the process in a slot is seated
pub seated_there : (flash : List ℕ) (n : ℕ) (ps : List Process) (owns : List Own) (slot : ℕ) (r : Resident)
    → slice_get ps slot ≡ Some r.0 → slice_get owns slot ≡ Some r.1 → All (IsResident flash n) (zip ps owns)
    → IsResident flash n r
seated_there flash n ps owns slot r was own_was all =
    let pair : slice_get (zip ps owns) slot ≡ Some (r.0, r.1) = zip-get ps owns slot r.0 r.1 was own_was in
    subst (IsResident flash n) (get_or_from_slice_get (zip ps owns) slot r r pair)
    (all slot r (slice_get_within (zip ps owns) slot r pair))

-- what each process has as its own
pub owns_shown : (flash : List ℕ) (pressed : ℕ) (processes : List Process) (owns : List Own) (slots : List (List ℕ))
    → length owns ≡ length processes → length (zip processes owns) ≤ length slots
    → map (λ (r : Record). r.own) (map (record_of flash pressed) (zip (zip processes owns) slots)) ≡ owns
owns_shown flash pressed processes owns slots n stored =
    reads_shown (λ (r : Record). r.own) (λ (r : Resident). r.1) flash pressed (zip processes owns) slots stored
    (λ p. refl)
    ∙ seconds processes owns n
  where
    seconds : (ps : List Process) (os : List Own) → length os ≡ length ps → map (λ (r : Resident). r.1) (zip ps os) ≡ os
    seconds [] [] n = refl
    seconds [] (o ∷ os) n = cc
    seconds (p ∷ ps) [] n = cc
    seconds (p ∷ ps) (o ∷ os) n = ap (λ (xs : List Own). o ∷ xs) (seconds ps os (omega (arith, n)))
