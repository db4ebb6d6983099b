-- The seats, by slot.
use Rattle.std.proofs.Common.{◌≡◌, ◌≢◌, ℕ, zero, suc, ◌<◌, ◌≤◌, ◌⊎◌, inl, inr, List, [], ◌∷◌, length, map, get_or, refl}
use Rattle.std.proofs.Common.{sym, ap, ap₂, subst, ◌∙◌, arith}
use Rattle.std.specs.Prelude.{slice_index_or, slice_set, All}
use Rattle.std.proofs.lemmas.Bool.{cases_lt}
use Rattle.std.proofs.lemmas.List.{get_or-map, map-set, length-map, length-set}
use Rattle.std.proofs.lemmas.List.Elements.{All-set}
use Rattle.process_layout.specs.LayoutView.{LayoutView}
use Rattle.process_seat.specs.declared.seat.Seat.{Seat}
use Rattle.process_seat.specs.Places.{FitsMemory}
use Rattle.grant_enter.specs.Homes.{EndsBefore, nobody}
use Rattle.grant_enter.specs.Housed.{AreSettled, layouts_of, owns_seated}
use Rattle.process_seat.specs.Seats.{own_in}

-- one element is given another image, and each other has the same under both functions
pub one_changed : {X Y : Type 0} (f g : X → Y) (xs : List X) (i : ℕ) (x : X) (y : Y) → f x ≡ y
    → ((k : ℕ) (d : X) → k < length xs → k ≢ i → f (get_or xs k d) ≡ g (get_or xs k d))
    → map f (slice_set xs i x) ≡ slice_set (map g xs) i y
one_changed f g [] i x y e same = refl
one_changed f g (z ∷ zs) zero x y e same = ap₂ ◌∷◌ e (rest zs (λ k d h. same (suc k) d (omega arith) (omega arith)))
  where
    rest : (zs : List _) → ((k : ℕ) (d : _) → k < length zs → f (get_or zs k d) ≡ g (get_or zs k d))
        → map f zs ≡ map g zs
    rest [] same = refl
    rest (z ∷ zs) same = ap₂ ◌∷◌ (same zero z (omega arith)) (rest zs (λ k d h. same (suc k) d (omega arith)))
one_changed f g (z ∷ zs) (suc i) x y e same =
    ap₂ ◌∷◌ (same zero z (omega arith) (omega arith))
    (one_changed f g zs i x y e (λ k d h ne. same (suc k) d (omega arith) (omega arith)))

-- the default does not matter where there is an element
pub any_default : {X : Type 0} (xs : List X) (i : ℕ) (a b : X) → i < length xs → get_or xs i a ≡ get_or xs i b
any_default [] i a b h = absurd (omega arith)
any_default (x ∷ xs) zero a b h = refl
any_default (x ∷ xs) (suc i) a b h = any_default xs i a b (omega arith)

-- what was read at a place
pub read_at : (seats : List Seat) (slot index : ℕ) (seat d : Seat) → index ≡ slot
    → seat ≡ slice_index_or seats index seat → slot < length seats → get_or seats slot d ≡ seat
read_at seats slot index seat d is read h =
    any_default seats slot d seat h ∙ sym (read ∙ ap (λ (k : ℕ). slice_index_or seats k seat) is)

-- the own of a slot, by its seat
pub own_at : (ram : List ℕ) (seats : List Seat) (slot index : ℕ) (seat : Seat) → index ≡ slot
    → seat ≡ slice_index_or seats index seat → slot < length (owns_seated ram seats)
    → slice_index_or (owns_seated ram seats) slot nobody ≡ own_in ram seat
own_at ram seats slot index seat is read h =
    let within : slot < length seats = omega (arith, length-map seats (own_in ram)) in
    get_or-map (own_in ram) seats slot seat nobody within
    ∙ ap (own_in ram) (read_at seats slot index seat seat is read within)

-- a seat's layout is settled
pub settled_at : (flash ram : ℕ) (seats : List Seat) (k : ℕ) (d : Seat) → AreSettled flash ram (layouts_of seats)
    → k < length seats → FitsMemory flash ram (get_or seats k d).layout
settled_at flash ram seats k d settled h =
    subst (FitsMemory flash ram) (get_or-map (λ (s : Seat). s.layout) seats k d d.layout h)
    (settled.each k d.layout (omega (arith, length-map seats (λ (s : Seat). s.layout))))

-- the blocks of two slots lie apart
pub apart_at : (flash ram : ℕ) (seats : List Seat) (i k : ℕ) (d : Seat) → AreSettled flash ram (layouts_of seats)
    → i < length seats → k < length seats → k ≢ i
    → ((get_or seats k d).layout.end ≤ (get_or seats i d).layout.start)
    ⊎ ((get_or seats i d).layout.end ≤ (get_or seats k d).layout.start)
apart_at flash ram seats i k d settled h g ne =
    elim (cases_lt k i) [ inl l ↦ inl (before k i l g h) | inr l ↦ inr (before i k (omega arith) h g) ]
  where
    before : (a b : ℕ) → a < b → a < length seats → b < length seats
        → (get_or seats a d).layout.end ≤ (get_or seats b d).layout.start
    before a b l p q =
        let pair : EndsBefore (get_or (layouts_of seats) a d.layout) (get_or (layouts_of seats) b d.layout) =
        settled.apart a b d.layout l (omega (arith, length-map seats (λ (s : Seat). s.layout))) in
        let first : get_or (layouts_of seats) a d.layout ≡ (get_or seats a d).layout =
        get_or-map (λ (s : Seat). s.layout) seats a d d.layout p in
        let second : get_or (layouts_of seats) b d.layout ≡ (get_or seats b d).layout =
        get_or-map (λ (s : Seat). s.layout) seats b d d.layout q in
        rw (first, second) at pair

same_field : (f : LayoutView → ℕ) (xs : List LayoutView) (s : ℕ) (y d : LayoutView) (i : ℕ) (e : LayoutView)
    → s < length xs → f y ≡ f (get_or xs s d) → f (get_or (slice_set xs s y) i e) ≡ f (get_or xs i e)
same_field f [] s y d i e h is = refl
same_field f (x ∷ xs) zero y d zero e h is = is
same_field f (x ∷ xs) zero y d (suc i) e h is = refl
same_field f (x ∷ xs) (suc s) y d zero e h is = refl
same_field f (x ∷ xs) (suc s) y d (suc i) e h is = same_field f xs s y d i e (omega arith) is

-- a layout that keeps its block's ends keeps them all apart
settled_set : (flash ram : ℕ) (es : List LayoutView) (s : ℕ) (y d : LayoutView) → AreSettled flash ram es
    → s < length es → FitsMemory flash ram y → y.start ≡ (get_or es s d).start → y.end ≡ (get_or es s d).end
    → AreSettled flash ram (slice_set es s y)
settled_set flash ram es s y d settled h here start end = record {
  each = All-set (FitsMemory flash ram) es s y here settled.each;
  apart = λ i j e l b.
      let first : (get_or (slice_set es s y) i e).end ≡ (get_or es i e).end =
      same_field (λ x. x.end) es s y d i e h end in
      let second : (get_or (slice_set es s y) j e).start ≡ (get_or es j e).start =
      same_field (λ x. x.start) es s y d j e h start in
      let pair : EndsBefore (get_or es i e) (get_or es j e) =
      settled.apart i j e l (omega (arith, length-set es s y)) in
      omega arith;
}

-- so does a seat
pub layouts_set : (flash ram : ℕ) (seats : List Seat) (slot index : ℕ) (seat new : Seat)
    → AreSettled flash ram (layouts_of seats) → index ≡ slot → seat ≡ slice_index_or seats index seat
    → slot < length seats → FitsMemory flash ram new.layout → new.layout.start ≡ seat.layout.start
    → new.layout.end ≡ seat.layout.end → AreSettled flash ram (layouts_of (slice_set seats index new))
layouts_set flash ram seats slot index seat new settled is read h here start end =
    let was : get_or (layouts_of seats) index seat.layout ≡ seat.layout =
    get_or-map (λ (s : Seat). s.layout) seats index seat seat.layout (omega arith)
    ∙ ap (λ (s : Seat). s.layout) (sym read) in
    subst (AreSettled flash ram) (sym (map-set (λ (s : Seat). s.layout) seats index new))
    (settled_set flash ram (layouts_of seats) index new.layout seat.layout settled
    (omega (arith, length-map seats (λ (s : Seat). s.layout))) here
    (start ∙ ap (λ (e : LayoutView). e.start) (sym was)) (end ∙ ap (λ (e : LayoutView). e.end) (sym was)))

-- what holds of each element holds of each once one was changed
pub all_changed : {X : Type 0} (P Q : X → Type 0) (xs : List X) (i : ℕ) (x : X)
    → ((k : ℕ) (d : X) → k < length xs → k ≢ i → P (get_or xs k d) → Q (get_or xs k d)) → Q x → All P xs
    → All Q (slice_set xs i x)
all_changed P Q [] i x others here all = λ k d h. absurd (omega arith)
all_changed P Q (z ∷ zs) zero x others here all = by_place
  where
    by_place : (k : ℕ) (d : _) → k < length (x ∷ zs) → Q (get_or (x ∷ zs) k d)
    by_place zero d h = here
    by_place (suc k) d h = others (suc k) d (omega arith) (omega arith) (all (suc k) d (omega arith))
all_changed P Q (z ∷ zs) (suc i) x others here all =
    by_place (all_changed P Q zs i x (λ k d h ne p. others (suc k) d (omega arith) (omega arith) p) here
    (λ k d h. all (suc k) d (omega arith)))
  where
    by_place : All Q (slice_set zs i x) → (k : ℕ) (d : _) → k < length (z ∷ slice_set zs i x)
        → Q (get_or (z ∷ slice_set zs i x) k d)
    by_place rest zero d h = others zero d (omega arith) (omega arith) (all zero d (omega arith))
    by_place rest (suc k) d h = rest k d (omega arith)
