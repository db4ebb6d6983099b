-- Whether the process of an id is there: it lives in its slot, in that life.
use Rattle.std.proofs.Common.{◌≡◌, ℕ, zero, suc, ◌<◌, ◌==◌, ◌&&◌, not, true, false, List, [], ◌∷◌, length, refl, ap}
use Rattle.std.proofs.Common.{sym, ◌∙◌, arith, get_or}
use Rattle.std.specs.Prelude.{slice_index_or, slice_get, option_map, Some, None, ◌≤◌, nat_lt}
use Rattle.std.proofs.lemmas.Option.{slice_get-map}
use borrow.Author.Tests.{ltb-true}
use Rattle.process_model.specs.Own.{Own}
use Rattle.process_seat.specs.declared.seat.Seat.{Seat}
use Rattle.grant_enter.specs.declared.home.Home.TheInside.{Inside}
use Rattle.grant_enter.specs.Homes.{Homes, is_life, nobody}
use Rattle.grant_enter.specs.Housed.{homes_of}
use Rattle.process_seat.specs.Seats.{own_in}
use Rattle.process_seat.specs.Visits.{is_stale}

-- where it is there, a process was placed in the slot
pub placed_there : (owns : List Own) (slot life : ℕ) → is_life life (slice_get owns slot) ≡ true → slot < length owns
placed_there [] slot life there = cc
placed_there (own ∷ owns) zero life there = omega arith
placed_there (own ∷ owns) (suc slot) life there = let less = placed_there owns slot life there in omega (arith, less)

-- it is stale exactly where it is not there
pub stale_is : (owns : List Own) (slot life : ℕ)
    → is_stale life (slice_index_or owns slot nobody) ≡ not (is_life life (slice_get owns slot))
stale_is [] slot life = refl
stale_is (own ∷ owns) zero life = refl
stale_is (own ∷ owns) (suc slot) life = stale_is owns slot life

got : (seats : List Seat) (index : ℕ) (seat : Seat) → index < length seats → seat ≡ get_or seats index seat
    → slice_get seats index ≡ Some seat
got [] index seat there is = absurd (omega arith)
got (x ∷ seats) zero seat there is = ap Some (sym is)
got (x ∷ seats) (suc index) seat there is = got seats index seat (omega arith) is

none : (seats : List Seat) (index : ℕ) → length seats ≤ index → slice_get seats index ≡ None
none [] index past = refl
none (x ∷ seats) zero past = absurd (omega arith)
none (x ∷ seats) (suc index) past = none seats index (omega arith)

-- what stands in a slot of a home, of which contracts see this, is what is its seat's own
module _ (h : Inside) (old : Homes) (slot index : ℕ) (shown : homes_of h ≡ old) (is : index ≡ slot) where
  stands : slice_get old.owns slot ≡ option_map (own_in h.memory.ram) (slice_get h.seats.items index)
  stands =
      sym (ap (λ (x : Homes). slice_get x.owns slot) shown)
      ∙ sym (ap (λ (i : ℕ). slice_get (homes_of h).owns i) is)
      ∙ slice_get-map (own_in h.memory.ram) h.seats.items index

  -- the seat that is found there, or none, in the list of the seats
  module _ (seats : List Seat) (all : seats ≡ h.seats.items) where
    stands_found : slice_get old.owns slot ≡ option_map (own_in h.memory.ram) (slice_get seats index)
    stands_found = stands ∙ ap (λ (xs : List Seat). option_map (own_in h.memory.ram) (slice_get xs index)) (sym all)

    pub is_life_found : (life : ℕ) (seat : Seat) → true ≡ nat_lt index (length seats)
        → seat ≡ get_or seats index seat
        → (seat.lives && seat.life == life) ≡ is_life life (slice_get old.owns slot)
    is_life_found life seat there read =
        sym (ap (is_life life)
        (stands_found
        ∙ ap (option_map (own_in h.memory.ram))
        (got seats index seat (ltb-true index (length seats) (sym there)) read)))

    pub is_life_none : (life : ℕ) → length seats ≤ index → false ≡ is_life life (slice_get old.owns slot)
    is_life_none life past =
        sym (ap (is_life life)
        (stands_found ∙ ap (option_map (own_in h.memory.ram)) (none seats index past)))
