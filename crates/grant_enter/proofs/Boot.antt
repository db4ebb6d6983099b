-- Memory when it is made.
use Rattle.std.proofs.Common.{◌≡◌, ℕ, suc, ◌+◌, ◌-◌, ◌<◌, ◌≤◌, true, List, [], ◌∷◌, ◌++◌, length, map, take, get_or}
use Rattle.std.proofs.Common.{All, refl, sym, ap, ap₂, subst, ◌∙◌, add-one, arith}
use Rattle.std.specs.List.{AllPairs}
use Rattle.std.specs.Prelude.{slice_index_or, slice_range}
use Rattle.std.proofs.Math.Seq.{take-suc}
use Rattle.std.proofs.lemmas.List.{map-append, take_all, get_or-map, length-map}
use Rattle.process_layout.specs.LayoutView.{LayoutView}
use Rattle.process_layout.specs.Bounds.{bounds_of}
use Rattle.board_memory.specs.Memory.{MemoryBytes}
use Rattle.grant_model.specs.Grants.{Grant}
use Rattle.grant_model.specs.Encoding.{decode_grants}
use Rattle.grant_model.specs.Laws.{IsReadBack}
use Rattle.upcall_queue.specs.Pending.{empty}
use Rattle.process_model.specs.declared.place.Footprint.{Footprint}
use Rattle.process_model.specs.Own.{Own, opened}
use Rattle.process_seat.specs.declared.seat.Seat.{Seat}
use Rattle.grant_enter.specs.declared.home.Home.TheInside.{Inside}
use Rattle.process_seat.specs.Places.{FitsMemory}
use Rattle.grant_enter.specs.Homes.{CanMoveIn, EndsBefore, FootprintBefore, nobody}
use Rattle.tk_base.specs.declared.limits.TheConstants.{FLASH_LIMIT}
use Rattle.grant_enter.specs.Housed.{IsHome, layouts_of, owns_seated, homes_of}
use Rattle.process_seat.specs.Seats.{IsKept, IsSeated, first_seat, own_in, TellsPermissions}
use Rattle.process_seat.proofs.Windows.{zeros, length_zeros, zero_window}
use Rattle.process_seat.proofs.Restarted.{no_bytes, none_back, none_kept}

-- one more seat
pub seats_more : (flash : List ℕ) (fs : List Footprint) (k : ℕ) (f : Footprint) (seats more : List Seat) (seat : Seat)
    → k < length fs → f ≡ slice_index_or fs k f → seats ≡ map (first_seat flash) (take k fs) → seat ≡ first_seat flash f
    → more ≡ seats ++ seat ∷ [] → more ≡ map (first_seat flash) (take (k + 1) fs)
seats_more flash fs k f seats more seat h read so made pushed =
    let longer : take (k + 1) fs ≡ take k fs ++ get_or fs k f ∷ [] =
    ap (λ (n : ℕ). take n fs) (add-one k) ∙ take-suc fs k f h in
    pushed ∙ ap₂ (λ (xs : List Seat) (x : Seat). xs ++ x ∷ []) so (made ∙ ap (first_seat flash) read)
    ∙ sym (map-append (first_seat flash) (take k fs) (get_or fs k f ∷ [])) ∙ sym (ap (map (first_seat flash)) longer)

-- all of them
pub seats_all : (shown flash : List ℕ) (ram : ℕ) (fs : List Footprint) (k : ℕ) (seats : List Seat) (m : MemoryBytes)
    → length fs ≤ k → seats ≡ map (first_seat shown) (take k fs) → shown ≡ m.flash
    → m ≡ record { flash = flash; ram = zeros ram } → seats ≡ map (first_seat flash) fs
seats_all shown flash ram fs k seats m h so is memory =
    so ∙ ap (map (first_seat shown)) (take_all k fs h)
    ∙ ap (λ (bytes : List ℕ). map (first_seat bytes) fs) (is ∙ ap (λ (x : MemoryBytes). x.flash) memory)

layouts_again : (flash : List ℕ) (fs : List Footprint)
    → layouts_of (map (first_seat flash) fs) ≡ map (λ (f : Footprint). f.layout) fs
layouts_again flash [] = refl
layouts_again flash (f ∷ fs) = ap (λ (xs : List LayoutView). f.layout ∷ xs) (layouts_again flash fs)

module _ (law : IsReadBack) (flash : List ℕ) (ram : ℕ) (fs : List Footprint) (h : Inside)
    (memory : h.memory ≡ record { flash = flash; ram = zeros ram }) (seats : h.seats.items ≡ map (first_seat flash) fs)
    (settled : All (CanMoveIn (length flash) ram) fs) where
  each_settled : All (FitsMemory (length flash) ram) (map (λ (f : Footprint). f.layout) fs)
  each_settled i d b =
      let within : i < length fs = omega (arith, length-map fs (λ (f : Footprint). f.layout)) in
      let e : Footprint = record { object = nobody.object; layout = d } in
      rw (get_or-map (λ (f : Footprint). f.layout) fs i e d within) (settled i e within).settled

  seat_kept : (f : Footprint) → CanMoveIn (length flash) ram f
      → IsSeated (length flash) (zeros ram) (first_seat flash f)
  seat_kept f s = record {
    object = s.object;
    kept = subst (IsKept (bounds_of f.layout)) (sym (ap (λ (n : ℕ). slice_range (zeros ram) (n - 2147483648)
        (f.layout.end - 2147483648)) s.no_grants ∙ no_bytes (zeros ram) (f.layout.end - 2147483648)))
        (none_kept law (bounds_of f.layout));
  }

  each_seated : (xs : List Footprint) → All (CanMoveIn (length flash) ram) xs
      → All (IsSeated (length flash) (zeros ram)) (map (first_seat flash) xs)
  each_seated xs all i d b =
      let f : Footprint = record { object = d.object; layout = d.layout } in
      let within : i < length xs = omega (arith, length-map xs (first_seat flash)) in
      rw (get_or-map (first_seat flash) xs i f d within) (seat_kept (get_or xs i f) (all i f within))

  each_tells : (xs : List Footprint) → All (TellsPermissions flash) (map (first_seat flash) xs)
  each_tells xs i d b =
      let f : Footprint = record { object = d.object; layout = d.layout } in
      let within : i < length xs = omega (arith, length-map xs (first_seat flash)) in
      subst (TellsPermissions flash) (sym (get_or-map (first_seat flash) xs i f d within)) refl

  pairs_apart : AllPairs FootprintBefore fs → AllPairs EndsBefore (map (λ (f : Footprint). f.layout) fs)
  pairs_apart apart i j d l b =
      let f : Footprint = record { object = nobody.object; layout = d } in
      let long : j < length fs = omega (arith, length-map fs (λ (f : Footprint). f.layout)) in
      let first : get_or (map (λ (f : Footprint). f.layout) fs) i d ≡ (get_or fs i f).layout =
      get_or-map (λ (f : Footprint). f.layout) fs i f d (omega arith) in
      let second : get_or (map (λ (f : Footprint). f.layout) fs) j d ≡ (get_or fs j f).layout =
      get_or-map (λ (f : Footprint). f.layout) fs j f d long in
      rw (first, second) (apart i j f l long)

  pub home_booted : length flash ≤ FLASH_LIMIT → AllPairs FootprintBefore fs → IsHome h
  home_booted short apart =
      let layouts : layouts_of h.seats.items ≡ map (λ (f : Footprint). f.layout) fs =
      ap layouts_of seats ∙ layouts_again flash fs in
      let flash_is : length h.memory.flash ≡ length flash = ap (λ (m : MemoryBytes). length m.flash) memory in
      let ram_is : length h.memory.ram ≡ ram = ap (λ (m : MemoryBytes). length m.ram) memory ∙ length_zeros ram in
      record {
        short = omega (arith, short, flash_is);
        settled = rw (layouts, flash_is, ram_is) (record { each = each_settled; apart = pairs_apart apart });
        seated = rw (memory, seats) (each_seated fs settled);
        permissions = rw (memory, seats) (each_tells fs);
      }

  own_opened : (f : Footprint) → CanMoveIn (length flash) ram f → own_in (zeros ram) (first_seat flash f) ≡ opened f
  own_opened f s =
      let e = f.layout in
      let t = s.settled in
      ap₂ (λ (a : List ℕ) (gs : List Grant). record {
        object = f.object;
        layout = bounds_of e;
        ram = a;
        grants = gs;
        inbox = empty;
        life = 0;
        lives = true;
      })
      (zero_window ram (e.start - 2147483648) (e.kernel_break - 2147483648) (omega (arith, t.to, t.ordered.end))
      ∙ ap zeros (omega (arith, t.from, t.ordered.block, t.ordered.grants, s.no_grants)))
      (ap (λ (n : ℕ). decode_grants (slice_range (zeros ram) (n - 2147483648) (e.end - 2147483648))) s.no_grants
      ∙ ap decode_grants (no_bytes (zeros ram) (e.end - 2147483648)) ∙ none_back law)

  all_opened : (xs : List Footprint) → All (CanMoveIn (length flash) ram) xs
      → owns_seated (zeros ram) (map (first_seat flash) xs) ≡ map opened xs
  all_opened [] all = refl
  all_opened (x ∷ xs) all =
      ap₂ ◌∷◌ (own_opened x (all 0 x (omega arith))) (all_opened xs (λ i d b. all (suc i) d (omega arith)))

  pub homes_booted : homes_of h ≡ record { flash = flash; owns = map opened fs }
  homes_booted =
      ap₂ (λ (m : MemoryBytes) (xs : List Seat). record { flash = m.flash; owns = owns_seated m.ram xs }) memory seats
      ∙ ap (λ (owns : List Own). record { flash = flash; owns = owns }) (all_opened fs settled)
