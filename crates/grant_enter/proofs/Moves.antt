-- What a change of one seat, or of the RAM in its block, makes of what contracts see: the list of owns with one place
-- set. Blocks lie apart, so RAM that is the same outside of one block has the same windows for every other slot
-- (`Reseats`); the home is a home again, and a relation of the own holds of what contracts see.
use Rattle.std.proofs.Common.{◌≡◌, ◌≢◌, ℕ, ◌+◌, ◌-◌, ◌^◌, ◌<◌, ◌≤◌, ◌⊎◌, inl, inr, true, rules}
use Rattle.std.proofs.Common.{not, slice_get, List, [], length, get_or, refl, sym, ap, ap₂, subst, ◌∙◌, arith}
use Rattle.std.specs.Prelude.{nat_lt, slice_index_or, slice_set}
use Rattle.std.specs.Vec.{with_item}
use Rattle.std.proofs.lemmas.Bool.Decides.{nat_tests}
use Rattle.std.proofs.lemmas.List.{get_or-set_same, length-map, set-get_or}
use Rattle.tk_base.specs.declared.access.TheConstants.{RAM_START}
use Rattle.process_layout.specs.Bounds.{bounds_of, layout_within}
use Rattle.process_layout.specs.Ordered.{IsOrdered}
use Rattle.board_memory.specs.Memory.{MemoryBytes, ram_between}
use Rattle.process_model.specs.Own.{Own, layout_of}
use Rattle.process_seat.specs.declared.seat.Seat.{Seat}
use Rattle.grant_enter.specs.declared.home.Home.TheInside.{Inside}
use Rattle.grant_enter.specs.Homes.{Homes, ChangesOnly, is_life, nobody, own_of, with_own}
use Rattle.process_seat.specs.Places.{has_permissions}
use Rattle.grant_enter.specs.Housed.{AreSettled, IsHome, layouts_of, owns_seated, homes_of}
use Rattle.process_seat.specs.Seats.{IsSeated, IsKept, Reseats, SitsIn, first_seat, TellsPermissions, owned}
use Rattle.process_seat.specs.Seats.{kernel_in, own_in}
use Rattle.process_seat.specs.Visits.{FoundProcess, found_in}
use Rattle.process_seat.proofs.Alive.{lives_so}
use Rattle.grant_enter.proofs.Living.{placed_there, stale_is}
use Rattle.process_seat.proofs.Windows.{windows_same}
use Rattle.process_seat.proofs.Reseated.{own_layout}
use Rattle.grant_enter.proofs.Tables.{any_default, one_changed, read_at, own_at, settled_at, apart_at, layouts_set}
use Rattle.grant_enter.proofs.Tables.{all_changed}

-- a slot in which a process was placed is among those of a home
pub placed : (old : Homes) (slot : ℕ) → nat_lt slot (length old.owns) ≡ true → slot < length old.owns
placed old slot e = grind (arith, nat_tests)

-- the seat of a slot was read in a home, of which contracts see this
pub record Reads (h : Inside) (old : Homes) (slot index : ℕ) (seat : Seat) : Type 0 where
  pub home : IsHome h
  pub shown : homes_of h ≡ old
  pub there : slot < length old.owns
  pub is : index ≡ slot
  pub read : seat ≡ slice_index_or h.seats.items index seat

-- the seat of a slot, and that it is read
abbrev pub seat_of : Inside → ℕ → Seat
seat_of h slot =
    slice_index_or h.seats.items slot (first_seat []
    (record { object = nobody.object; layout = layout_within nobody.layout 0 }))

pub reads_seat : (h : Inside) (old : Homes) (slot : ℕ) → IsHome h → homes_of h ≡ old → slot < length old.owns
    → Reads h old slot slot (seat_of h slot)
reads_seat h old slot home shown there =
    let low : slot < length (homes_of h).owns = subst (λ (x : Homes). slot < length x.owns) (sym shown) there in
    record {
      home = home;
      shown = shown;
      there = there;
      is = refl;
      read = any_default h.seats.items slot _ _ (omega (arith, length-map h.seats.items (own_in h.memory.ram), low));
    }

-- the seat of a process that is there was read
pub reads_there : (h : Inside) (old : Homes) (slot index life : ℕ) (seat : Seat) → IsHome h → homes_of h ≡ old
    → is_life life (slice_get old.owns slot) ≡ true → index ≡ slot → seat ≡ slice_index_or h.seats.items index seat
    → Reads h old slot index seat
reads_there h old slot index life seat home shown present is read =
    let there : slot < length old.owns = placed_there old.owns slot life present in search rules

-- a home in which memory, and the seat at a place, are others
abbrev pub with_seat : Inside → MemoryBytes → ℕ → Seat → Inside
with_seat h m index new = record { memory = m; seats = with_item h.seats index new }

module _ {h : Inside} {old : Homes} {slot index : ℕ} {seat : Seat} (r : Reads h old slot index seat) where
  low : slot < length (homes_of h).owns
  low = subst (λ (x : Homes). slot < length x.owns) (sym r.shown) r.there

  within : slot < length h.seats.items
  within = omega (arith, length-map h.seats.items (own_in h.memory.ram), low)

  pub own_before : own_of old slot ≡ own_in h.memory.ram seat
  own_before = sym (ap (λ (x : Homes). own_of x slot) r.shown)
      ∙ own_at h.memory.ram h.seats.items slot index seat r.is r.read low

  pub layout_before : (own_of old slot).layout ≡ bounds_of seat.layout
  layout_before = ap (λ (o : Own). o.layout) own_before

  pub sits_before : SitsIn h.memory seat
  sits_before =
      let here : get_or h.seats.items slot seat ≡ seat =
      read_at h.seats.items slot index seat seat r.is r.read within in
      record {
        settled = rw here at
            (settled_at (length h.memory.flash) (length h.memory.ram) h.seats.items slot seat r.home.settled within);
        seated = rw here at (r.home.seated slot seat within);
      }

  -- a process that is there lives in its seat, in that life
  pub seat_there : (life : ℕ) → is_life life (slice_get old.owns slot) ≡ true
      → (seat.lives ≡ true) × (seat.life ≡ life)
  seat_there life there =
      let t = lives_so (own_of old slot) life (stale_is old.owns slot life ∙ ap not there) in (
        sym (ap (λ (o : Own). o.lives) own_before) ∙ t.0,
        sym (ap (λ (o : Own). o.life) own_before) ∙ t.1,
      )

  -- the layout of the seat is that of the process's own
  pub whole_layout : layout_of (own_of old slot) ≡ seat.layout
  whole_layout = ap layout_of own_before ∙ own_layout h.memory seat sits_before

  -- the object of the process lies in flash, so its end is an address
  pub object_ends : (own_of old slot).object.address + (own_of old slot).object.size < 2 ^ 32
  object_ends =
      let lies : seat.object.address + seat.object.size ≤ 536870912 + length h.memory.flash =
      sits_before.seated.object.to in
      rw own_before (omega (arith, lies, r.home.short))

  -- the seat tells of the permissions of its object in flash
  pub told : TellsPermissions h.memory.flash seat
  told =
      subst (TellsPermissions h.memory.flash) (read_at h.seats.items slot index seat seat r.is r.read within)
      (r.home.permissions slot seat within)

  pub told_permissions : seat.has_permissions ≡ has_permissions old.flash (own_of old slot).object
  told_permissions =
      told ∙ ap₂ has_permissions (ap (λ (x : Homes). x.flash) r.shown) (sym (ap (λ (o : Own). o.object) own_before))

  -- a seat and the RAM in its block change: all else has its place, and is what it was
  module _ (m : MemoryBytes) (new : Seat) (changed : Reseats h.memory seat m new) where
    sides : (k : ℕ) (d : Seat) → k < length h.seats.items → k ≢ slot
        → ((get_or h.seats.items k d).layout.end ≤ seat.layout.start)
        ⊎ (seat.layout.end ≤ (get_or h.seats.items k d).layout.start)
    sides k d there ne =
        let here : get_or h.seats.items slot d ≡ seat = read_at h.seats.items slot index seat d r.is r.read within in
        rw here at (apart_at (length h.memory.flash) (length h.memory.ram) h.seats.items slot k d r.home.settled
        within there ne)

    -- RAM as it was outside of the slot's block leaves each other slot's block as it was
    block_same : (k : ℕ) (d : Seat) (a b : ℕ) → k < length h.seats.items → k ≢ slot
        → (get_or h.seats.items k d).layout.start ≤ a → b ≤ (get_or h.seats.items k d).layout.end
        → ram_between m.ram a b ≡ ram_between h.memory.ram a b
    block_same k d a b there ne low high =
        windows_same h.memory.ram m.ram (seat.layout.start - RAM_START) (seat.layout.end - RAM_START)
        (a - RAM_START) (b - RAM_START) changed.elsewhere
        (elim (sides k d there ne) [ inl l ↦ inl (omega arith) | inr l ↦ inr (omega arith) ])

    order : (k : ℕ) (d : Seat) → k < length h.seats.items → IsOrdered (get_or h.seats.items k d).layout
    order k d there =
        (settled_at (length h.memory.flash) (length h.memory.ram) h.seats.items k d r.home.settled there).ordered

    kernel_same : (k : ℕ) (d : Seat) → k < length h.seats.items → k ≢ slot
        → kernel_in m.ram (get_or h.seats.items k d).layout ≡ kernel_in h.memory.ram (get_or h.seats.items k d).layout
    kernel_same k d there ne =
        let e = (get_or h.seats.items k d).layout in
        let o = order k d there in
        block_same k d e.kernel_break e.end there ne (omega (arith, o.block, o.grants)) (omega arith)

    -- and so what is its own
    others : (k : ℕ) (d : Seat) → k < length h.seats.items → k ≢ slot
        → own_in m.ram (get_or h.seats.items k d) ≡ own_in h.memory.ram (get_or h.seats.items k d)
    others k d there ne =
        let e = (get_or h.seats.items k d).layout in
        ap₂ (owned (get_or h.seats.items k d))
        (block_same k d e.start e.kernel_break there ne (omega arith) (order k d there).end) (kernel_same k d there ne)

    others_seated : (k : ℕ) (d : Seat) → k < length h.seats.items → k ≢ slot
        → IsSeated (length h.memory.flash) h.memory.ram (get_or h.seats.items k d)
        → IsSeated (length h.memory.flash) m.ram (get_or h.seats.items k d)
    others_seated k d there ne s = record {
      object = s.object;
      kept = subst (IsKept (bounds_of (get_or h.seats.items k d).layout)) (sym (kernel_same k d there ne)) s.kept;
    }

    -- the seat tells of its permissions as before
    still_tells : TellsPermissions m.flash new
    still_tells = changed.permissions ∙ told ∙ ap₂ has_permissions (sym changed.flash) (sym changed.object)

    still_settled : AreSettled (length m.flash) (length m.ram) (layouts_of h.seats.items)
    still_settled = rw (changed.flash, changed.elsewhere.long) r.home.settled

    pub reseated : IsHome (with_seat h m index new)
    reseated = record {
      short = omega (arith, r.home.short, ap length changed.flash);
      settled = layouts_set (length m.flash) (length m.ram) h.seats.items slot index seat new still_settled r.is r.read
          within changed.sits.settled changed.start changed.end;
      seated = all_changed (IsSeated (length h.memory.flash) h.memory.ram) (IsSeated (length m.flash) m.ram)
          h.seats.items index new (λ k d there ne s. rw changed.flash
          (others_seated k d there (λ e. ne (e ∙ sym r.is)) s)) changed.sits.seated r.home.seated;
      permissions = all_changed (TellsPermissions h.memory.flash) (TellsPermissions m.flash) h.seats.items index new
          (λ k d there ne s. rw changed.flash s) still_tells r.home.permissions;
    }

    reshown : (own : Own) → own_in m.ram new ≡ own → homes_of (with_seat h m index new) ≡ with_own old slot own
    reshown own made =
        ap₂ (λ (f : List ℕ) (owns : List Own). record { flash = f; owns = owns }) changed.flash
        (ap (λ (i : ℕ). owns_seated m.ram (slice_set h.seats.items i new)) r.is
        ∙ one_changed (own_in m.ram) (own_in h.memory.ram) h.seats.items slot new own made others)
        ∙ ap (λ (x : Homes). with_own x slot own) r.shown

    own_after : own_of (homes_of (with_seat h m index new)) slot ≡ own_in m.ram new
    own_after =
        ap (λ (x : Homes). own_of x slot) (reshown (own_in m.ram new) refl)
        ∙ get_or-set_same old.owns slot (own_in m.ram new) nobody r.there

    -- no other slot has changed
    pub reseated_only : ChangesOnly slot old (homes_of (with_seat h m index new))
    reseated_only = reshown (own_of (homes_of (with_seat h m index new)) slot) (sym own_after)

    -- what holds of flash, and of what was and is the own of the process in memory, holds of them in what contracts see
    pub reseated_shows : (P : List ℕ → Own → Own → Type 0)
        → P h.memory.flash (own_in h.memory.ram seat) (own_in m.ram new)
        → P old.flash (own_of old slot) (own_of (homes_of (with_seat h m index new)) slot)
    reseated_shows P made = rw (own_after, own_before, ← ap (λ (x : Homes). x.flash) r.shown) made

    -- so it does of the process as a driver finds it
    pub reseated_found : (P : FoundProcess → Own → Type 0) (life : ℕ) → seat.life ≡ life
        → P (found_in h.memory seat) (own_in m.ram new)
        → P (record { life = life; flash = old.flash; own = own_of old slot })
        (own_of (homes_of (with_seat h m index new)) slot)
    reseated_found P life same made =
        reseated_shows (λ (flash : List ℕ) (own own' : Own). P (record { life = life; flash = flash; own = own }) own')
        (subst (λ (n : ℕ). P (record { life = n; flash = h.memory.flash; own = own_in h.memory.ram seat })
        (own_in m.ram new)) same made)

    -- where it is what it was, nothing at all has changed
    pub reseated_same : own_in m.ram new ≡ own_in h.memory.ram seat → homes_of (with_seat h m index new) ≡ old
    reseated_same same =
        reshown (own_of old slot) (same ∙ sym own_before)
        ∙ ap (λ (owns : List Own). record old { owns = owns }) (set-get_or old.owns slot nobody)

  -- a seat stays, and the RAM in its block changes
  module _ (m : MemoryBytes) (changed : Reseats h.memory seat m seat) where
    same_items : slice_set h.seats.items index seat ≡ h.seats.items
    same_items = ap (slice_set h.seats.items index) r.read ∙ set-get_or h.seats.items index seat

    pub still_home : IsHome (record { memory = m; seats = h.seats })
    still_home =
        let i = reseated m seat changed in
        record {
          short = i.short;
          settled = rw same_items at i.settled;
          seated = rw same_items at i.seated;
          permissions = rw same_items at i.permissions;
        }

    pub still_only : ChangesOnly slot old (homes_of (record { memory = m; seats = h.seats }))
    still_only = rw same_items at (reseated_only m seat changed)

    pub still_shows : (P : List ℕ → Own → Own → Type 0)
        → P h.memory.flash (own_in h.memory.ram seat) (own_in m.ram seat)
        → P old.flash (own_of old slot) (own_of (homes_of (record { memory = m; seats = h.seats })) slot)
    still_shows P made = rw same_items at (reseated_shows m seat changed P made)
