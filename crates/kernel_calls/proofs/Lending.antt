-- What is lent keeps its place, and comes back in its place. The place says where the block lies and what RAM stands
-- before and behind it; where it is the same the change was in the block alone (`comes_back` makes `Reseats` of it), so
-- one call after another is lent the same, and what contracts see is the new own.
use Rattle.std.proofs.Common.{◌≡◌, ℕ, ◌+◌, ◌-◌, ◌<◌, ◌≤◌, ◌⊎◌, inl, inr, List, length, slice_index, sym, ap, ap₂}
use Rattle.std.proofs.Common.{◌∙◌, arith, rules}
use Rattle.std.specs.Prelude.{slice_range, OnOk, OnErr}
use Rattle.std.proofs.lemmas.Bool.{cases_lt}
use Rattle.std.proofs.lemmas.List.{get_or_past}
use Rattle.std.proofs.Common.{Bool, true, false, Result, Ok, Err, Option, None, Some}
use Rattle.std.specs.Bool.{OnTrue, OnFalse}
use Rattle.tk_base.specs.Numbers.{rounded_up}
use Rattle.tbf_headers.specs.declared.fault.HeaderFault.{HeaderFault}
use Rattle.tbf_headers.specs.declared.program.Main.{Main}
use Rattle.tbf_headers.specs.Meaning.{Meaning, header_reading}
use Rattle.process_layout.specs.LayoutView.{LayoutView}
use Rattle.process_layout.specs.Bounds.{Bounds}
use Rattle.process_model.specs.Flash.{object_in}
use Rattle.process_record.specs.declared.process.Process.{Process}
use Rattle.process_restart.specs.Own.{HasStart, IsApplication, IsOwn}
use Rattle.tk_base.specs.declared.access.TheConstants.{RAM_START}
use Rattle.board_memory.specs.Memory.{MemoryBytes}
use Rattle.process_seat.specs.declared.seat.Seat.{Seat}
use Rattle.process_seat.specs.Seats.{Reseats, SitsIn, own_in}
use Rattle.process_seat.specs.Places.{has_permissions}
use Rattle.process_seat.proofs.Windows.{window_at, windows_same}
use Rattle.grant_enter.specs.Lent.{IsLentSeat}
use Rattle.process_model.specs.Own.{Own}
use Rattle.kernel_calls.specs.declared.caller.Caller.TheInside.{Inside}
use Rattle.kernel_calls.specs.Called.{Called, Place}
use Rattle.kernel_calls.specs.Lent.{called, place_in}

-- a seat that changes with its block keeps its place
pub place_kept : (m : MemoryBytes) (seat : Seat) (m' : MemoryBytes) (seat' : Seat) → Reseats m seat m' seat'
    → place_in m' seat' ≡ place_in m seat
place_kept m seat m' seat' r =
    let before : slice_range m'.ram 0 (seat.layout.start - RAM_START)
    ≡ slice_range m.ram 0 (seat.layout.start - RAM_START) =
    windows_same m.ram m'.ram _ _ 0 _ r.elsewhere (inl (omega arith)) in
    let behind : slice_range m'.ram (seat.layout.end - RAM_START) (length m.ram)
    ≡ slice_range m.ram (seat.layout.end - RAM_START) (length m.ram) =
    windows_same m.ram m'.ram _ _ _ (length m.ram) r.elsewhere (inr (omega arith)) in
    let long = r.elsewhere.long in
    let start = r.start in
    let end = r.end in
    let object = r.object in
    let permissions = r.permissions in
    search (rules, before, behind, long, start, end, object, permissions)

-- so it is lent as before
pub still_lent : (m : MemoryBytes) (seat : Seat) (m' : MemoryBytes) (seat' : Seat) → Reseats m seat m' seat'
    → IsLentSeat m seat → IsLentSeat m' seat'
still_lent m seat m' seat' r is = record {
  short = omega (arith, is.short, ap length r.flash);
  sits = r.sits;
  permissions = r.permissions ∙ is.permissions ∙ ap₂ has_permissions (sym r.flash) (sym r.object);
}

-- what comes back in its place has changed with its block alone
pub comes_back : (m : MemoryBytes) (seat : Seat) (m' : MemoryBytes) (seat' : Seat) → m'.flash ≡ m.flash
    → place_in m' seat' ≡ place_in m seat → SitsIn m' seat' → Reseats m seat m' seat'
comes_back m seat m' seat' flash same sits = record {
  flash = flash;
  elsewhere = record { long = long; each = each };
  start = start;
  end = end;
  object = ap (λ (p : Place). p.object) same;
  permissions = ap (λ (p : Place). p.permissions) same;
  sits = sits;
}
  where
    long : length m'.ram ≡ length m.ram
    long = ap (λ (p : Place). p.ram) same

    start : seat'.layout.start ≡ seat.layout.start
    start = ap (λ (p : Place). p.start) same

    end : seat'.layout.end ≡ seat.layout.end
    end = ap (λ (p : Place). p.end) same

    before : slice_range m'.ram 0 (seat.layout.start - RAM_START)
        ≡ slice_range m.ram 0 (seat.layout.start - RAM_START)
    before = rw start at (ap (λ (p : Place). p.before) same)

    behind : slice_range m'.ram (seat.layout.end - RAM_START) (length m.ram)
        ≡ slice_range m.ram (seat.layout.end - RAM_START) (length m.ram)
    behind = rw (long, end) at (ap (λ (p : Place). p.behind) same)

    by_end : (k : ℕ) → seat.layout.end - RAM_START ≤ k → (k < length m.ram) ⊎ (length m.ram ≤ k)
        → slice_index m'.ram k ≡ slice_index m.ram k
    by_end k high (inl low) =
        let b = seat.layout.end - RAM_START in
        let at : b + (k - b) ≡ k = omega (arith, high) in
        ap (slice_index m'.ram) (sym at)
        ∙ sym (window_at m'.ram b (length m.ram) (k - b) (omega (arith, high, low)))
        ∙ ap (λ (xs : List ℕ). slice_index xs (k - b)) behind
        ∙ window_at m.ram b (length m.ram) (k - b) (omega (arith, high, low))
        ∙ ap (slice_index m.ram) at
    by_end k high (inr past) =
        get_or_past m'.ram k _ (omega (arith, long, past)) ∙ sym (get_or_past m.ram k _ past)

    each : (k : ℕ) → (k < seat.layout.start - RAM_START) ⊎ (seat.layout.end - RAM_START ≤ k)
        → slice_index m'.ram k ≡ slice_index m.ram k
    each k (inl low) =
        let at : k ≡ 0 + k = omega arith in
        ap (slice_index m'.ram) at
        ∙ sym (window_at m'.ram 0 (seat.layout.start - RAM_START) k (omega (arith, low)))
        ∙ ap (λ (xs : List ℕ). slice_index xs k) before
        ∙ window_at m.ram 0 (seat.layout.start - RAM_START) k (omega (arith, low))
        ∙ ap (slice_index m.ram) (sym at)
    each k (inr high) = by_end k high (cases_lt k (length m.ram))

-- what contracts see of it then: another process, with another own
pub shows_both : (k : Inside) (old : Called) (m' : MemoryBytes) (seat' : Seat) (q : Process) (f : Own → Own)
    → called k ≡ old → Reseats k.memory.now k.seat.now m' seat'
    → own_in m'.ram seat' ≡ f (own_in k.memory.now.ram k.seat.now)
    → record {
      flash = m'.flash;
      process = q;
      own = own_in m'.ram seat';
      loan = record (called k).loan { place = place_in m' seat' };
    } ≡ record old { process = q; own = f old.own }
shows_both k old m' seat' q f is r made =
    rw (← is)
    (ap₂ (λ (flash : List ℕ) (own : Own). record {
      flash = flash;
      process = q;
      own = own;
      loan = record (called k).loan { place = place_in m' seat' };
    }) r.flash made
    ∙ ap (λ (place : Place). record (called k) {
      process = q;
      own = f (own_in k.memory.now.ram k.seat.now);
      loan = record (called k).loan { place = place };
    }) (place_kept k.memory.now k.seat.now m' seat' r))

-- or another own alone
pub shows : (k : Inside) (old : Called) (m' : MemoryBytes) (seat' : Seat) (f : Own → Own) → called k ≡ old
    → Reseats k.memory.now k.seat.now m' seat' → own_in m'.ram seat' ≡ f (own_in k.memory.now.ram k.seat.now)
    → record {
      flash = m'.flash;
      process = k.process.now;
      own = own_in m'.ram seat';
      loan = record (called k).loan { place = place_in m' seat' };
    } ≡ record old { own = f old.own }
shows k old m' seat' f is r made =
    shows_both k old m' seat' k.process.now f is r made
    ∙ ap (λ (p : Process). record old { process = p; own = f old.own }) (ap (λ (o : Called). o.process) is)

pub on_ok : {A E P Q : Type 0} (r : Result A E) → (P → Q) → OnOk r P → OnOk r Q
on_ok (Ok a) f p = f p
on_ok (Err e) f p = tt

pub on_err : {A E P Q : Type 0} (r : Result A E) → (P → Q) → OnErr r P → OnErr r Q
on_err (Ok a) f p = tt
on_err (Err e) f p = f p

-- another break, or another mark, moves no process's start
pub still_starts : (address : ℕ) (e : Bounds) (b m : ℕ) (read : Result Meaning HeaderFault)
    → IsApplication address e read → IsApplication address (record e { brk = b; mark = m }) read
still_starts address e b m (Err fault) a = a
still_starts address e b m (Ok h) a = by_main h.main a
  where
    by_main : (main : Option Main) → HasStart address e h main
        → HasStart address (record e { brk = b; mark = m }) h main
    by_main None s = s
    by_main (Some program) s = record { entry = s.entry; protected = s.protected; fits = s.fits }

still_owned : (flash : List ℕ) (p : Process) (own : Own) (b m : ℕ) → IsOwn flash p own
    → IsOwn flash p (record own { layout = record own.layout { brk = b; mark = m } })
still_owned flash p own b m is = record {
  object = record {
    lies = let lies = is.object.lies in search (rules, lies);
    application = still_starts p.object.address own.layout b m (header_reading (object_in flash p.object))
        is.object.application;
  };
  object_is = is.object_is;
  lives = is.lives;
}

-- a break that was moved, or refused, leaves a process with its object
pub break_owned : (flash : List ℕ) (p : Process) (ram : List ℕ) (seat : Seat) (new : ℕ) (e : LayoutView) (moved : Bool)
    → OnTrue moved (e ≡ record seat.layout { brk = rounded_up new }) → OnFalse moved (e ≡ seat.layout)
    → IsOwn flash p (own_in ram seat) → IsOwn flash p (own_in ram (record seat { layout = e }))
break_owned flash p ram seat new e true was kept is =
    rw was (still_owned flash p (own_in ram seat) (rounded_up new) seat.layout.mark is)
break_owned flash p ram seat new e false was kept is =
    rw kept is
