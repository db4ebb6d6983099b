-- What is kept of which processes can have a turn stays true. A change of one slot leaves what is kept of all others
-- (`OtherTurnsTell`), and to look at that slot again makes it all. Where all are looked at, it holds slot by slot, up
-- to the last, and beyond the last there is none.
use Rattle.std.proofs.Common.{◌≡◌, ◌≢◌, inl, inr, ℕ, zero, suc, ◌+◌, ◌<◌, ◌≤◌, Bool, true, false, List, [], ◌∷◌, length}
use Rattle.std.proofs.Common.{replicate, slice_get, slice_set, slice_index_or, None, Some, refl, sym, ap, nat_lt}
use Rattle.std.proofs.Common.{◌∙◌, arith}
use Rattle.std.proofs.lemmas.Bool.{cases_eq, cases_lt, ltb-false, ltb-true}
use Rattle.std.proofs.lemmas.List.{get_or-set_same, get_or-set_other}
use Rattle.std.proofs.lemmas.Option.{slice_get-get_or, slice_get_past, slice_get_read}
use Rattle.std.proofs.lemmas.Slice.Zip.{length-zip}
use Rattle.std.specs.List.{zip}
use Rattle.process_record.specs.declared.process.Process.{Process}
use Rattle.process_model.specs.Own.{Own}
use Rattle.kernel_calls.specs.Residents.{Resident, can_turn_in, resident_turns}
use Rattle.grant_enter.specs.Homes.{Homes, nobody, own_of}
use Rattle.kernel_calls.proofs.Pairs.{length-firsts, zip-get}
use Rattle.board_turns.specs.ReadySlots.{NoneBeyond, OtherTurnsTell, TellsUpTo, TurnsTell}

-- a slot that is set has what it is set to, and every other has what it had
pub set_same : {X : Type 0} (owns : List X) (slot : ℕ) (own o : X) → slice_get owns slot ≡ Some own
    → slice_get (slice_set owns slot o) slot ≡ Some o
set_same [] slot own o e = cc
set_same (x ∷ xs) zero own o e = refl
set_same (x ∷ xs) (suc slot) own o e = set_same xs slot own o e

pub set_other : {X : Type 0} (owns : List X) (slot other : ℕ) (o : X) → other ≢ slot
    → slice_get (slice_set owns slot o) other ≡ slice_get owns other
set_other [] slot other o apart = refl
set_other (x ∷ xs) zero zero o apart = absurd (apart refl)
set_other (x ∷ xs) zero (suc other) o apart = refl
set_other (x ∷ xs) (suc slot) zero o apart = refl
set_other (x ∷ xs) (suc slot) (suc other) o apart =
    set_other xs slot other o (λ same. apart (ap suc same))

-- the resident of a slot that was looked at
pub slot_found : (home : Homes) (processes : List Process) (slot index : ℕ) (process : Process)
    → length home.owns ≡ length processes → index ≡ slot → true ≡ nat_lt index (length processes)
    → process ≡ slice_index_or processes index process
    → slice_get (zip processes home.owns) slot ≡ Some (process, own_of home slot)
slot_found home processes slot index process n i lt e =
    let h = ltb-true index (length processes) (sym lt) in
    let here = slice_get_read processes (length processes) index process refl h e in
    zip-get processes home.owns slot process (own_of home slot) (rw i at here)
    (slice_get-get_or home.owns slot nobody (omega (arith, n)))

-- and one where there is none
pub slot_missing : (home : Homes) (processes : List Process) (slot index : ℕ) → length home.owns ≡ length processes
    → index ≡ slot → false ≡ nat_lt index (length processes) → slice_get (zip processes home.owns) slot ≡ None
slot_missing home processes slot index n i lt =
    let h = ltb-false index (length processes) (sym lt) in
    slice_get_past (zip processes home.owns) slot (omega (arith, h, length-firsts processes home.owns n))

-- where the process in one slot changes, what is kept of all others holds
pub others_ready : (slot : ℕ) (ready : List Bool) (rs : List Resident) (after : Resident) → TurnsTell ready rs
    → OtherTurnsTell slot ready (slice_set rs slot after)
others_ready slot ready rs after tell other apart =
    rw (set_other rs slot other after apart) (tell other)

-- where it is looked for again in that one, it holds of all
pub noted_ready : (slot : ℕ) (ready : List Bool) (rs : List Resident) (can : Bool) → slot < length ready
    → can ≡ can_turn_in (slice_get rs slot) → OtherTurnsTell slot ready rs → TurnsTell (slice_set ready slot can) rs
noted_ready slot ready rs can within is others other = elim (cases_eq other slot) [
  | inl same ↦ rw (same, get_or-set_same ready slot can false within) is
  | inr apart ↦ rw (get_or-set_other ready slot other can false apart) (others other apart)
]

-- so it does where that process changes, and can have a turn as before
pub still_ready : (slot : ℕ) (ready : List Bool) (rs : List Resident) (before after : Resident)
    → slice_get rs slot ≡ Some before → resident_turns after ≡ resident_turns before → TurnsTell ready rs
    → TurnsTell ready (slice_set rs slot after)
still_ready slot ready rs before after was same tell other = elim (cases_eq other slot) [
  | inl at ↦ rw (at, tell slot, was, set_same rs slot before after was) (sym same)
  | inr apart ↦ others_ready slot ready rs after tell other apart
]

-- past the last process there is none
beyond_all : (processes : List Process) (owns : List Own) (slot : ℕ) → length processes ≤ slot
    → slice_get (zip processes owns) slot ≡ None
beyond_all processes owns slot h =
    slice_get_past (zip processes owns) slot (omega (arith, h, length-zip processes owns))

pub none_beyond : (ready : List Bool) (processes : List Process) (owns : List Own) → TurnsTell ready
    (zip processes owns)
    → NoneBeyond (length processes) ready
none_beyond ready processes owns tell slot h = tell slot ∙ ap can_turn_in (beyond_all processes owns slot h)

pub none_first : (n count : ℕ) → NoneBeyond count (replicate n false)
none_first zero count slot h = refl
none_first (suc n) count zero h = refl
none_first (suc n) count (suc slot) h = none_first n 0 slot (omega arith)

-- slot by slot, up to the last
pub one_more_ready : (slot count : ℕ) (ready : List Bool) (rs : List Resident) (can : Bool) → slot < length ready
    → slot < count → can ≡ can_turn_in (slice_get rs slot) → TellsUpTo slot count ready rs
    → TellsUpTo (slot + 1) count (slice_set ready slot can) rs
one_more_ready slot count ready rs can within below is so_far = record {
  told = λ other h. elim (cases_eq other slot) [
    | inl same ↦ rw (same, get_or-set_same ready slot can false within) is
    | inr apart ↦ rw (get_or-set_other ready slot other can false apart) (so_far.told other (omega arith))
  ];
  beyond = λ other h.
      get_or-set_other ready slot other can false (λ same. omega (arith, same, h, below)) ∙ so_far.beyond other h;
}

pub all_ready : (slot : ℕ) (ready : List Bool) (processes : List Process) (owns : List Own) → length processes ≤ slot
    → TellsUpTo slot (length processes) ready (zip processes owns) → TurnsTell ready (zip processes owns)
all_ready slot ready processes owns past so_far other = elim (cases_lt other (length processes)) [
  | inl below ↦ so_far.told other (omega arith)
  | inr h ↦ so_far.beyond other h ∙ sym (ap can_turn_in (beyond_all processes owns other h))
]
