-- Tables that are filled slot by slot.
use Rattle.std.proofs.Common.{◌≡◌, ℕ, zero, suc, slice_get, ◌+◌, ◌<◌, ◌≤◌, Bool, List, [], ◌∷◌, ◌++◌, length, map, take}
use Rattle.std.proofs.Common.{slice_index_or}
use Rattle.std.proofs.Common.{find, is_some, true, ◌-◌, Option, None, Some, refl, sym, ap, ◌∙◌, add-one, arith, false}
use Rattle.std.specs.List.{range_with_len}
use Rattle.std.proofs.Math.Seq.{take-suc}
use Rattle.std.proofs.lemmas.List.{length-map, length-set, take_all}
use Rattle.std.proofs.lemmas.List.FromFn.{map-range_with_len_more}
use Rattle.kernel_model.specs.Record.{Record}
use Rattle.kernel_model.specs.Run.{may_go}
use Rattle.kernel_model.specs.Turn.{may_turn}
use Rattle.kernel_model.specs.Named.{can_run}

-- one more of a function of the slots
pub slot_more : {X : Type 0} (f : ℕ → X) (slot named : ℕ) (value : X) (so_far more : List X) → named ≡ slot
    → value ≡ f named → so_far ≡ map f (range_with_len 0 slot) → more ≡ so_far ++ value ∷ []
    → more ≡ map f (range_with_len 0 (slot + 1))
slot_more f slot named value so_far more same is so pushed =
    pushed ∙ ap (λ xs. xs ++ value ∷ []) so
    ∙ ap (λ x. map f (range_with_len 0 slot) ++ x ∷ []) (is ∙ ap f same)
    ∙ sym (map-range_with_len_more f 0 slot slot (let e : 0 + slot ≡ slot = omega arith in e))

-- one more flag of a table
pub flag_more : (flags : List Bool) (slot : ℕ) (flag : Bool) (so_far more : List Bool) → slot < length flags
    → flag ≡ slice_index_or flags slot false → so_far ≡ take slot flags → more ≡ so_far ++ flag ∷ []
    → more ≡ take (slot + 1) flags
flag_more flags slot flag so_far more within is so pushed =
    pushed ∙ ap (λ xs. xs ++ flag ∷ []) so ∙ ap (λ x. take slot flags ++ x ∷ []) is
    ∙ sym (ap (λ k. take k flags) (add-one slot) ∙ take-suc flags slot false within)

-- all of them
pub all_flags : (flags : List Bool) (slot : ℕ) (so_far : List Bool) → length flags ≤ slot → so_far ≡ take slot flags
    → so_far ≡ flags
all_flags flags slot so_far past so = so ∙ take_all slot flags past

-- there are as many flags of those that may go as of all
pub length-may_go : (only : Option ℕ) (flags : List Bool) → length (may_go only flags) ≡ length flags
length-may_go None flags = refl
length-may_go (Some only) flags =
    length-set (map (λ (flag : Bool). false) flags) only (slice_index_or flags only false)
    ∙ length-map flags (λ (flag : Bool). false)

-- what the table of those that can have a turn says of a slot
pub turn_flag : (records : List Record) (slot : ℕ)
    → slice_index_or (map may_turn records) slot false ≡ can_run (slice_get records slot)
turn_flag [] slot = refl
turn_flag (r ∷ rs) zero = refl
turn_flag (r ∷ rs) (suc slot) = turn_flag rs slot

-- the first of a range that passes is found, and none of an empty one
first_found : (p : ℕ → Bool) (from n m : ℕ) → n ≡ suc m → p from ≡ true → is_some (find p (range_with_len from n)) ≡
    true
first_found p from n m e f = rw (e, f) refl

pub found_here : (p : ℕ → Bool) (slot to : ℕ) → slot < to → p slot ≡ true
    → is_some (find p (range_with_len slot (to - slot))) ≡ true
found_here p slot to h f = first_found p slot (to - slot) (to - (slot + 1)) (omega arith) f

pub none_past : (p : ℕ → Bool) (slot to : ℕ) → to ≤ slot → is_some (find p (range_with_len slot (to - slot))) ≡ false
none_past p slot to h =
    let none : to - slot ≡ 0 = omega arith in ap (λ n. is_some (find p (range_with_len slot n))) none
