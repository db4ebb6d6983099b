-- What the calls that edit an image, and that which packs a file, leave of it as it is walked.
use Rattle.std.proofs.Common.{◌≡◌, ◌≤◌, ◌+◌, ◌&&◌, ℕ, Bool, true, false, cond, nat_le, nat_lt, List, length, Option}
use Rattle.std.proofs.Common.{None, Some}
use Rattle.std.proofs.Common.{Result, Ok, Err, refl, sym, subst, arith}
use Rattle.std.specs.Prelude.{IsSomeAnd}
use Rattle.std.specs.List.{list_all}
use Rattle.std.specs.Option.{option_map_or}
use Rattle.std.proofs.lemmas.Bool.{false≢true, leb-true, ltb-false}
use Rattle.tk_base.specs.declared.limits.TheConstants.{FLASH_LIMIT, OBJECT_LIMIT}
use Rattle.flash_walk.specs.declared.found.Found.{Found}
use Rattle.flash_walk.specs.Image.{objects}
use Rattle.image_make.specs.declared.edits.EditFault.{EditFault}
use Rattle.image_make.specs.declared.edits.EditFault.TheVariants.{Length, Name, NoObject}
use Rattle.image_make.specs.declared.packs.PackFault.TheVariants.{Objects, Size}
use Rattle.image_make.specs.Edited.{EnabledIsWalked, GivenIsWalked, IsEnabled, IsGiven, LeavesEnabled, LeavesGiven}
use Rattle.image_make.specs.Images.{covered}
use Rattle.image_make.specs.Laws.{AreBytes, PackedIsWalked}
use Rattle.image_make.specs.Outcomes.{enabled, enabling, found_bytes, may_name, place_for, renaming, sound_found}
use Rattle.image_make.specs.Outcomes.{with_name}
use Rattle.image_make.specs.Packs.{IsPacked, PacksBehind}

same_ok : {x y : List ℕ} → ◌≡◌ {A = Result (List ℕ) EditFault} (Ok x) (Ok y) → x ≡ y
same_ok e = cc

pub enabled_leaves : EnabledIsWalked → (on : Bool) (offset : ℕ) (flash after : List ℕ) → AreBytes flash
    → enabling on offset flash ≡ Ok after → LeavesEnabled on offset flash after
enabled_leaves law on offset flash after bytes e = by_found (sound_found offset (objects flash)) refl e
  where
    by_found : (o : Option Found) → sound_found offset (objects flash) ≡ o
        → option_map_or (λ f. Ok (enabled on flash f)) o (Err NoObject) ≡ Ok after
        → IsSomeAnd (sound_found offset (objects flash)) (λ f. (after ≡ enabled on flash f) × IsEnabled on flash f)
    by_found None is e = absurd (cc)
    by_found (Some f) is e =
        subst (λ (o : Option Found). IsSomeAnd o (λ f. (after ≡ enabled on flash f) × IsEnabled on flash f)) (sym is)
        (sym (same_ok e), law on flash offset f bytes is)

-- a name that may be given has 32 bytes at most
is_short : (a b c : Bool) → (a && b && c) ≡ true → b ≡ true
is_short true true c e = refl
is_short true false c e = absurd (false≢true e)
is_short false b c e = absurd (false≢true e)

pub given_leaves : GivenIsWalked → (name : List ℕ) (offset : ℕ) (flash after : List ℕ) → AreBytes flash → AreBytes name
    → renaming name offset flash ≡ Ok after → LeavesGiven name offset flash after
given_leaves law name offset flash after bytes letters e = by_found (sound_found offset (objects flash)) refl e
  where
    by_place : (f : Found) → sound_found offset (objects flash) ≡ Some f → length name ≤ 32 → (o : Option ℕ)
        → place_for name (found_bytes f flash) ≡ o
        → option_map_or (λ at. Ok (with_name name flash f at)) o (Err Length) ≡ Ok after
        → IsSomeAnd (place_for name (found_bytes f flash)) (λ at.
        (after ≡ with_name name flash f at) × IsGiven name flash f at)
    by_place f is few None there e = absurd (cc)
    by_place f is few (Some at) there e =
        subst (λ (o : Option ℕ). IsSomeAnd o (λ at. (after ≡ with_name name flash f at) × IsGiven name flash f at))
        (sym there) (sym (same_ok e), law name flash offset f at bytes letters few is there)

    by_name : (f : Found) → sound_found offset (objects flash) ≡ Some f → (b : Bool) → may_name name ≡ b
        → cond b (option_map_or (λ at. Ok (with_name name flash f at)) (place_for name (found_bytes f flash)) (Err
        Length))
        (Err Name) ≡ Ok after
        → IsSomeAnd (place_for name (found_bytes f flash)) (λ at.
        (after ≡ with_name name flash f at) × IsGiven name flash f at)
    by_name f is true may e =
        let few = leb-true (length name) 32 (is_short (nat_le 1 (length name)) (nat_le (length name) 32)
        (list_all (λ byte. nat_le 0x21 byte && nat_le byte 0x7E) name) may) in
        by_place f is few (place_for name (found_bytes f flash)) refl e
    by_name f is false may e = absurd (cc)

    by_found : (o : Option Found) → sound_found offset (objects flash) ≡ o
        → option_map_or (λ f. cond (may_name name)
        (option_map_or (λ at. Ok (with_name name flash f at)) (place_for name (found_bytes f flash)) (Err Length))
        (Err Name)) o (Err NoObject) ≡ Ok after
        → LeavesGiven name offset flash after
    by_found None is e = absurd (cc)
    by_found (Some f) is e =
        subst (λ (o : Option Found). IsSomeAnd o (λ f. IsSomeAnd (place_for name (found_bytes f flash)) (λ at.
        (after ≡ with_name name flash f at) × IsGiven name flash f at))) (sym is)
        (by_name f is (may_name name) refl e)

-- a file that is packed
not_many : (a b : Bool) → cond a (Some Objects) (cond b (Some Size) None) ≡ None → a ≡ false
not_many true b e = absurd (cc)
not_many false b e = refl

pub packs_behind : PackedIsWalked → (n m : ℕ) (xs file ys : List ℕ) → IsPacked n xs file m ys → PacksBehind n xs file
packs_behind law n m xs file ys packed few whole =
    let below : n + length (objects file) ≤ OBJECT_LIMIT =
    ltb-false OBJECT_LIMIT (n + length (objects file)) (not_many (nat_lt OBJECT_LIMIT (n + length (objects file)))
    (nat_lt FLASH_LIMIT (length xs + covered (objects file))) packed.free) in
    law xs file whole (omega (arith, below, few))
