-- The walk over an image in which one object gets other bytes: it finds the same objects, and at that place the new
-- bytes. By induction on the walk, read as 'the object is the one here, or one behind it': before the object and behind
-- it the image is the same (`IsLike`), and the object's size and version stay, so the walk goes on.
use Rattle.std.proofs.Common.{◌≡◌, ℕ, zero, suc, ◌+◌, ◌-◌, ◌%◌, ◌<◌, ◌≤◌, ◌==◌, nat_lt, ◌||◌, not, Bool, true, false}
use Rattle.std.proofs.Common.{◌⊎◌, inl, inr, List, [], ◌∷◌, ◌++◌, map, length, take, drop, slice_index, Option}
use Rattle.std.proofs.Common.{Some, refl, sym, ap, ◌∙◌, subst, arith}
use Rattle.std.specs.List.{find}
use Rattle.std.proofs.lemmas.Bool.Decides.{nat_tests}
use Rattle.std.proofs.lemmas.Bool.{cases_Bool, eq-eqb, ne_eqb, eqb-true, cond-true, cond-false}
use Rattle.std.proofs.lemmas.List.{length-take, length-drop, length-append, get_or-take, get_or_append_left}
use Rattle.std.proofs.lemmas.List.{get_or-append_right, get_or-drop, take_at, drop_at}
use Rattle.tk_base.specs.declared.access.TheConstants.{FLASH_START}
use Rattle.tk_base.specs.declared.limits.TheConstants.{OBJECT_LIMIT}
use Rattle.tbf_headers.specs.Numbers.{half, word_at}
use Rattle.tbf_headers.specs.Meaning.{header_reading}
use Rattle.tbf_headers.specs.Objects.{object_at}
use Rattle.flash_walk.specs.declared.found.Found.{Found}
use Rattle.flash_walk.specs.Image.{size_at, object_bytes, ends_at, found_at, objects_from, objects, verdict_of}
use Rattle.image_make.specs.Edits.{replaced}
use Rattle.image_make.specs.Images.{found_with_bytes}
use Rattle.image_make.specs.Laws.{OneObjectChanges}
use Rattle.image_make.proofs.Likeness.{IsLike, half_above, half_below, word_above, word_below, range_above, range_below}
use Rattle.image_make.proofs.Likeness.{half_same, word_same}
use Rattle.image_make.proofs.Headers.{some_of_cond}
use Rattle.std.proofs.lemmas.List.Folds.{find_at}
use Rattle.std.proofs.lemmas.List.Sums.{passes_at_first}
use Rattle.std.proofs.lemmas.Option.{get_or_from_slice_get, slice_get_within, none-some}
use Rattle.std.specs.List.{position_or_len}

-- what is found of an object at a place, by its size and its bytes
abbrev pub found_as : ℕ → ℕ → List ℕ → Found
found_as at size bytes =
    record { offset = at; size = size; verdict = verdict_of (FLASH_START + at) (header_reading bytes) }

-- whether no object stands at a place, by how much is left, the version and the size
abbrev pub ends_of : ℕ → ℕ → ℕ → Bool
ends_of left version size =
    nat_lt left 16 || not (version == 2) || nat_lt size 16 || not (size % 4 == 0) || nat_lt left size

-- where an object stands
pub record Stands (left version size : ℕ) : Type 0 where
  pub large : 16 ≤ size
  pub aligned : size % 4 ≡ 0
  pub within : size ≤ left
  pub second : version ≡ 2

pub stands_from : (left version size : ℕ) → ends_of left version size ≡ false → Stands left version size
stands_from left version size h = record {
  large = grind (arith, nat_tests);
  aligned = grind (arith, nat_tests);
  within = grind (arith, nat_tests);
  second = grind (arith, nat_tests);
}

pub ends_from : (left version size : ℕ) → Stands left version size → ends_of left version size ≡ false
ends_from left version size s =
    let a = s.large in let b = s.aligned in let c = s.within in let d = s.second in grind (arith, nat_tests)

pub stands : (flash : List ℕ) (at : ℕ) → ends_at flash at ≡ false
    → Stands (length flash - at) (half flash at) (size_at flash at)
stands flash at h = stands_from (length flash - at) (half flash at) (size_at flash at) h

-- the list from a place on, one object taken apart
pub from_end : (n : ℕ) (flash : List ℕ) (at : ℕ) → ends_at flash at ≡ true → objects_from n flash at ≡ []
unfolding objects_from
from_end zero flash at h = refl
from_end (suc n) flash at h = cond-true _ _ _ h

pub from_more : (n : ℕ) (flash : List ℕ) (at : ℕ) → ends_at flash at ≡ false
    → objects_from (suc n) flash at ≡ found_as at (size_at flash at) (object_bytes flash at) ∷ objects_from n flash
    (at + size_at flash at)
unfolding objects_from found_at
from_more n flash at h = cond-false _ _ _ h

pub from_none : (flash : List ℕ) (at : ℕ) → objects_from zero flash at ≡ []
unfolding objects_from
from_none flash at = refl

ends_same : (xs ys : List ℕ) (at : ℕ) → length ys ≡ length xs → half ys at ≡ half xs at → size_at ys at ≡ size_at xs at
    → ends_at ys at ≡ ends_at xs at
ends_same xs ys at size version total = rw (size, version, total) refl

-- behind what changed the walk is the same
from_above : (n a b : ℕ) (xs ys : List ℕ) (at : ℕ) → IsLike a b xs ys → b ≤ at
    → objects_from n ys at ≡ objects_from n xs at
unfolding objects_from found_at
from_above zero a b xs ys at l h = refl
from_above (suc n) a b xs ys at l h =
    let size = word_above (at + 4) l (omega arith) in
    rw (
      l.size,
      half_above at l h,
      size,
      range_above at (at + size_at xs at) l h,
      from_above n a b xs ys (at + size_at xs at) l (omega arith),
    ) refl

-- the object that is found first, or one behind it
pub record Behind (b : Bool) (x f : Found) (r : Option Found) : Type 0 where
  pub stands : b ≡ false
  pub which : (x ≡ f) ⊎ (r ≡ Some f)

pub first_or_behind : (n : ℕ) (t : Found → Bool) (flash : List ℕ) (at : ℕ) (f : Found)
    → find t (objects_from (suc n) flash at) ≡ Some f → Behind (ends_at flash at)
    (found_as at (size_at flash at) (object_bytes flash at)) f (find t (objects_from n flash (at + size_at flash at)))
first_or_behind n t flash at f e =
    elim (cases_Bool (ends_at flash at)) [
      | inl h ↦ absurd (none-some f (rw (from_end (suc n) flash at h) at e))
      | inr h ↦ record { stands = h; which = some_of_cond _ _ f _ (rw (from_more n flash at h) at e) }
    ]

-- what is found from a place on stands there or behind it
pub record IsFound (flash : List ℕ) (at : ℕ) (f : Found) : Type 0 where
  pub behind : at ≤ f.offset
  pub stands : Stands (length flash - f.offset) (half flash f.offset) (size_at flash f.offset)
  pub same : found_as f.offset (size_at flash f.offset) (object_bytes flash f.offset) ≡ f

pub is_found : (n : ℕ) (t : Found → Bool) (flash : List ℕ) (at : ℕ) (f : Found)
    → find t (objects_from n flash at) ≡ Some f → IsFound flash at f
unfolding objects_from
is_found zero t flash at f e = cc
is_found (suc n) t flash at f e =
    let w = first_or_behind n t flash at f e in
    let s = stands flash at w.stands in
    elim w.which [
      | inl h ↦ subst (IsFound flash at) h (record { behind = omega arith; stands = s; same = refl })
      | inr h ↦
          let later = is_found n t flash (at + size_at flash at) f h in
          record { behind = omega arith; stands = later.stands; same = later.same }
    ]

-- an object before those of a list is no other's
map_beyond : (n : ℕ) (place : ℕ) (object flash : List ℕ) (at : ℕ) → place < at
    → map (found_with_bytes place object) (objects_from n flash at) ≡ objects_from n flash at
map_beyond zero place object flash at h = rw (from_none flash at) refl
map_beyond (suc n) place object flash at h =
    elim (cases_Bool (ends_at flash at)) [
      | inl t ↦ rw (from_end (suc n) flash at t) refl
      | inr f ↦
          rw (
            from_more n flash at f,
            ne_eqb at place (λ e. omega arith),
            map_beyond n place object flash (at + size_at flash at) (omega arith),
          ) refl
    ]

-- an image in which an object got other bytes
record Changed (flash changed : List ℕ) (at size : ℕ) (object : List ℕ) : Type 0 where
  like : IsLike at (at + size) flash changed
  bytes : object_at changed at size ≡ object
  version : half changed at ≡ 2
  total : word_at changed (at + 4) ≡ size

changed_here : (n : ℕ) (flash changed : List ℕ) (at : ℕ) (object : List ℕ) → ends_at flash at ≡ false
    → Changed flash changed at (size_at flash at) object
    → objects_from (suc n) changed at ≡ map (found_with_bytes at object) (objects_from (suc n) flash at)
changed_here n flash changed at object h c =
    let s = stands flash at h in
    rw (
      from_more n changed at (ends_same flash changed at c.like.size (c.version ∙ sym s.second) c.total ∙ h),
      from_more n flash at h,
      c.total,
      c.bytes,
      eq-eqb at at refl,
      from_above n at (at + size_at flash at) flash changed (at + size_at flash at) c.like (omega arith),
      map_beyond n at object flash (at + size_at flash at) (omega arith),
    ) refl

from_changed : (n : ℕ) (t : Found → Bool) (flash changed : List ℕ) (at : ℕ) (f : Found) (object : List ℕ)
    → Changed flash changed f.offset f.size object → find t (objects_from n flash at) ≡ Some f
    → objects_from n changed at ≡ map (found_with_bytes f.offset object) (objects_from n flash at)
unfolding objects_from
from_changed zero t flash changed at f object c e = refl
from_changed (suc n) t flash changed at f object c e =
    let w = first_or_behind n t flash at f e in
    let s = stands flash at w.stands in
    elim w.which [
      | inl h ↦ rw (← h) (changed_here n flash changed at object w.stands (rw (← h) at c))
      | inr h ↦
          let later = is_found n t flash (at + size_at flash at) f h in
          let large = s.large in
          let total = word_below (at + 4) c.like (omega arith) in
          rw (
            from_more n changed at (ends_same flash changed at c.like.size (half_below at c.like (omega arith)) total
                ∙ w.stands),
            from_more n flash at w.stands,
            total,
            range_below at (at + size_at flash at) c.like later.behind,
            ne_eqb at f.offset (λ o. omega arith),
            from_changed n t flash changed (at + size_at flash at) f object c h,
          ) refl
    ]

-- what is found lies in flash
pub found_within : (n : ℕ) (t : Found → Bool) (flash : List ℕ) (at : ℕ) (f : Found)
    → find t (objects_from n flash at) ≡ Some f → (f.offset + f.size ≤ length flash) × (16 ≤ f.size)
found_within n t flash at f e =
    let w = is_found n t flash at f e in
    let size : size_at flash f.offset ≡ f.size = ap (λ (x : Found). x.size) w.same in
    let large = w.stands.large in
    let within = w.stands.within in
    (omega arith, omega arith)

-- what is found passes the test
pub found_passes : (t : Found → Bool) (xs : List Found) (f : Found) → find t xs ≡ Some f → t f ≡ true
found_passes t xs f e =
    let there = sym (find_at t xs) ∙ e in
    subst (λ (x : Found). t x ≡ true) (get_or_from_slice_get xs (position_or_len t xs) f f there)
    (passes_at_first t xs f (slice_get_within xs (position_or_len t xs) f there))

length_replaced : (flash object : List ℕ) (at : ℕ) → at + length object ≤ length flash
    → length (replaced flash at object) ≡ length flash
unfolding replaced
length_replaced flash object at h = simp (length-append, length-take, length-drop) (omega arith)

pub byte_inside : (flash object : List ℕ) (at k p : ℕ) → at ≤ length flash → k < length object → p ≡ at + k
    → slice_index (replaced flash at object) p ≡ slice_index object k
unfolding replaced
byte_inside flash object at k p h small e =
    let front : length (take at flash) ≡ at = (let l = length-take at flash in omega arith) in
    get_or-append_right (take at flash) (object ++ drop (at + length object) flash) at p 0 front (omega arith)
    ∙ get_or_append_left object (drop (at + length object) flash) 0 (p - at) (omega arith)
    ∙ ap (λ i. slice_index object i) (let d : p - at ≡ k = omega arith in d)

pub byte_before : (flash object : List ℕ) (at k : ℕ) → at ≤ length flash → k < at
    → slice_index (replaced flash at object) k ≡ slice_index flash k
unfolding replaced
byte_before flash object at k h low =
    get_or_append_left (take at flash) (object ++ drop (at + length object) flash) 0 k
    (omega (arith, length-take at flash))
    ∙ get_or-take at flash k 0 low

pub byte_after : (flash object : List ℕ) (at k : ℕ) → at + length object ≤ length flash → at + length object ≤ k
    → slice_index (replaced flash at object) k ≡ slice_index flash k
unfolding replaced
byte_after flash object at k h high =
    let front : length (take at flash) ≡ at = (let l = length-take at flash in omega arith) in
    get_or-append_right (take at flash) (object ++ drop (at + length object) flash) at k 0 front (omega arith)
    ∙ get_or-append_right object (drop (at + length object) flash) (length object) (k - at) 0 refl (omega arith)
    ∙ get_or-drop (at + length object) flash (k - at - length object) 0
    ∙ ap (λ i. slice_index flash i) (let d : at + length object + (k - at - length object) ≡ k = omega arith in d)

-- an image that is replaced at a place differs there alone
pub replaced_like : (flash object : List ℕ) (at : ℕ) → at + length object ≤ length flash
    → IsLike at (at + length object) flash (replaced flash at object)
replaced_like flash object at h = record {
  size = length_replaced flash object at h;
  below = λ k low. byte_before flash object at k (omega arith) low;
  above = λ k high. byte_after flash object at k h high;
}

pub object_replaced : (flash object : List ℕ) (at size : ℕ) → at ≤ length flash → length object ≡ size
    → object_at (replaced flash at object) at size ≡ object
unfolding replaced
object_replaced flash object at size h e =
    let front : length (take at flash) ≡ at = (let l = length-take at flash in omega arith) in
    let long : length object ≡ at + size - at = omega arith in
    ap (λ xs. take (at + size - at) xs) (drop_at (take at flash) (object ++ drop (at + length object) flash) at front)
    ∙ take_at object (drop (at + length object) flash) (at + size - at) long

half_inside : (flash object : List ℕ) (at k p : ℕ) → at ≤ length flash → k + 2 ≤ length object → p ≡ at + k
    → half (replaced flash at object) p ≡ half object k
half_inside flash object at k p h small e =
    half_same object (replaced flash at object) k p
    (λ j low. byte_inside flash object at (k + j) (p + j) h (omega arith) (omega arith))

word_inside : (flash object : List ℕ) (at k p : ℕ) → at ≤ length flash → k + 4 ≤ length object → p ≡ at + k
    → word_at (replaced flash at object) p ≡ word_at object k
word_inside flash object at k p h small e =
    word_same object (replaced flash at object) k p
    (λ j low. byte_inside flash object at (k + j) (p + j) h (omega arith) (omega arith))

replaced_changed : (flash object : List ℕ) (at size : ℕ) → at + size ≤ length flash → 16 ≤ size → length object ≡ size
    → half object 0 ≡ 2 → word_at object 4 ≡ size → Changed flash (replaced flash at object) at size object
replaced_changed flash object at size h large e version total = record {
  like = subst (λ (n : ℕ). IsLike at (at + n) flash (replaced flash at object)) e
      (replaced_like flash object at (omega arith));
  bytes = object_replaced flash object at size (omega arith) e;
  version = half_inside flash object at 0 at (omega arith) (omega arith) (omega arith) ∙ version;
  total = word_inside flash object at 4 (at + 4) (omega arith) (omega arith) refl ∙ total;
}

pub one_object_changes : OneObjectChanges
one_object_changes flash object at f found size version total =
    let same : f.offset ≡ at = eqb-true _ _ (found_passes (λ x. x.offset == at) (objects flash) f found) in
    let fits = found_within OBJECT_LIMIT (λ x. x.offset == at) flash 0 f found in
    let changed : Changed flash (replaced flash f.offset object) f.offset f.size object
    = replaced_changed flash object f.offset f.size fits.0 fits.1 size version total in
    subst (λ (p : ℕ). objects_from OBJECT_LIMIT (replaced flash p object) 0
    ≡ map (found_with_bytes p object) (objects_from OBJECT_LIMIT flash 0)) same
    (from_changed OBJECT_LIMIT (λ x. x.offset == at) flash (replaced flash f.offset object) 0 f object changed found)
