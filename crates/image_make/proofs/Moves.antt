-- The walk over files that are packed one after another: first the objects of the image, and then those of the file,
-- moved. Bytes at a distance are those of the file (`IsPart`), so sizes, versions and verdicts are the same but for the
-- link; both walks are inductions on the number of objects (`from_part`, `from_front`).
use Rattle.std.proofs.Common.{◌≡◌, ℕ, zero, suc, ◌+◌, ◌-◌, ◌%◌, ◌<◌, ◌≤◌, ◌==◌, nat_lt, nat_le, Bool, true, false}
use Rattle.std.proofs.Common.{cond, inl, inr, List, [], ◌∷◌, ◌++◌, map, length, slice_index, Option, Some, None}
use Rattle.std.proofs.Common.{Ok, Err, refl, ap, ◌∙◌, arith, zero-add}
use Rattle.std.proofs.lemmas.Bool.Decides.{nat_tests}
use Rattle.std.proofs.lemmas.Bool.{cases_Bool}
use Rattle.std.proofs.lemmas.List.{length-take, length-append, get_or-take, get_or_append_left}
use Rattle.std.proofs.lemmas.List.{get_or-append-add}
use Rattle.std.proofs.lemmas.List.Sums.{sum_by-append}
use Rattle.tk_base.specs.declared.limits.TheConstants.{OBJECT_LIMIT}
use Rattle.tbf_headers.specs.declared.program.Main.{Main}
use Rattle.tbf_headers.specs.Numbers.{half}
use Rattle.tbf_headers.specs.Meaning.{Meaning}
use Rattle.tbf_headers.specs.Objects.{object_at}
use Rattle.tbf_headers.specs.Addresses.{after_protected, entry_of, accessible_start, accessible_end_of}
use Rattle.tbf_headers.specs.Parts.{accessible_end}
use Rattle.flash_walk.specs.declared.found.Found.{Found}
use Rattle.flash_walk.specs.declared.found.Verdict.TheVariants.{Disabled, BadEntry, WrongFlash, App}
use Rattle.flash_walk.specs.Image.{size_at, object_bytes, ends_at, objects_from, objects, app_verdict}
use Rattle.flash_walk.specs.Parts.{object_verdict}
use Rattle.flash_walk.specs.Image.{has_bad_entry}
use Rattle.flash_walk.specs.Parts.{is_outside_flash, is_wrong_flash}
use Rattle.image_make.specs.Images.{covered, packed, moved, but_link}
use Rattle.image_make.specs.Laws.{PackedIsWalked, MovedVerdict}
use Rattle.image_make.proofs.Likeness.{half_same, word_same, range_same}
use Rattle.image_make.proofs.Walked.{found_as, ends_of, ends_from, Stands, stands, from_end}
use Rattle.image_make.proofs.Walked.{from_more, from_none}

less_moved : (d a b x y : ℕ) → x ≡ d + a → y ≡ d + b → nat_lt x y ≡ nat_lt a b
less_moved d a b x y e f = grind (arith, nat_tests)

most_moved : (d a b x y : ℕ) → x ≡ d + a → y ≡ d + b → nat_le x y ≡ nat_le a b
most_moved d a b x y e f = grind (arith, nat_tests)

end_moved : (d at total : ℕ) (binary_end : Option ℕ) → d % 4 ≡ 0
    → accessible_end (d + at) total binary_end ≡ d + accessible_end at total binary_end
end_moved d at total None h = omega arith
end_moved d at total (Some e) h = omega arith

outside_moved : (d at : ℕ) (h : Meaning) (m : Main) → d % 4 ≡ 0
    → is_outside_flash (d + at) h m ≡ is_outside_flash at h m
outside_moved d at h m e =
    let end = end_moved d at h.total_size m.binary_end e in
    rw (
      less_moved d (entry_of at h m) (accessible_start at h m) (entry_of (d + at) h m) (accessible_start (d + at) h m)
          (omega arith) (omega arith),
      most_moved d (accessible_end_of at h m) (entry_of at h m) (accessible_end_of (d + at) h m) (entry_of (d + at) h m)
          end (omega arith),
    ) refl

bad_entry_moved : (d at : ℕ) (h : Meaning) (m : Main) → d % 4 ≡ 0 → has_bad_entry (d + at) h m ≡ has_bad_entry at h m
bad_entry_moved d at h m e =
    let odd : entry_of (d + at) h m % 2 ≡ entry_of at h m % 2 = omega arith in
    rw (odd, outside_moved d at h m e) refl

linked : (a b c : Bool) → but_link (cond a Disabled (cond b BadEntry (cond c WrongFlash App)))
    ≡ cond a Disabled (cond b BadEntry App)
linked false false true = refl
linked a b c = refl

app_moved : (d at : ℕ) (h : Meaning) (m : Main) → d % 4 ≡ 0 → but_link (app_verdict (d + at) h m)
    ≡ but_link (app_verdict at h m)
app_moved d at h m e =
    rw (
      linked (h.flags % 2 == 0) (has_bad_entry (d + at) h m) (is_wrong_flash (after_protected (d + at) h m) h.fixed),
      linked (h.flags % 2 == 0) (has_bad_entry at h m) (is_wrong_flash (after_protected at h m) h.fixed),
      bad_entry_moved d at h m e,
    ) refl

object_moved : (d at : ℕ) (h : Meaning) (o : Option Main) → d % 4 ≡ 0
    → but_link (object_verdict (d + at) h o) ≡ but_link (object_verdict at h o)
object_moved d at h None e = refl
object_moved d at h (Some m) e = app_moved d at h m e

pub verdicts_move : MovedVerdict
verdicts_move d at (Err fault) e = refl
verdicts_move d at (Ok h) e = object_moved d at h h.main e

-- an image that from a distance on is the front of a file
pub record IsPart (distance count : ℕ) (file image : List ℕ) : Type 0 where
  pub size : distance + count ≤ length image
  pub most : count ≤ length file
  pub each : (k : ℕ) → k < count → slice_index image (distance + k) ≡ slice_index file k

part_byte : (distance c k q : ℕ) (b w : List ℕ) → IsPart distance c b w → k < c → q ≡ distance + k
    → slice_index w q ≡ slice_index b k
part_byte distance c k q b w part h e = rw e (part.each k h)

pub part_range : (distance c p q s : ℕ) (b w : List ℕ) → IsPart distance c b w → p + s ≤ c → q ≡ distance + p
    → object_at w q s ≡ object_at b p s
part_range distance c p q s b w part h e =
    let size = part.size in
    let most = part.most in
    range_same b w p (p + s) q (q + s) (omega arith)
    (λ k low high. part_byte distance c (p + k) (q + k) b w part (omega arith) (omega arith))

short_ends : (left version size : ℕ) → left < 16 → ends_of left version size ≡ true
short_ends left version size h = grind (arith, nat_tests)

ends_short : (flash : List ℕ) (at : ℕ) → length flash - at < 16 → ends_at flash at ≡ true
ends_short flash at h = short_ends (length flash - at) (half flash at) (size_at flash at) h

covered_cons : (f : Found) (rest : List Found) → covered (f ∷ rest) ≡ f.size + covered rest
covered_cons f rest = let parts = sum_by-append (λ (x : Found). x.size) (f ∷ []) rest in omega arith

pub covered_suc : (n : ℕ) (b : List ℕ) (p : ℕ) → ends_at b p ≡ false
    → covered (objects_from (suc n) b p) ≡ size_at b p + covered (objects_from n b (p + size_at b p))
covered_suc n b p f =
    rw (from_more n b p f) (covered_cons (found_as p (size_at b p) (object_bytes b p))
    (objects_from n b (p + size_at b p)))

-- one object of a part stands in the image
part_step : (k distance c : ℕ) (b w : List ℕ) (p q : ℕ) → IsPart distance c b w → q ≡ distance + p
    → ends_at b p ≡ false → p + size_at b p ≤ c → objects_from (suc k) w q
    ≡ found_as q (size_at b p) (object_bytes b p) ∷ objects_from k w (q + size_at b p)
part_step k distance c b w p q part e f h =
    let s = stands b p f in
    let large = s.large in
    let size = part.size in
    let version : half w q ≡ half b p = half_same b w p q
    (λ j low. part_byte distance c (p + j) (q + j) b w part (omega arith) (omega arith)) in
    let same : size_at w q ≡ size_at b p = word_same b w (p + 4) (q + 4)
    (λ j low. part_byte distance c (p + 4 + j) (q + 4 + j) b w part (omega arith) (omega arith)) in
    let there : Stands (length w - q) (half w q) (size_at w q) = record {
      large = omega arith;
      aligned = rw same s.aligned;
      within = omega arith;
      second = version ∙ s.second;
    } in
    rw (
      from_more k w q (ends_from (length w - q) (half w q) (size_at w q) there),
      same,
      part_range distance c p q (size_at b p) b w part h e,
    ) refl

-- the walk over a part is that over the file, moved
part_end : (m distance c : ℕ) (b w : List ℕ) (p : ℕ) (fs : List Found) → length w ≡ distance + c → c ≡ p + covered fs
    → fs ≡ [] → objects_from m w (distance + p) ≡ map (moved distance b) fs
part_end m distance c b w p fs long e none =
    let nothing : covered fs ≡ 0 = ap covered none in
    rw none (from_end m w (distance + p) (ends_short w (distance + p) (omega arith)))

from_part : (n m distance c : ℕ) (b w : List ℕ) (p : ℕ) → IsPart distance c b w → length w ≡ distance + c
    → c ≡ p + covered (objects_from n b p) → length (objects_from n b p) ≤ m
    → objects_from m w (distance + p) ≡ map (moved distance b) (objects_from n b p)
from_part zero m distance c b w p part long e h =
    part_end m distance c b w p (objects_from zero b p) long e (from_none b p)
from_part (suc n) m distance c b w p part long e h =
    elim (cases_Bool (ends_at b p)) [
      | inl t ↦ part_end m distance c b w p (objects_from (suc n) b p) long e (from_end (suc n) b p t)
      | inr f ↦
          let total = covered_suc n b p f in
          let count = ap length (from_more n b p f) in
          let one : m ≡ suc (m - 1) = omega arith in
          let next : distance + p + size_at b p ≡ distance + (p + size_at b p) = omega arith in
          ap (λ i. objects_from i w (distance + p)) one
          ∙ rw (
            from_more n b p f,
            part_step (m - 1) distance c b w p (distance + p) part refl f (omega arith),
            next,
            from_part n (m - 1) distance c b w (p + size_at b p) part long (omega arith) (omega arith),
          ) refl
    ]

-- an image that is wholly walked is walked first
front_end : (k m : ℕ) (a w : List ℕ) (p : ℕ) (fs : List Found) → fs ≡ [] → k ≡ length fs + m
    → p + covered fs ≡ length a → objects_from k w p ≡ fs ++ objects_from m w (length a)
front_end k m a w p fs none e whole =
    let nothing : covered fs ≡ 0 = ap covered none in
    let few : length fs ≡ 0 = ap length none in
    let same : k ≡ m = omega arith in
    let place : p ≡ length a = omega arith in
    rw (none, same, place) refl

from_front : (n k m : ℕ) (a w : List ℕ) (p : ℕ) → IsPart 0 (length a) a w → k ≡ length (objects_from n a p) + m
    → p + covered (objects_from n a p) ≡ length a → objects_from k w p
    ≡ objects_from n a p ++ objects_from m w (length a)
from_front zero k m a w p front e whole = front_end k m a w p (objects_from zero a p) (from_none a p) e whole
from_front (suc n) k m a w p front e whole =
    elim (cases_Bool (ends_at a p)) [
      | inl t ↦ front_end k m a w p (objects_from (suc n) a p) (from_end (suc n) a p t) e whole
      | inr f ↦
          let total = covered_suc n a p f in
          let count = ap length (from_more n a p f) in
          let one : k ≡ suc (k - 1) = omega arith in
          ap (λ i. objects_from i w p) one
          ∙ rw (
            from_more n a p f,
            part_step (k - 1) 0 (length a) a w p p front (omega arith) f (omega arith),
            from_front n (k - 1) m a w (p + size_at a p) front (omega arith) (omega arith),
          ) refl
    ]

pub covered_within : (n : ℕ) (b : List ℕ) (p : ℕ) → p ≤ length b → p + covered (objects_from n b p) ≤ length b
covered_within zero b p h = rw (from_none b p) (omega arith)
covered_within (suc n) b p h =
    elim (cases_Bool (ends_at b p)) [
      | inl t ↦ rw (from_end (suc n) b p t) (omega arith)
      | inr f ↦
          let s = stands b p f in
          let large = s.large in
          let within = s.within in
          let total = covered_suc n b p f in
          let rest = covered_within n b (p + size_at b p) (omega arith) in
          omega arith
    ]

-- what is packed is as long as the objects
pub length_packed : (file : List ℕ) → length (packed file) ≡ covered (objects file)
unfolding packed
length_packed file =
    let h = covered_within OBJECT_LIMIT file 0 (omega arith) in
    omega (arith, length-take (covered (objects file)) file)

covered_moved : (distance : ℕ) (file : List ℕ) (fs : List Found) → covered (map (moved distance file) fs) ≡ covered fs
covered_moved distance file [] = refl
covered_moved distance file (f ∷ fs) =
    rw (covered_cons f fs, covered_cons (moved distance file f), covered_moved distance file fs) refl

pub packed_part : (image file : List ℕ) → IsPart (length image) (covered (objects file)) file (image ++ packed file)
unfolding packed
packed_part image file = record {
  size = omega (arith, length-append image (packed file), length_packed file);
  most = (let h = covered_within OBJECT_LIMIT file 0 (omega arith) in omega arith);
  each = λ k h. get_or-append-add image (packed file) k 0 ∙ get_or-take (covered (objects file)) file k 0 h;
}

pub packed_front : (image file : List ℕ) → IsPart 0 (length image) image (image ++ packed file)
packed_front image file = record {
  size = omega (arith, length-append image (packed file));
  most = omega arith;
  each = λ k h. rw (zero-add k) (get_or_append_left image (packed file) 0 k h);
}

packed_walked : (image file : List ℕ) → covered (objects image) ≡ length image
    → length (objects image) + length (objects file) ≤ OBJECT_LIMIT → objects (image ++ packed file)
    ≡ objects image ++ map (moved (length image) file) (objects file)
packed_walked image file whole few =
    let m = OBJECT_LIMIT - length (objects image) in
    let here : length image ≡ length image + 0 = omega arith in
    let long = length-append image (packed file) in
    let more = length_packed file in
    from_front OBJECT_LIMIT OBJECT_LIMIT m image (image ++ packed file) 0 (packed_front image file) (omega arith)
    (omega arith)
    ∙ ap (λ q. objects image ++ objects_from m (image ++ packed file) q) here
    ∙ ap (λ xs. objects image ++ xs) (from_part OBJECT_LIMIT m (length image) (covered (objects file)) file
    (image ++ packed file) 0 (packed_part image file) (omega arith) (omega arith) (omega arith))

pub packed_is_walked : PackedIsWalked
packed_is_walked image file whole few =
    let walked = packed_walked image file whole few in
    record {
      walked = walked;
      whole =
          ap covered walked
          ∙ sum_by-append (λ (f : Found). f.size) (objects image) (map (moved (length image) file) (objects file))
          ∙ (let a = covered_moved (length image) file (objects file) in
          let b = length_packed file in
          omega (arith, length-append image (packed file)));
    }
