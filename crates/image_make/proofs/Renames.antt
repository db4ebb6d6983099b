-- What another package name of the same rounded length leaves of a header's elements: each begins where it did, with
-- the same type, and all but the name have the same content. By induction on the places: before the name nothing
-- changed, at the name the length rounds to the same, and behind it all is as before (`Kept`).
use Rattle.std.proofs.Common.{◌≡◌, ℕ, zero, suc, ◌+◌, ◌-◌, ◌*◌, ◌%◌, ◌<◌, ◌≤◌, ◌==◌, nat_lt, ◌&&◌, ◌||◌, Bool}
use Rattle.std.proofs.Common.{true, false, cond, ◌⊎◌, inl, inr, List, ◌++◌, length, take, drop, replicate}
use Rattle.std.proofs.Common.{slice_index, slice_range, Option, Some, None, Ok, refl, sym, ap, ◌∙◌, subst}
use Rattle.std.proofs.Common.{arith}
use Rattle.std.specs.List.{find}
use Rattle.std.proofs.lemmas.Bool.Decides.{nat_tests}
use Rattle.std.proofs.lemmas.Bool.{cases_lt, eqb-true, ltb-false, or_parts}
use Rattle.std.proofs.lemmas.List.{length-take, length-append, length-replicate, get_or-drop, get_or_past}
use Rattle.std.proofs.lemmas.List.{get_or-replicate, get_or_append_left, get_or-append_right, take-append-le, take_at}
use Rattle.std.proofs.lemmas.List.{drop_at}
use Rattle.tk_base.specs.declared.access.Width.TheVariants.{Half}
use Rattle.tk_base.specs.Bus.{put}
use Rattle.tk_base.specs.Numbers.{rounded_up}
use Rattle.tk_base.specs.Laws.{AStoreIsPut}
use Rattle.tbf_headers.specs.Numbers.{half}
use Rattle.tbf_headers.specs.Tlv.{length_at, least_length, is_bad, first_of, content}
use Rattle.tbf_headers.specs.Parts.{type_at, is_of_type, first_bad}
use Rattle.tbf_headers.specs.Tlv.{tlv_places, tlv_places_from}
use Rattle.tbf_headers.specs.Parts.{place_after}
use Rattle.tbf_headers.specs.Meaning.{Meaning, header_reading, header_of}
use Rattle.tbf_headers.proofs.Places.{places_from-suc, find_passes, IsGood-first}
use Rattle.image_make.specs.Edits.{replaced, padded, renamed}
use Rattle.image_make.specs.Parts.{name_place}
use Rattle.image_make.specs.Laws.{AreBytes, NamesAreRead}
use Rattle.image_make.specs.Outcomes.{IsNamePlace}
use Rattle.image_make.proofs.Likeness.{IsLike, half_above, half_below, word_below, range_above, range_below, take_like}
use Rattle.image_make.proofs.Likeness.{like_join, like_wider, put_like, half_put, half_take, range_take}
use Rattle.image_make.proofs.Headers.{option_map_same, find_from, find_like, is_bad_like, some_of_cond, first_or_later}
use Rattle.image_make.proofs.Readings.{IsWell, sized, sizes_same, sound_where_read, mended_reading, meaning_named}
use Rattle.image_make.proofs.Readings.{take_bytes, put_bytes}
use Rattle.image_make.proofs.Walked.{replaced_like}

-- the rest of the places holds the same in both headers, but for what stands at one place
record Kept (n at : ℕ) (h g : List ℕ) (q : ℕ) : Type 0 where
  good : find (is_bad g) (tlv_places_from n g q) ≡ None
  first : (kind : ℕ)
      → find (is_of_type kind g) (tlv_places_from n g q) ≡ find (is_of_type kind h) (tlv_places_from n h q)
  content : (kind p : ℕ) → find (is_of_type kind h) (tlv_places_from n h q) ≡ Some p
      → (p ≡ at) ⊎ (slice_range g (p + 4) (p + 4 + length_at g p) ≡ slice_range h (p + 4) (p + 4 + length_at h p))

-- behind what changed
kept_behind : (n at b : ℕ) (h g : List ℕ) (q : ℕ) → IsLike 0 b h g → b ≤ q
    → find (is_bad h) (tlv_places_from n h q) ≡ None
    → Kept n at h g q
kept_behind n at b h g q l from good = record {
  good = find_like b n (is_bad h) (is_bad g) h g q l from (λ p low. is_bad_like b h g p l low) ∙ good;
  first = λ kind. find_like b n (is_of_type kind h) (is_of_type kind g) h g q l from
      (λ p low. ap (λ k. k == kind) (half_above p l low));
  content = λ kind p found. inr (
      let low = find_from n (is_of_type kind h) h q p found in
      ap (λ k. slice_range g (p + 4) (p + 4 + k)) (half_above (p + 2) l (omega arith))
      ∙ range_above (p + 4) (p + 4 + length_at h p) l (omega arith));
}

-- one place more
kept_more : (n at : ℕ) (h g : List ℕ) (q : ℕ) → q < length h → length g ≡ length h → is_bad g q ≡ false
    → type_at g q ≡ type_at h q → place_after g q ≡ place_after h q
    → (q ≡ at) ⊎ (slice_range g (q + 4) (q + 4 + length_at g q) ≡ slice_range h (q + 4) (q + 4 + length_at h q))
    → Kept n at h g (place_after h q) → Kept (suc n) at h g q
kept_more n at h g q low size good kind next here rest =
    let ph = places_from-suc n h q low in
    let pg = places_from-suc n g q (omega arith) in
    record {
      good = rw (pg, next, good) rest.good;
      first = λ k. rw (pg, ph, next, kind, rest.first k) refl;
      content = λ k p found.
          elim (some_of_cond (type_at h q == k) q p _ (rw ph at found)) [
            | inl e ↦ rw (← e) here
            | inr e ↦ rest.content k p e
          ];
    }

-- a header in which the element at a place got another content of the same rounded length
record Renames (at : ℕ) (name h g : List ℕ) : Type 0 where
  like : IsLike (at + 2) (at + 4 + rounded_up (length_at h at)) h g
  new : half g (at + 2) ≡ length name
  rounded : rounded_up (length name) ≡ rounded_up (length_at h at)
  bytes : slice_range g (at + 4) (at + 4 + length name) ≡ name
  kind : type_at h at ≡ 3
  fits : at + 4 + rounded_up (length_at h at) ≤ length h

-- whether an element is bad, by its numbers
abbrev fault_of : ℕ → ℕ → ℕ → ℕ → ℕ → ℕ → Bool
fault_of size at kind long count least = nat_lt size (at + 4 + long) || nat_lt long least
    || (kind == 6 && nat_lt long (2 + 16 * count))

-- a fault that is missed where the count is another, of an element that does not count
other_count : (size at kind long count other least : ℕ) → (kind ≡ 6 → count ≡ other)
    → fault_of size at kind long count least ≡ false → fault_of size at kind long other least ≡ false
other_count size at kind long count other least same h = grind (arith, nat_tests)

-- an element that counts has room for its count
counts : (size at kind long count : ℕ) → kind ≡ 6 → fault_of size at kind long count (least_length kind) ≡ false
    → 2 ≤ long
counts size at kind long count e h =
    let parts = or_parts _ _ h in
    let sizes = or_parts _ _ parts.0 in
    subst (λ (k : ℕ). least_length k ≤ long) e (ltb-false _ _ sizes.1)

no_fault : (size at long count : ℕ) → at + 4 + long ≤ size → fault_of size at 3 long count 0 ≡ false
no_fault size at long count h = grind (arith, nat_tests)

-- before what changed
fine_before : (at : ℕ) (name h g : List ℕ) (q : ℕ) → Renames at name h g → place_after h q ≤ at → is_bad h q ≡ false
    → is_bad g q ≡ false
fine_before at name h g q r before good =
    let l = r.like in
    let type = half_below q l (omega arith) in
    let long = half_below (q + 2) l (omega arith) in
    rw (l.size, type, long) (other_count (length h) q (type_at h q) (length_at h q) (half h (q + 4)) (half g (q + 4))
    (least_length (type_at h q)) (λ six.
    let two = counts (length h) q (type_at h q) (length_at h q) (half h (q + 4)) six good in
    sym (half_below (q + 4) l (omega arith))) good)

-- at the place itself
fine_here : (at : ℕ) (name h g : List ℕ) → Renames at name h g → is_bad g at ≡ false
fine_here at name h g r =
    let size = r.like.size in
    let new = r.new in
    let same = r.rounded in
    let fits = r.fits in
    rw (half_below at r.like (omega arith), r.kind)
    (no_fault (length g) at (length_at g at) (half g (at + 4)) (omega arith))

next_here : (at : ℕ) (name h g : List ℕ) → Renames at name h g → place_after g at ≡ place_after h at
next_here at name h g r =
    rw (r.new, r.rounded) refl

none_of_cond : (b : Bool) (x : ℕ) (r : Option ℕ) → cond b (Some x) r ≡ None → (b ≡ false) × (r ≡ None)
none_of_cond true x r e = cc
none_of_cond false x r e = (refl, e)

-- from each place before the name on, all is kept
kept_from : (n at : ℕ) (name h g : List ℕ) (q : ℕ) → Renames at name h g
    → find (is_of_type 3 h) (tlv_places_from n h q) ≡ Some at → find (is_bad h) (tlv_places_from n h q) ≡ None
    → Kept n at h g q
unfolding tlv_places_from
kept_from zero at name h g q r found good = cc
kept_from (suc n) at name h g q r found good =
    let w = first_or_later n (is_of_type 3 h) h q at found in
    let bad = none_of_cond (is_bad h q) q _ (rw (places_from-suc n h q w.0) at good) in
    let l = r.like in
    elim w.1 [
      | inl here ↦
          kept_more n at h g q w.0 l.size (rw here (fine_here at name h g r)) (half_below q l (omega arith))
          (rw here (next_here at name h g r)) (inl here)
          (kept_behind n at (at + 4 + rounded_up (length_at h at)) h g (place_after h q)
          (like_wider 0 (at + 4 + rounded_up (length_at h at)) (omega arith) (omega arith) l)
          (rw here (omega arith)) bad.1)
      | inr later ↦
          let before = find_from n (is_of_type 3 h) h (place_after h q) at later in
          let long = half_below (q + 2) l (omega arith) in
          kept_more n at h g q w.0 l.size (fine_before at name h g q r before bad.0) (half_below q l (omega arith))
          (rw long refl) (inr (rw long (range_below (q + 4) (q + 4 + length_at h q) l (omega arith))))
          (kept_from n at name h g (place_after h q) r later bad.1)
    ]

first_of_kept : (at kind : ℕ) (h g : List ℕ) → length g ≡ length h → Kept (length h - 16) at h g 16
    → first_of kind g ≡ first_of kind h
first_of_kept at kind h g size k =
    rw size (k.first kind)

first_bad_kept : (at : ℕ) (h g : List ℕ) → length g ≡ length h → Kept (length h - 16) at h g 16 → first_bad g ≡ None
first_bad_kept at h g size k = rw size k.good

-- another content is kept
content_kept : (at kind : ℕ) (name h g : List ℕ) → Renames at name h g → Kept (length h - 16) at h g 16
    → (kind ≡ 3 → ⊥) → content kind g ≡ content kind h
content_kept at kind name h g r k other =
    rw (first_of_kept at kind h g r.like.size k)
    (option_map_same (λ p. slice_range g (p + 4) (p + 4 + length_at g p))
    (λ p. slice_range h (p + 4) (p + 4 + length_at h p)) (first_of kind h) (λ p found.
    elim (k.content kind p found) [
      | inl e ↦ absurd (other (sym (eqb-true _ _ (find_passes (is_of_type kind h) (tlv_places h) p found))
          ∙ rw (e, r.kind) refl))
      | inr e ↦ e
    ]))

-- the name's is the new one
content_new : (at : ℕ) (name h g : List ℕ) → Renames at name h g → Kept (length h - 16) at h g 16
    → first_of 3 h ≡ Some at → content 3 g ≡ Some name
content_new at name h g r k found =
    rw (first_of_kept at 3 h g r.like.size k, found, r.new, r.bytes) refl

append_bytes : (xs ys : List ℕ) → AreBytes xs → AreBytes ys → AreBytes (xs ++ ys)
append_bytes xs ys a b k =
    elim (cases_lt k (length xs)) [
      | inl h ↦ let e = get_or_append_left xs ys 0 k h in let x = a k in omega arith
      | inr h ↦ let e = get_or-append_right xs ys (length xs) k 0 refl h in let x = b (k - length xs) in omega arith
    ]

pub drop_bytes : (n : ℕ) (xs : List ℕ) → AreBytes xs → AreBytes (drop n xs)
drop_bytes n xs a k = let e = get_or-drop n xs k 0 in let x = a (n + k) in omega arith

zero_bytes : (n : ℕ) → AreBytes (replicate n 0)
zero_bytes n k =
    elim (cases_lt k n) [
      | inl h ↦ let e : slice_index (replicate n 0) k ≡ 0 = get_or-replicate n k 0 0 h in omega arith
      | inr h ↦ let e : slice_index (replicate n 0) k ≡ 0 = get_or_past (replicate n 0) k 0
          (let l : length (replicate n 0) ≡ n = length-replicate {A = ℕ} n 0 in omega arith) in omega arith
    ]

replaced_bytes : (xs object : List ℕ) (at : ℕ) → AreBytes xs → AreBytes object → AreBytes (replaced xs at object)
unfolding replaced
replaced_bytes xs object at a b = append_bytes (take at xs) (object ++ drop (at + length object) xs)
    (take_bytes at xs a) (append_bytes object (drop (at + length object) xs) b (drop_bytes (at + length object) xs a))

pub length_padded : (name : List ℕ) → length (padded name) ≡ rounded_up (length name)
length_padded name =
    let zeros : List ℕ = replicate (rounded_up (length name) - length name) 0 in
    let count : length zeros ≡ rounded_up (length name) - length name
    = length-replicate {A = ℕ} (rounded_up (length name) - length name) 0 in
    omega (arith, length-append name zeros)

-- where an element is found
record Place (h : List ℕ) (q p : ℕ) : Type 0 where
  from : q ≤ p
  aligned : p % 4 ≡ 0
  below : p < length h

place_found : (n : ℕ) (t : ℕ → Bool) (h : List ℕ) (q p : ℕ) → q % 4 ≡ 0 → find t (tlv_places_from n h q) ≡ Some p
    → Place h q p
unfolding tlv_places_from
place_found zero t h q p a e = cc
place_found (suc n) t h q p a e =
    let w = first_or_later n t h q p e in
    let low = w.0 in
    elim w.1 [
      | inl here ↦ record { from = omega arith; aligned = omega arith; below = omega arith }
      | inr later ↦
          let r = place_found n t h (place_after h q) p (omega arith) later in
          record { from = omega arith; aligned = r.aligned; below = r.below }
    ]

-- the name at the start of what stands there
name_inside : (xs name : List ℕ) (at : ℕ) → at ≤ length xs → slice_range (replaced xs at (padded name)) at
    (at + length name) ≡ name
unfolding replaced
name_inside xs name at h =
    let front : length (take at xs) ≡ at = (let l = length-take at xs in omega arith) in
    let long : length name ≡ at + length name - at = omega arith in
    let zeros : List ℕ = replicate (rounded_up (length name) - length name) 0 in
    ap (λ ys. take (at + length name - at) ys) (drop_at (take at xs)
    (padded name ++ drop (at + length (padded name)) xs) at front)
    ∙ take-append-le (at + length name - at) (padded name) (drop (at + length (padded name)) xs)
    (omega (arith, length_padded name))
    ∙ take_at name zeros (at + length name - at) long

-- where the name of an object stands
record NameStands (object : List ℕ) (at : ℕ) : Type 0 where
  low : 16 ≤ at
  size : length (header_of object) ≡ half object 2
  whole : half object 2 ≤ length object
  kind : type_at (header_of object) at ≡ 3
  fits : at + 4 + rounded_up (length_at (header_of object) at) ≤ half object 2

name_stands : (object : List ℕ) (at : ℕ) → IsWell object → name_place object ≡ Some at → NameStands object at
name_stands object at w place =
    let h = header_of object in
    let s = sized object w in
    let a = s.within in
    let b = s.whole in
    let c = s.aligned in
    let size : length h ≡ half object 2 = omega (arith, length-take (half object 2) object) in
    let found = place_found (length h - 16) (is_of_type 3 h) h 16 at refl place in
    let good = IsGood-first 3 h at w.good place in
    record {
      low = found.from;
      size = size;
      whole = omega arith;
      kind = eqb-true _ _ (find_passes (is_of_type 3 h) (tlv_places h) at place);
      fits = (let d = found.aligned in let e = good.fits in omega arith);
    }

-- a name of the same rounded length fits at its place
pub name_fits : (object name : List ℕ) (at : ℕ) (m : Meaning) → header_reading object ≡ Ok m
    → name_place object ≡ Some at
    → rounded_up (length name) ≡ rounded_up (length_at (header_of object) at) → IsNamePlace object name at
name_fits object name at m read place same =
    let there = name_stands object at (sound_where_read object m read).0.well place in
    record { low = there.low; fits = rw same there.fits }

-- an object and what it is with another name but the old checksum
pub record Named (object changed name : List ℕ) (at : ℕ) : Type 0 where
  pub low : 16 ≤ at
  pub like : IsLike (at + 2) (at + 4 + rounded_up (length_at (header_of object) at)) object changed
  renames : Renames at name (header_of object) (header_of changed)
  pub bytes : AreBytes changed

pub named : AStoreIsPut → (object name : List ℕ) (at : ℕ) → AreBytes object → AreBytes name → length name < 65536
    → IsWell object → name_place object ≡ Some at → rounded_up (length name)
    ≡ rounded_up (length_at (header_of object) at) → Named object
    (replaced (put object (at + 2) Half (length name)) (at + 4) (padded name)) name at
named stores object name at bytes letters short w place same =
    let p = put object (at + 2) Half (length name) in
    let changed = replaced p (at + 4) (padded name) in
    let there = name_stands object at w place in
    let low = there.low in
    let whole = there.whole in
    let size = there.size in
    let fits = there.fits in
    let lp = length_padded name in
    let end = at + 4 + rounded_up (length_at (header_of object) at) in
    let put : IsLike (at + 2) (at + 2 + 2) object p =
    put_like stores object (at + 2) Half (length name) (omega arith) in
    let size_p = put.size in
    let two : IsLike (at + 4) (at + 4 + length (padded name)) p changed
    = replaced_like p (padded name) (at + 4) (omega arith) in
    let like : IsLike (at + 2) end object changed =
    like_join (like_wider (at + 2) end (omega arith) (omega arith) put)
    (like_wider (at + 2) end (omega arith) (omega arith) two) in
    let size_c = like.size in
    record {
      low = low;
      like = like;
      renames = rw (half_below 2 like (omega arith)) (record {
        like = take_like (half object 2) like;
        new =
            half_take (half object 2) changed (at + 2) (omega arith) ∙ half_below (at + 2) two (omega arith)
            ∙ half_put stores object (at + 2) (length name) (omega arith) short;
        rounded = same;
        bytes = range_take (half object 2) changed (at + 4) (at + 4 + length name) (omega arith) (omega arith)
            ∙ name_inside p name (at + 4) (omega arith);
        kind = there.kind;
        fits = omega arith;
      });
      bytes = replaced_bytes p (padded name) (at + 4) (put_bytes stores object (at + 2) Half (length name)
          (omega arith) bytes) (append_bytes name (replicate (rounded_up (length name) - length name) 0) letters
          (zero_bytes (rounded_up (length name) - length name)));
    }

named_well : (object changed name : List ℕ) (at : ℕ) → Named object changed name at → IsWell object
    → Kept (length (header_of object) - 16) at (header_of object) (header_of changed) 16
    → length (header_of changed) ≡ length (header_of object) → IsWell changed
named_well object changed name at c w k size =
    let l = c.like in
    let low = c.low in
    record {
      long = rw l.size w.long;
      version = rw (half_below 0 l (omega arith)) w.version;
      sizes = sizes_same object changed l.size (half_below 2 l (omega arith)) (word_below 4 l (omega arith)) ∙ w.sizes;
      good = first_bad_kept at (header_of object) (header_of changed) size k;
    }

pub names_are_read : AStoreIsPut → NamesAreRead
unfolding renamed
names_are_read stores object name at m bytes letters short read place same =
    let s = sound_where_read object m read in
    let changed = replaced (put object (at + 2) Half (length name)) (at + 4) (padded name) in
    let c = named stores object name at bytes letters short s.0.well place same in
    let h = header_of object in
    let k = kept_from (length h - 16) at name h (header_of changed) 16 c.renames place s.0.well.good in
    let low = c.low in
    mended_reading stores changed c.bytes (named_well object changed name at c s.0.well k c.renames.like.size)
    ∙ rw (
      meaning_named object changed name (half_below 2 c.like (omega arith)) (word_below 4 c.like (omega arith))
          (word_below 8 c.like (omega arith)) (content_new at name h (header_of changed) c.renames k place)
          (λ kind other. content_kept at kind name h (header_of changed) c.renames k other),
      s.1,
    ) refl
