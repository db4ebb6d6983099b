-- What is known of an object that is found and not bad.
use Rattle.std.proofs.Common.{◌≡◌, ℕ, ◌+◌, ◌-◌, ◌≤◌, ◌==◌, Bool, true, false, cond, List}
use Rattle.std.proofs.Common.{◌++◌, length, take, drop, slice_index, Option, Some, None, option_and_then, Result, Ok}
use Rattle.std.proofs.Common.{Err, refl, sym, ap, ◌∙◌, arith}
use Rattle.std.proofs.lemmas.List.{length-take, length-drop, get_or-take, get_or-drop, drop-drop}
use borrow.Rule.Slice.PartMut.{put_mid}
use Rattle.tk_base.specs.declared.access.TheConstants.{FLASH_START}
use Rattle.tk_base.specs.declared.limits.TheConstants.{OBJECT_LIMIT}
use Rattle.tbf_headers.specs.declared.fault.HeaderFault.{HeaderFault}
use Rattle.tbf_headers.specs.Numbers.{half, word_at}
use Rattle.tbf_headers.specs.Meaning.{Meaning, header_reading}
use Rattle.tbf_headers.specs.Objects.{object_at}
use Rattle.flash_walk.specs.declared.found.Found.{Found}
use Rattle.flash_walk.specs.Image.{size_at, objects, verdict_of}
use Rattle.image_make.specs.Edits.{replaced}
use Rattle.image_make.specs.Parts.{object_found}
use Rattle.image_make.specs.Outcomes.{has_fault, sound_found, found_bytes, IsSoundObject}
use Rattle.image_make.specs.Parts.{unless_faulty}
use Rattle.image_make.proofs.Readings.{sized, sound_where_read, read_where_sound}
use Rattle.image_make.proofs.Walked.{found_within, is_found}
use Rattle.image_make.proofs.Likeness.{half_same, word_same}

-- a verdict that is not bad is on a header that is read
read_of : (start : ℕ) (r : Result Meaning HeaderFault) → has_fault (verdict_of start r) ≡ false
    → (m : Meaning) × (r ≡ Ok m)
read_of start (Err fault) h = cc
read_of start (Ok m) h = (m, refl)

half_part : (xs : List ℕ) (a n k : ℕ) → k + 2 ≤ n → half (take n (drop a xs)) k ≡ half xs (a + k)
half_part xs a n k h =
    half_same xs (take n (drop a xs)) (a + k) k (λ j low.
    get_or-take n (drop a xs) (k + j) 0 (omega arith) ∙ get_or-drop a xs (k + j) 0
    ∙ ap (slice_index xs) (omega arith))

word_part : (xs : List ℕ) (a n k : ℕ) → k + 4 ≤ n → word_at (take n (drop a xs)) k ≡ word_at xs (a + k)
word_part xs a n k h =
    word_same xs (take n (drop a xs)) (a + k) k (λ j low.
    get_or-take n (drop a xs) (k + j) 0 (omega arith) ∙ get_or-drop a xs (k + j) 0
    ∙ ap (slice_index xs) (omega arith))

some_unless : (b : Bool) (x f : Found) → cond b None (Some x) ≡ Some f → (b ≡ false) × (x ≡ f)
some_unless true x f e = cc
some_unless false x f e = (refl, cc)

unless_bad_is : (o : Option Found) (f : Found) → option_and_then unless_faulty o ≡ Some f
    → (o ≡ Some f) × (has_fault f.verdict ≡ false)
unless_bad_is None f e = cc
unless_bad_is (Some x) f e =
    let parts = some_unless (has_fault x.verdict) x f e in
    (ap Some parts.1, ap (λ (y : Found). has_fault y.verdict) (sym parts.1) ∙ parts.0)

pub sound_here : (flash : List ℕ) (at : ℕ) (f : Found) → object_found at (objects flash) ≡ Some f
    → has_fault f.verdict ≡ false → IsSoundObject flash f
sound_here flash at f found good =
    let fits = found_within OBJECT_LIMIT (λ x. x.offset == at) flash 0 f found in
    let there = is_found OBJECT_LIMIT (λ x. x.offset == at) flash 0 f found in
    let size : size_at flash f.offset ≡ f.size = ap (λ (x : Found). x.size) there.same in
    let verdict = ap (λ (x : Found). x.verdict) there.same in
    let some = read_of (FLASH_START + f.offset) (header_reading (object_at flash f.offset f.size))
    (rw (← size) (ap has_fault verdict ∙ good)) in
    let inside = fits.0 in
    let big = fits.1 in
    let cut : f.offset + f.size - f.offset ≡ f.size = omega arith in
    let long : length (found_bytes f flash) ≡ f.size = simp (length-take, length-drop) (omega arith) in
    let read = sound_where_read (found_bytes f flash) some.0 some.1 in
    let s = sized (found_bytes f flash) read.0.well in
    let whole = s.whole in
    let within = s.within in
    record {
      large = big;
      within = inside;
      long = long;
      version = half_part flash f.offset (f.offset + f.size - f.offset) 0 (omega arith)
          ∙ ap (half flash) (let e : f.offset + 0 ≡ f.offset = omega arith in e) ∙ there.stands.second;
      total = word_part flash f.offset (f.offset + f.size - f.offset) 4 (omega arith) ∙ size;
      header = omega arith;
      aligned = s.aligned;
      read = read_where_sound (found_bytes f flash) read.0;
    }

pub sound_is : (flash : List ℕ) (at : ℕ) (f : Found) → sound_found at (objects flash) ≡ Some f
    → (object_found at (objects flash) ≡ Some f) × IsSoundObject flash f
sound_is flash at f e =
    let parts = unless_bad_is (object_found at (objects flash)) f e in
    (parts.0, sound_here flash at f parts.0 parts.1)

-- what a write to a part leaves
pub replaced_mid : (xs ys : List ℕ) (at n : ℕ) → length ys ≡ n → put_mid at n xs ys ≡ replaced xs at ys
unfolding replaced
replaced_mid xs ys at n e = ap (λ zs. take at xs ++ (ys ++ zs)) (drop-drop n at xs ∙ ap (λ k. drop (at + k) xs) (sym e))
