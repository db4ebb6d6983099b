-- What edits of a header leave of its reading. A header's reading is split into all but the checksum (`IsWell`) and the
-- checksum (`IsSound`); an edit of the flags touches neither sizes nor elements, and once the checksum is mended the
-- header is sound, and means what it meant but for the edit.
use Rattle.std.proofs.Common.{◌≡◌, ℕ, zero, suc, ◌+◌, ◌*◌, ◌/◌, ◌%◌, ◌<◌, ◌≤◌, ◌==◌, nat_lt, ◌||◌, not, Bool, true}
use Rattle.std.proofs.Common.{false, cond, inl, inr, List, length, take, slice_index, Option, Some, None}
use Rattle.std.proofs.Common.{Result, Ok, Err, refl, ap, ◌∙◌, arith}
use Rattle.std.proofs.lemmas.Bool.Decides.{nat_tests}
use Rattle.std.proofs.lemmas.Bool.{cases_lt, eq-eqb, ltb-false}
use Rattle.std.proofs.lemmas.Nat.{xor_lt}
use Rattle.std.proofs.lemmas.List.{length-take, get_or-take, get_or_past}
use Rattle.tk_base.specs.declared.access.Width.{Width}
use Rattle.tk_base.specs.declared.access.Width.TheVariants.{Word}
use Rattle.tk_base.specs.Access.{width_bytes}
use Rattle.tk_base.specs.Bus.{put}
use Rattle.tk_base.specs.Laws.{AStoreIsPut}
use Rattle.tbf_headers.specs.declared.fault.HeaderFault.{HeaderFault}
use Rattle.tbf_headers.specs.Numbers.{half, word_at, xor_of_words, checksum}
use Rattle.tbf_headers.specs.Tlv.{content}
use Rattle.tbf_headers.specs.Parts.{first_bad}
use Rattle.tbf_headers.specs.Meaning.{Meaning, header_reading, meaning_of, header_of, has_bad_sizes}
use Rattle.tbf_headers.specs.Parts.{unless_bad}
use Rattle.image_make.specs.Edits.{mended, with_flags}
use Rattle.image_make.specs.Laws.{AreBytes, FlagsAreRead}
use Rattle.image_make.proofs.Likeness.{IsLike, half_below, word_below, take_like, like_wider, put_like, word_put}
use Rattle.image_make.proofs.Headers.{first_bad_like, content_like, checksum_like}

-- nothing is wrong with a header but maybe its checksum
pub record IsWell (bytes : List ℕ) : Type 0 where
  pub long : nat_lt (length bytes) 16 ≡ false
  pub version : not (half bytes 0 == 2) ≡ false
  pub sizes : has_bad_sizes bytes ≡ false
  pub good : first_bad (header_of bytes) ≡ None

-- nor with that
pub record IsSound (bytes : List ℕ) : Type 0 where
  pub well : IsWell bytes
  pub sum : not (word_at bytes 12 == checksum (header_of bytes)) ≡ false

ok_of_cond : (b : Bool) (e : HeaderFault) (r : Result Meaning HeaderFault) (m : Meaning) → cond b (Err e) r ≡ Ok m
    → (b ≡ false) × (r ≡ Ok m)
ok_of_cond true e r m h = cc
ok_of_cond false e r m h = (refl, h)

ok_unless_bad : (o : Option ℕ) (w m : Meaning) → unless_bad o w ≡ Ok m → (o ≡ None) × (w ≡ m)
ok_unless_bad None w m h = (refl, cc)
ok_unless_bad (Some at) w m h = cc

-- what is read is sound
pub sound_where_read : (bytes : List ℕ) (m : Meaning) → header_reading bytes ≡ Ok m
    → IsSound bytes × (meaning_of bytes ≡ m)
unfolding header_reading
sound_where_read bytes m h =
    let one = ok_of_cond _ _ _ m h in
    let two = ok_of_cond _ _ _ m one.1 in
    let three = ok_of_cond _ _ _ m two.1 in
    let four = ok_of_cond _ _ _ m three.1 in
    let five = ok_unless_bad _ _ m four.1 in
    (record { well = record { long = one.0; version = two.0; sizes = three.0; good = five.0 }; sum = four.0 }, five.1)

-- and what is sound is read
pub read_where_sound : (bytes : List ℕ) → IsSound bytes → header_reading bytes ≡ Ok (meaning_of bytes)
unfolding header_reading
read_where_sound bytes s =
    rw (s.well.long, s.well.version, s.well.sizes, s.sum, s.well.good) refl

taken_byte : (n : ℕ) (xs : List ℕ) (k : ℕ) → slice_index xs k < 256 → slice_index (take n xs) k < 256
taken_byte n xs k b =
    elim (cases_lt k n) [
      | inl h ↦ let e = get_or-take n xs k 0 h in omega arith
      | inr h ↦ let e : slice_index (take n xs) k ≡ 0 = get_or_past (take n xs) k 0
          (omega (arith, length-take n xs)) in omega arith
    ]

pub take_bytes : (n : ℕ) (xs : List ℕ) → AreBytes xs → AreBytes (take n xs)
take_bytes n xs bytes k = taken_byte n xs k (bytes k)

byte_or : (t : Bool) (v w x : ℕ) → v ≡ cond t (w % 256) x → x < 256 → v < 256
byte_or true v w x e h = omega arith
byte_or false v w x e h = omega arith

-- bytes in which a number is put are bytes
pub put_bytes : AStoreIsPut → (xs : List ℕ) (at : ℕ) (width : Width) (v : ℕ) → at + width_bytes width ≤ length xs
    → AreBytes xs → AreBytes (put xs at width v)
put_bytes stores xs at width v h bytes k = let law = stores xs at width v h in byte_or _ _ _ _ (law.each k) (bytes k)

word_below_limit : (h : List ℕ) (at : ℕ) → AreBytes h → word_at h at < 4294967296
word_below_limit h at bytes =
    let a = bytes at in let b = bytes (at + 1) in let c = bytes (at + 2) in let d = bytes (at + 3) in omega arith

word_or_none : (t : Bool) (w : ℕ) → w < 4294967296 → cond t 0 w < 4294967296
word_or_none true w h = omega arith
word_or_none false w h = h

xor_below : (n : ℕ) (h : List ℕ) → AreBytes h → xor_of_words n h < 4294967296
xor_below zero h bytes = omega arith
xor_below (suc n) h bytes = xor_lt 32 (xor_of_words n h) _ (xor_below n h bytes)
    (word_or_none (n == 3) (word_at h (4 * n)) (word_below_limit h (4 * n) bytes))

header_like : (a : ℕ) (b c : List ℕ) → 4 ≤ a → IsLike a 16 b c → IsLike a 16 (header_of b) (header_of c)
header_like a b c h l =
    rw (half_below 2 l (omega arith)) (take_like (half b 2) l)

-- bytes that differ in flags and checksum alone mean the same but for the flags
pub meaning_like : (b c : List ℕ) → IsLike 8 16 b c → meaning_of c ≡ record (meaning_of b) { flags = word_at c 8 }
unfolding meaning_of
meaning_like b c l =
    let h = header_like 8 b c (omega arith) l in
    let hl : IsLike 0 16 (header_of b) (header_of c) = like_wider 0 16 (omega arith) (omega arith) h in
    let same = λ (kind : ℕ). content_like kind (header_of b) (header_of c) hl in
    rw (
      same 9,
      same 1,
      same 5,
      same 3,
      same 2,
      same 6,
      half_below 2 l (omega arith),
      word_below 4 l (omega arith),
    ) refl

abbrev sizes_of : ℕ → ℕ → ℕ → Bool
sizes_of n total size =
    total == 0 || nat_lt n total || not (total % 4 == 0) || nat_lt size 16 || nat_lt total size || not (size % 4 == 0)

pub sizes_same : (b c : List ℕ) → length c ≡ length b → half c 2 ≡ half b 2 → word_at c 4 ≡ word_at b 4
    → has_bad_sizes c ≡ has_bad_sizes b
sizes_same b c long size total = rw (long, size, total) refl

-- the sizes of a header that is well
pub record Sized (n total size : ℕ) : Type 0 where
  pub long : 16 ≤ size
  pub within : size ≤ total
  pub whole : total ≤ n
  pub aligned : size % 4 ≡ 0

sized_from : (n total size : ℕ) → sizes_of n total size ≡ false → Sized n total size
sized_from n total size h = record {
  long = grind (arith, nat_tests);
  within = grind (arith, nat_tests);
  whole = grind (arith, nat_tests);
  aligned = grind (arith, nat_tests);
}

pub sized : (b : List ℕ) → IsWell b → Sized (length b) (word_at b 4) (half b 2)
sized b w = sized_from (length b) (word_at b 4) (half b 2) w.sizes

-- bytes that differ in the name alone mean the same but for the name
pub meaning_named : (b c name : List ℕ) → half c 2 ≡ half b 2 → word_at c 4 ≡ word_at b 4 → word_at c 8 ≡ word_at b 8
    → content 3 (header_of c) ≡ Some name → ((kind : ℕ) → (kind ≡ 3 → ⊥)
    → content kind (header_of c) ≡ content kind (header_of b))
    → meaning_of c ≡ record (meaning_of b) { name = Some name }
unfolding meaning_of
meaning_named b c name size total flags new same =
    rw (
      new,
      same 9 (λ e. omega arith),
      same 1 (λ e. omega arith),
      same 5 (λ e. omega arith),
      same 2 (λ e. omega arith),
      same 6 (λ e. omega arith),
      size,
      total,
      flags,
    ) refl

pub well_like : (b c : List ℕ) → IsLike 8 16 b c → IsWell b → IsWell c
well_like b c l w =
    let h = header_like 8 b c (omega arith) l in
    record {
      long = rw l.size w.long;
      version = rw (half_below 0 l (omega arith)) w.version;
      sizes = sizes_same b c l.size (half_below 2 l (omega arith)) (word_below 4 l (omega arith)) ∙ w.sizes;
      good = first_bad_like (header_of b) (header_of c) (like_wider 0 16 (omega arith) (omega arith) h) ∙ w.good;
    }

pub mended_like : AStoreIsPut → (p : List ℕ) → 16 ≤ length p → IsLike 12 16 p (mended p)
unfolding mended
mended_like stores p h = put_like stores p 12 Word (checksum (header_of p)) h

mended_sum : AStoreIsPut → (p : List ℕ) → 16 ≤ length p → AreBytes p
    → word_at (mended p) 12 ≡ checksum (header_of (mended p))
unfolding mended
mended_sum stores p h bytes =
    rw (checksum_like (header_of p) (header_of (mended p)) (header_like 12 p (mended p) (omega arith)
    (mended_like stores p h)))
    (word_put stores p 12 (checksum (header_of p)) h (xor_below (length (header_of p) / 4) (header_of p)
    (take_bytes (half p 2) p bytes)))

-- once the checksum is mended nothing is wrong, and the bytes mean what they meant
pub mended_reading : AStoreIsPut → (p : List ℕ) → AreBytes p → IsWell p → header_reading (mended p) ≡ Ok (meaning_of p)
unfolding meaning_of
mended_reading stores p bytes w =
    let long : 16 ≤ length p = ltb-false _ _ w.long in
    let like : IsLike 12 16 p (mended p) = mended_like stores p long in
    let wide : IsLike 8 16 p (mended p) = like_wider 8 16 (omega arith) (omega arith) like in
    let sum = ap not (eq-eqb _ _ (mended_sum stores p long bytes)) in
    read_where_sound (mended p) (record { well = well_like p (mended p) wide w; sum = sum })
    ∙ rw (meaning_like p (mended p) wide, word_below 8 like (omega arith)) refl

pub flags_are_read : AStoreIsPut → FlagsAreRead
unfolding with_flags
flags_are_read stores object flags m bytes small read =
    let s = sound_where_read object m read in
    let long : 16 ≤ length object = ltb-false _ _ s.0.well.long in
    let p = put object 8 Word flags in
    let like : IsLike 8 16 object p = like_wider 8 16 (omega arith) (omega arith)
    (put_like stores object 8 Word flags (omega arith)) in
    mended_reading stores p (put_bytes stores object 8 Word flags (omega arith) bytes)
    (well_like object p like s.0.well)
    ∙ rw (meaning_like object p like, word_put stores object 8 flags (omega arith) small, s.1) refl
