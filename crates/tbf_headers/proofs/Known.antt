-- The header of an object that has no fault.
use Rattle.std.proofs.Common.{◌≡◌, ◌≤◌, ◌<◌, ◌∙◌, ℕ, ◌==◌, Bool, true, false, not, cond, nat_lt, List, length}
use Rattle.std.proofs.Common.{Option, None, Some, Result, Err, IsOk, refl, arith}
use Rattle.std.proofs.lemmas.List.{length-take-le}
use Rattle.tbf_headers.specs.declared.fault.HeaderFault.{HeaderFault}
use Rattle.tbf_headers.specs.declared.fault.HeaderFault.TheVariants.{Short, Version, Sizes, Checksum}
use Rattle.tbf_headers.specs.Meaning.{Meaning, has_bad_sizes, header_of, header_reading, meaning_of}
use Rattle.tbf_headers.specs.Parts.{unless_bad}
use Rattle.tbf_headers.specs.Numbers.{half, word_at, checksum}
use Rattle.tbf_headers.specs.Shown.{IsChecked}
use Rattle.tbf_headers.specs.Parts.{first_bad}

-- a refusal that is passed by
record Passed (b : Bool) (fault : HeaderFault) (r : Result Meaning HeaderFault) : Type 0 where
  is : b ≡ false
  ok : IsOk r
  same : cond b (Err fault) r ≡ r

passed : (b : Bool) (fault : HeaderFault) (r : Result Meaning HeaderFault) → IsOk (cond b (Err fault) r)
    → Passed b fault r
passed true fault r ok = grind arith
passed false fault r ok = record { is = refl; ok = ok; same = refl }

-- no TLV is bad
good_of : (bad : Option ℕ) (meaning : Meaning) → IsOk (unless_bad bad meaning) → bad ≡ None
good_of None meaning ok = refl
good_of (Some at) meaning ok = grind arith

pub record IsKnown (bytes : List ℕ) : Type 0 where
  pub checked : IsChecked bytes (header_of bytes)
  pub good : first_bad (header_of bytes) ≡ None
  pub long : 16 ≤ length bytes
  pub within : half bytes 2 ≤ length bytes

-- so many bytes are there at least
pub long_of : (bytes : List ℕ) → IsOk (header_reading bytes) → 16 ≤ length bytes
unfolding header_reading
long_of bytes ok = let long = passed (nat_lt (length bytes) 16) Short _ ok in let is = long.is in grind arith

pub known : (bytes : List ℕ) → half bytes 2 < 65536 → IsOk (header_reading bytes) → IsKnown bytes
unfolding header_reading
known bytes fits ok =
    let long = passed (nat_lt (length bytes) 16) Short _ ok in
    let version = passed (not (half bytes 0 == 2)) Version _ long.ok in
    let sizes = passed (has_bad_sizes bytes) Sizes _ version.ok in
    let sum = passed (not (word_at bytes 12 == checksum (header_of bytes))) Checksum _ sizes.ok in
    let bad = sizes.is in
    let size : half bytes 2 ≤ length bytes = grind arith in
    let whole : length (header_of bytes) ≡ half bytes 2 = length-take-le (half bytes 2) bytes size in
    record {
      checked = record {
        long = grind arith;
        within = grind arith;
        total = grind arith;
        total_aligned = grind (arith, whole);
        whole = refl;
        aligned = grind (arith, whole);
        short = omega (arith, whole, fits);
        read = long.same ∙ version.same ∙ sizes.same ∙ sum.same;
      };
      good = good_of (first_bad (header_of bytes)) (meaning_of bytes) sum.ok;
      long = grind arith;
      within = size;
    }
