-- What is known of the instructions of the tests' memory.
use Rattle.std.proofs.Common.{◌≡◌, ℕ, ◌+◌, ◌*◌, ◌%◌, ◌≤◌, ◌<◌, ◌^◌, ◌==◌, Bool, true, false, if◌then◌else◌}
use Rattle.std.proofs.Common.{List, slice_index, Option, None, Some, Result, Ok, IfSome, refl, sym, ap, subst, ◌∙◌}
use Rattle.std.proofs.Common.{arith}
use Rattle.std.proofs.lemmas.Bool.Decides.{nat_tests}
use Rattle.tk_base.specs.declared.access.Denial.{Denial}
use Rattle.rv32_model.specs.declared.instr.Instr.{Instr}
use Rattle.rv32_model.specs.UserTurn.{fetched, parcel_at, with_second}
use Rattle.rv32_entries.specs.declared.entry.Entry.{Entry}
use Rattle.rv32_entries.specs.Entries.{entry_instr, entry_length, entry_reach, goes_straight, reach_of}
use Rattle.rv32_entries.specs.Fetched.{IsFetched, TellsFetched, length_of}
use Rattle.rv32_entries.specs.Standing.{StandsIn, TellsStanding, parcel_in}
use Rattle.rv32_entries.specs.Standing.{word_in}
use Rattle.unit_tests.specs.SmallMemory.{small_denies}

parcel : (bytes : List ℕ) (at : ℕ) → at + 2 ≤ 32
    → parcel_at small_denies (slice_index bytes) at ≡ Ok (parcel_in bytes at)
parcel bytes at below = grind (arith, nat_tests, below)

by_length : (long : Bool) (first second : ℕ) (parcel : Result ℕ Denial) → (long ≡ true → parcel ≡ Ok second)
    → (if long then with_second first parcel else Ok first) ≡ Ok (if long then first + 65536 * second else first)
by_length true first second parcel e = rw (e refl) refl
by_length false first second parcel e = refl

length_by : (long : Bool) (first second : ℕ) → (first % 4 == 3) ≡ long
    → length_of (if long then first + 65536 * second else first) ≡ (if long then 4 else 2)
length_by true first second e = grind (arith, nat_tests, e)
length_by false first second e = grind (arith, nat_tests, e)

fetched_word : (bytes : List ℕ) (at : ℕ) → at + length_of (word_in bytes at) ≤ 32
    → fetched small_denies (slice_index bytes) at ≡ Ok (word_in bytes at)
unfolding fetched
fetched_word bytes at below =
    let one = parcel_in bytes at in
    let two = parcel_in bytes (at + 2) in
    let long = subst (λ (n : ℕ). at + n ≤ 32) (length_by (one % 4 == 3) one two refl) below in
    rw (parcel bytes at (least (one % 4 == 3) long))
    (by_length (one % 4 == 3) one two _ (λ e. next (subst (λ (b : Bool). at + (if b then 4 else 2) ≤ 32) e long)))
  where
    least : (b : Bool) → at + (if b then 4 else 2) ≤ 32 → at + 2 ≤ 32
    least true to = omega (arith, to)
    least false to = to

    next : at + 4 ≤ 32 → parcel_at small_denies (slice_index bytes) ((at + 2) % 2 ^ 32) ≡ Ok (parcel_in bytes (at + 2))
    next to =
        let wraps : (at + 2) % 2 ^ 32 ≡ at + 2 = omega (arith, to) in
        ap (parcel_at small_denies (slice_index bytes)) wraps ∙ parcel bytes (at + 2) (omega (arith, to))

pub is_known : (bytes : List ℕ) (place : ℕ) (entry : Entry) → TellsStanding bytes (2 * place) entry
    → 2 * place + entry_reach entry ≤ 32 → TellsFetched small_denies (slice_index bytes) (2 * place) entry
is_known bytes place entry tells reach = by_instr (entry_instr entry) (entry_length entry) tells reach
  where
    by_instr : (instr : Option Instr) (size : ℕ) → IfSome instr (λ i. StandsIn bytes (2 * place) i size)
        → 2 * place + reach_of instr size ≤ 32
        → IfSome instr (λ i. IsFetched small_denies (slice_index bytes) (2 * place) i size)
    by_instr None size s reach = tt
    by_instr (Some instr) size s reach = record {
      word = word_in bytes (2 * place);
      comes =
          fetched_word bytes (2 * place)
          (subst (λ (n : ℕ). 2 * place + n ≤ 32) (sym s.long) (own (goes_straight instr) reach));
      decodes = s.decodes;
      long = s.long;
      hops = s.hops;
    }
      where
        own : (way : Bool) → 2 * place + (if way then size + 2 else size) ≤ 32 → 2 * place + size ≤ 32
        own true r = omega (arith, r)
        own false r = r

pub below : (known : Bool) (place : ℕ) → place < (if known then 16 else 0) → place < 16
below true place lies = lies
below false place lies = omega (arith, lies)
