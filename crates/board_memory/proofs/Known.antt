-- Instructions of flash that are known.
use Rattle.std.proofs.Common.{◌≡◌, ℕ, ◌+◌, ◌-◌, ◌*◌, ◌%◌, ◌^◌, ◌<◌, ◌≤◌, ◌==◌, Bool, true, false, if◌then◌else◌}
use Rattle.std.proofs.Common.{List, length, take, drop, nat_lt, get_or-take, get_or-drop, slice_set, slice_index_or}
use Rattle.std.proofs.Common.{Option, Some, None, Result, Ok, IfSome}
use Rattle.std.proofs.Common.{refl, sym, ap, subst, ◌∙◌, arith}
use Rattle.std.proofs.Common.{inl, inr}
use Rattle.std.proofs.lemmas.Bool.{cases_eq, cond_both}
use Rattle.std.proofs.lemmas.Bool.Decides.{nat_tests}
use Rattle.std.proofs.lemmas.List.{get_or_default, get_or-set_same, get_or-set_other, length-set, length-take-le}
use Rattle.std.proofs.lemmas.List.{length-drop}
use Rattle.tk_base.specs.declared.access.Denial.{Denial}
use Rattle.tk_base.specs.declared.access.Width.TheVariants.{Half}
use Rattle.tk_base.specs.declared.access.TheConstants.{FLASH_START}
use Rattle.pmp_regions.specs.declared.Entry as registers
use Rattle.pmp_regions.specs.Check.{denied_by_registers}
use Rattle.rv32_model.specs.declared.instr.Instr.{Instr}
use Rattle.rv32_model.specs.UserTurn.{fetched, parcel_at, with_second}
use Rattle.rv32_entries.specs.declared.entry.Entry.{Entry}
use Rattle.rv32_entries.specs.Entries.{entry_instr, entry_length, entry_reach, goes_straight, reach_of}
use Rattle.rv32_entries.specs.Fetched.{IsFetched, TellsFetched, length_of}
use Rattle.rv32_entries.specs.Standing.{StandsIn, TellsStanding, parcel_in}
use Rattle.rv32_entries.specs.Standing.{word_in}
use Rattle.board_memory.specs.Bytes.{memory_byte_at, IsCode}
use Rattle.board_memory.specs.Known.{AreEntries, AreKnown}
use Rattle.board_memory.proofs.Numbers.{in_flash}

-- one entry more
pub known_put : (flash : List ℕ) (entries : List Entry) (k : ℕ) (entry : Entry) → AreEntries flash entries
    → TellsStanding flash (2 * k) entry → AreEntries flash (slice_set entries k entry)
known_put flash entries k entry before tells = record {
  long = length-set entries k entry ∙ before.long;
  each = λ i other below.
      let within : i < length entries = omega (arith, below, length-set entries k entry) in
      elim (cases_eq i k) [
        | inl same ↦
            let here : k < length entries = omega (arith, within, same) in
            rw (same, get_or-set_same entries k entry other here) tells
        | inr apart ↦ rw (get_or-set_other entries k i entry other apart) (before.each i other within)
      ];
}

-- an entry reaches three parcels at most
at_most_six : (instr : Option Instr) (size : ℕ) → IfSome instr (λ _. size ≤ 4) → reach_of instr size ≤ 6
at_most_six None size small = omega (arith)
at_most_six (Some instr) size small =
    cond_both (goes_straight instr) (size + 2) size (λ n. n ≤ 6) (λ is. omega (arith, small))
    (λ not. omega (arith, small))

of_four : (flash : List ℕ) (at : ℕ) (instr : Option Instr) (size : ℕ) → IfSome instr (λ i. StandsIn flash at i size)
    → IfSome instr (λ _. size ≤ 4)
of_four flash at None size s = tt
of_four flash at (Some instr) size s = subst (λ (n : ℕ). n ≤ 4) s.long (four (word_in flash at))
  where
    four : (word : ℕ) → length_of word ≤ 4
    four word = grind (arith, nat_tests)

-- what an entry reaches, by whatever stands for one past the end
same_reach : (entries : List Entry) (i j n most : ℕ) (d e : Entry) → n ≡ entry_reach (slice_index_or entries i d)
    → n ≤ most → i ≡ j → i < length entries → entry_reach (slice_index_or entries j e) ≤ most
same_reach entries i j n most d e is small same l =
    subst (λ (k : ℕ). entry_reach (slice_index_or entries k e) ≤ most) same
    (subst (λ (x : Entry). entry_reach x ≤ most) (get_or_default entries i d e l) (subst (λ
    (m : ℕ). m ≤ most) is small))

-- the entries of a part, of which none reaches past its end: only the last two could
pub known_part : (flash : List ℕ) (entries : List Entry) (start from count long last before : ℕ) (d e : Entry)
    → AreEntries flash entries → start - FLASH_START ≡ 2 * from → from + count ≤ length entries → 2 * count ≤ long
    → 2 ≤ count → last ≡ entry_reach (slice_index_or entries (from + count - 1) d) → last ≤ 2
    → before ≡ entry_reach (slice_index_or entries (from + count - 2) e) → before ≤ 4
    → AreKnown flash start long (take count (drop from entries))
known_part flash entries start from count long last before d e all place lies short two last_is last_small
    before_is before_small = record {
      fits = rw long_part short;
      tells = λ k other below.
          let within : k < count = omega (arith, below, long_part) in
          rw (at_place k other within, ← even k) (all.each (from + k) other (omega (arith, within, lies)));
      reaches = λ k other below.
          let within : k < count = omega (arith, below, long_part) in
          let reach = reaches k other within in
          rw (at_place k other within) (omega (arith, reach, long_part));
    } where
      long_part : length (take count (drop from entries)) ≡ count
      long_part = length-take-le count (drop from entries) (rw (length-drop from entries) (omega (arith, lies)))

      at_place : (k : ℕ) (other : Entry) → k < count
          → slice_index_or (take count (drop from entries)) k other ≡ slice_index_or entries (from + k) other
      at_place k other within = get_or-take count (drop from entries) k other within ∙ get_or-drop from entries k other

      even : (k : ℕ) → 2 * (from + k) ≡ start - FLASH_START + 2 * k
      even k = omega (arith, place)

      reaches : (k : ℕ) (other : Entry) → k < count → 2 * k + entry_reach
          (slice_index_or entries (from + k) other) ≤ 2 * count
      reaches k other within = by_end (nat_lt (k + 2) count) (nat_lt (k + 1) count) refl refl
        where
          most : entry_reach (slice_index_or entries (from + k) other) ≤ 6
          most =
              let entry = slice_index_or entries (from + k) other in
              at_most_six (entry_instr entry) (entry_length entry)
              (of_four flash (2 * (from + k)) (entry_instr entry) (entry_length entry) (all.each (from + k) other
              (omega (arith, within, lies))))

          by_end : (far near : Bool) → nat_lt (k + 2) count ≡ far → nat_lt (k + 1) count ≡ near
              → 2 * k + entry_reach (slice_index_or entries (from + k) other) ≤ 2 * count
          by_end true near e f =
              let l : k + 2 < count = grind (arith, nat_tests, e) in
              omega (arith, l, most)
          by_end false true e f =
              let l : k + 1 < count = grind (arith, nat_tests, f) in
              let is : from + count - 2 ≡ from + k = grind (arith, nat_tests, e, l) in
              let small = same_reach entries (from + count - 2) (from + k) before 4 _ other before_is before_small is
              (omega (arith, lies, two)) in
              omega (arith, l, small)
          by_end false false e f =
              let is : from + count - 1 ≡ from + k = grind (arith, nat_tests, f, within) in
              let small = same_reach entries (from + count - 1) (from + k) last 2 _ other last_is last_small is
              (omega (arith, lies, two)) in
              omega (arith, within, small)

-- the bits by what their first parcel tells
by_length : (long : Bool) (first second : ℕ) (parcel : Result ℕ Denial) → (long ≡ true → parcel ≡ Ok second)
    → (if long then with_second first parcel else Ok first) ≡ Ok (if long then first + 65536 * second else first)
by_length true first second parcel e = rw (e refl) refl
by_length false first second parcel e = refl

-- how long they are is what the first parcel tells
length_by : (long : Bool) (first second : ℕ) → (first % 4 == 3) ≡ long
    → length_of (if long then first + 65536 * second else first) ≡ (if long then 4 else 2)
length_by true first second e = grind (arith, nat_tests, e)
length_by false first second e = grind (arith, nat_tests, e)

-- what stands in the bytes from which every fetch is permitted is what is fetched
module _ (flash ram : List ℕ) (pmp : List registers.Entry) (start : ℕ) (code : List ℕ)
    (c : IsCode flash pmp start code) where
  fetched_parcel : (at : ℕ) → start ≤ at → at + 2 ≤ start + length code
      → parcel_at (denied_by_registers pmp) (memory_byte_at flash ram) at ≡ Ok (parcel_in flash (at - FLASH_START))
  fetched_parcel at from to =
      let low = c.starts in
      let high = c.ends in
      rw (
        c.may at Half from to,
        sym (in_flash flash ram at Half (omega (arith, from, low)) (omega (arith, to, high))),
      ) refl

  fetched_word : (at : ℕ) → start ≤ at → at + length_of (word_in flash (at - FLASH_START)) ≤ start + length code
      → fetched (denied_by_registers pmp) (memory_byte_at flash ram) at ≡ Ok (word_in flash (at - FLASH_START))
  unfolding fetched
  fetched_word at from to =
      let low = c.starts in
      let high = c.ends in
      let place : at + 2 - FLASH_START ≡ at - FLASH_START + 2 = omega (arith, from, low) in
      let one = parcel_in flash (at - FLASH_START) in
      let two = parcel_in flash (at - FLASH_START + 2) in
      let long = length_by (one % 4 == 3) one two refl in
      let first = fetched_parcel at from
      (at_least (one % 4 == 3) at (subst (λ (n : ℕ). at + n ≤ start + length code) long to)) in
      let second : (one % 4 == 3) ≡ true → parcel_at (denied_by_registers pmp) (memory_byte_at flash ram)
      ((at + 2) % 2 ^ 32) ≡ Ok two =
      λ e. let to_four : at + 4 ≤ start + length code =
      subst (λ (b : Bool). at + (if b then 4 else 2) ≤ start + length code) e
      (subst (λ (n : ℕ). at + n ≤ start + length code) long to) in
      let wraps : (at + 2) % 2 ^ 32 ≡ at + 2 = grind (arith, to_four, high) in
      ap (parcel_at (denied_by_registers pmp) (memory_byte_at flash ram)) wraps
      ∙ fetched_parcel (at + 2) (omega (arith, from)) (omega (arith, to_four))
      ∙ ap (λ (p : ℕ). Ok (parcel_in flash p)) place in
      rw first (by_length (one % 4 == 3) one two _ second)
    where
      at_least : (b : Bool) (a : ℕ) → a + (if b then 4 else 2) ≤ start + length code → a + 2 ≤ start + length code
      at_least true a to = omega (arith, to)
      at_least false a to = to

  -- so is what an entry tells
  pub is_known : (known : List Entry) (place : ℕ) (d : Entry) → AreKnown flash start (length code) known
      → place < length known
      → TellsFetched (denied_by_registers pmp) (memory_byte_at flash ram) (start + 2 * place)
      (slice_index_or known place d)
  is_known known place d all below =
      let entry = slice_index_or known place d in
      by_instr (entry_instr entry) (entry_length entry) (all.tells place d below) (all.reaches place d below)
    where
      by_instr : (instr : Option Instr) (size : ℕ)
          → IfSome instr (λ i. StandsIn flash (start - FLASH_START + 2 * place) i size)
          → 2 * place + reach_of instr size ≤ 2 * length known
          → IfSome instr
          (λ i. IsFetched (denied_by_registers pmp) (memory_byte_at flash ram) (start + 2 * place) i size)
      by_instr None size s reach = tt
      by_instr (Some instr) size s reach =
          let low = c.starts in
          let fits = all.fits in
          let lies = own (goes_straight instr) reach in
          let at : start - FLASH_START + 2 * place ≡ start + 2 * place - FLASH_START = omega (arith, low) in
          let here = subst (λ (p : ℕ). StandsIn flash p instr size) at s in
          record {
            word = word_in flash (start + 2 * place - FLASH_START);
            comes =
                fetched_word (start + 2 * place) (omega (arith))
                (subst (λ (n : ℕ). start + 2 * place + n ≤ start + length code) (sym here.long) (omega
                (arith, lies, fits)));
            decodes = here.decodes;
            long = here.long;
            hops = here.hops;
          }
        where
          own : (way : Bool) → 2 * place + (if way then size + 2 else size) ≤ 2 * length known
              → 2 * place + size ≤ 2 * length known
          own true r = omega (arith, r)
          own false r = r
