-- Which bytes of a process's own an instruction, a flag and a driver change: a store that is not denied, the byte of a
-- flag, and what was written into a buffer change their own places alone, seen from the start of the block. Cutting the
-- bytes at a lower kernel break leaves all below it.
use Rattle.std.proofs.Common.{◌≡◌, ◌≢◌, ◌⊎◌, inl, inr, ◌<◌, ◌≤◌, ℕ, ◌+◌, ◌-◌, ◌==◌, ◌&&◌, ◌||◌, nat_le, nat_lt, Bool}
use Rattle.std.proofs.Common.{true, false, cond, List, length, take, Option, None, Some, refl, ap, ap₂, sym, ◌∙◌, arith}
use Rattle.std.specs.Prelude.{IfSome, IsTrue, slice_index, slice_set}
use Rattle.std.specs.List.{list_any}
use Rattle.std.proofs.lemmas.Bool.{cases_eq, cases_lt, eqb-true}
use Rattle.std.proofs.lemmas.Bool.Decides.{nat_tests}
use Rattle.std.proofs.lemmas.List.{places, get_or-set_other, get_or-take, length-take, take-append-drop}
use Rattle.tk_base.specs.declared.access.Access.TheVariants.{Store}
use Rattle.tk_base.specs.declared.access.Rule.TheVariants.{Misaligned, NoRegion, NoWrite}
use Rattle.tk_base.specs.declared.access.Width.{Width}
use Rattle.tk_base.specs.declared.access.Width.TheVariants.{Byte, Half, Word}
use Rattle.tk_base.specs.Access.{is_misaligned, width_bytes}
use Rattle.tk_base.specs.Bus.{byte_of, put}
use Rattle.tk_base.specs.Regs.{Registers}
use Rattle.rv32_model.specs.declared.turn_end.TurnEnd.TheVariants.{Went}
use Rattle.rv32_model.specs.UserTurn.{UserTurn, Write, touch_of}
use Rattle.rv32_model.specs.Laws.{WritesAreListed, WritesArePermitted, stores_at}
use Rattle.process_layout.specs.Bounds.{Bounds}
use Rattle.process_layout.specs.Interval.{lies_within}
use Rattle.tk_base.specs.declared.kinds.PairKind.{PairKind}
use Rattle.tk_base.specs.declared.kinds.PairKind.TheVariants.{Upcall, ReadOnly}
use Rattle.tk_base.specs.Kinds.{is_buffer, is_writable}
use Rattle.grant_model.specs.Grants.{with_pair}
use Rattle.grant_model.proofs.Costs.{same_costs}
use Rattle.process_model.specs.Own.{Own, kernel_break_of}
use Rattle.process_model.specs.Permission.{denied}
use Rattle.process_model.specs.Instruction.{instruction_of, ram_after, with_write}
use Rattle.process_model.specs.Handed.{may_keep, own_entering, handing, held, lies_in_ram, marked, raised}
use Rattle.process_model.specs.Flag.{flag_place, with_flag}
use Rattle.process_model.specs.Served.{with_written}
use Rattle.tk_base.specs.Bytes.{over}
use Rattle.process_model.specs.Changes.{ChangesAt, IsInside, IsWhole, KeepsBytes, OnlyWritesChangeBytes, own_byte}
use Rattle.std.proofs.lemmas.Bool.{cond_both, or_cases, cases_Bool}

-- what lies before some places or after them is none of them
apart : (at size k i : ℕ) → (k < at) ⊎ (at + size ≤ k) → i < size → k ≢ at + i
apart at size k i (inl below) within e = omega arith
apart at size k i (inr above) within e = omega arith

-- a value that is put changes its own places alone, in a list of any length
half_other : (xs : List ℕ) (at v k : ℕ) → (k < at) ⊎ (at + 2 ≤ k) → slice_index (put xs at Half v) k ≡ slice_index xs k
half_other xs at v k side =
    get_or-set_other (slice_set xs at (byte_of v 0)) (at + 1) k (byte_of v 1) 0 (apart at 2 k 1 side (omega arith))
    ∙ get_or-set_other xs at k (byte_of v 0) 0 (λ e. apart at 2 k 0 side (omega arith) (omega (arith, e)))

put_other : (xs : List ℕ) (at : ℕ) (width : Width) (v k : ℕ) → (k < at) ⊎ (at + width_bytes width ≤ k)
    → slice_index (put xs at width v) k ≡ slice_index xs k
put_other xs at Byte v k side =
    get_or-set_other xs at k (byte_of v 0) 0 (λ e. apart at 1 k 0 side (omega arith) (omega (arith, e)))
put_other xs at Half v k side = half_other xs at v k side
put_other xs at Word v k side =
    let half = put xs at Half v in
    get_or-set_other (slice_set half (at + 2) (byte_of v 2)) (at + 3) k (byte_of v 3) 0
    (apart at 4 k 3 side (omega arith))
    ∙ get_or-set_other half (at + 2) k (byte_of v 2) 0 (apart at 4 k 2 side (omega arith))
    ∙ half_other xs at v k (elim side [ inl below ↦ inl below | inr above ↦ inr (omega arith) ])

-- a store that is not denied lies in accessible RAM
not_denied : (misaligned flash ram : Bool)
    → cond misaligned (Some Misaligned) (cond flash (Some NoWrite) (cond ram None (Some NoRegion))) ≡ None → ram ≡ true
not_denied false false true e = refl
not_denied misaligned flash ram e = cc

starts : (from to at size : ℕ) → lies_within from to at size ≡ true → from ≤ at
starts from to at size e = grind (arith, nat_tests)

store_starts : (e : Bounds) (at : ℕ) (width : Width) → denied e Store at width ≡ None → e.start ≤ at
unfolding denied
store_starts e at width none =
    starts e.start e.brk at (width_bytes width)
    (not_denied (is_misaligned Store at width) (lies_within e.flash_start e.flash_end at (width_bytes width))
    (lies_within e.start e.brk at (width_bytes width)) none)

covers : (at a size : ℕ) → at ≤ a → a < at + size → (nat_le at a && nat_lt a (at + size)) ≡ false → ⊥
covers at a size above under uncovered = grind (arith, nat_tests)

-- what a store does not cover lies before it or after it, also seen from the start of the block
beside : (start at size a : ℕ) → start ≤ at → start ≤ a → (nat_le at a && nat_lt a (at + size)) ≡ false
    → (a - start < at - start) ⊎ (at - start + size ≤ a - start)
beside start at size a low from uncovered =
    elim (cases_lt a at) [
      | inl below ↦ inl (omega arith)
      | inr above ↦ elim (cases_lt a (at + size)) [
        | inl under ↦ absurd (covers at a size above under uncovered)
        | inr past ↦ inr (omega arith)
      ]
    ]

module _ (listed : WritesAreListed) (permitted : WritesArePermitted) (own : Own) (seen : ℕ → ℕ) (regs : Registers) where
  abbrev turn : UserTurn
  turn = instruction_of own seen regs

  -- a store of a turn that goes covers an address
  abbrev Stored : ℕ → Type 0
  Stored a = (turn.end ≡ Went) × IsTrue (list_any (stores_at a) turn.accesses)

  by_write : (a : ℕ) → own.layout.start ≤ a → (w : Option Write)
      → IfSome w (λ w. (turn.end ≡ Went)
      × ((at : ℕ) → IsTrue (stores_at at (touch_of Store w.address w.width))
      → IsTrue (list_any (stores_at at) turn.accesses)))
      → IfSome w (λ w. denied own.layout Store w.address w.width ≡ None)
      → (slice_index (ram_after own.layout.start w own.ram) (a - own.layout.start) ≡ own_byte own a) ⊎ Stored a
  unfolding ram_after
  by_write a from None lists may = inl refl
  by_write a from (Some w) lists may =
      elim (cases_Bool (stores_at a (touch_of Store w.address w.width))) [
        | inl covered ↦ inr (lists.0, lists.1 a covered)
        | inr uncovered ↦
            inl (put_other own.ram (w.address - own.layout.start) w.width w.value (a - own.layout.start)
            (beside own.layout.start w.address (width_bytes w.width) a (store_starts own.layout w.address w.width may)
            from uncovered))
      ]

  changes_instruction : ChangesAt Stored own (with_write own turn)
  changes_instruction a before after =
      by_write a before.0 turn.write (listed (denied own.layout) seen regs) (permitted (denied own.layout) seen regs)

-- a flag is one byte
changes_flag : (place byte : ℕ) (own : Own)
    → ChangesAt (λ at. flag_place place own ≡ Some at) own (with_flag place byte own)
changes_flag place byte own a before after =
    elim (cases_Bool (lies_in_ram own.layout place 1)) [
      | inr outside ↦ rw outside (inl refl)
      | inl lies ↦ elim (cases_eq a place) [
        | inl same ↦ rw lies (inr (ap Some (sym same)))
        | inr apart ↦
            let low = starts own.layout.start own.layout.brk place 1 lies in
            rw lies (inl (get_or-set_other own.ram (place - own.layout.start) (a - own.layout.start) byte 0
            (λ e. apart (omega (arith, low, before.0, e)))))
      ]
    ]

-- bytes that are written over others change their own places alone, wherever they stand
over_other : (xs ys : List ℕ) (p k : ℕ) → k < length xs → (k < p) ⊎ (p + length ys ≤ k)
    → slice_index (over xs p ys) k ≡ slice_index xs k
over_other xs ys p k within (inl below) = grind (arith, places)
over_other xs ys p k within (inr above) = grind (arith, places)

over_nothing : (xs : List ℕ) (p n : ℕ) (ys : List ℕ) → n ≡ 0 → over xs p (take n ys) ≡ xs
over_nothing xs p n ys none = rw none (take-append-drop p xs)

-- those that fit a buffer stand inside of it
written_at : (ram bytes : List ℕ) (start from size offset a : ℕ) → (0 < size → start ≤ from) → start ≤ a
    → a < start + length ram
    → (slice_index (over ram (from - start + offset) (take (size - offset) bytes)) (a - start)
    ≡ slice_index ram (a - start)) ⊎ ((from ≤ a) × (a < from + size))
written_at ram bytes start from size offset a lies low high =
    let others = take (size - offset) bytes in
    let short = length-take (size - offset) bytes in
    elim (cases_lt offset size) [
      | inr full ↦
          inl (ap (λ (xs : List ℕ). slice_index xs (a - start))
          (over_nothing ram (from - start + offset) (size - offset) bytes (omega arith)))
      | inl room ↦ let first : start ≤ from = lies (omega arith) in elim (cases_lt a from) [
        | inl below ↦
            inl (over_other ram others (from - start + offset) (a - start) (omega arith) (inl (omega arith)))
        | inr above ↦ elim (cases_lt a (from + size)) [
          | inl under ↦ inr (above, under)
          | inr past ↦
              inl (over_other ram others (from - start + offset) (a - start) (omega arith)
              (inr (omega (arith, short))))
        ]
      ]
    ]

-- a buffer that the kernel may write has no bytes, or lies in accessible RAM
pub keeps_in_ram : (kind : PairKind) (e : Bounds) (buffer : ℕ × ℕ) → IsTrue (is_writable kind)
    → IsTrue (may_keep kind e buffer) → (buffer.1 == 0 || lies_in_ram e buffer.0 buffer.1) ≡ true
keeps_in_ram Upcall e buffer can may = absurd (cc)
keeps_in_ram ReadOnly e buffer can may = absurd (cc)
keeps_in_ram kind e buffer can may = may

-- a pair of zeros may be kept, whatever its kind
pub keeps_none : (kind : PairKind) (e : Bounds) → IsTrue (may_keep kind e (0, 0))
keeps_none Upcall e = refl
keeps_none kind e = refl

-- such a buffer with bytes begins in the block
begins : (e : Bounds) (buffer : ℕ × ℕ) → (buffer.1 == 0 || lies_in_ram e buffer.0 buffer.1) ≡ true → 0 < buffer.1
    → e.start ≤ buffer.0
begins e buffer may some =
    elim (or_cases (buffer.1 == 0) (lies_in_ram e buffer.0 buffer.1) may) [
      | inl none ↦ absurd (omega (arith, eqb-true buffer.1 0 none, some))
      | inr lies ↦ starts e.start e.brk buffer.0 buffer.1 lies
    ]

changes_written : (kind : PairKind) (driver number offset : ℕ) (bytes : List ℕ) (own : Own) → IsTrue (is_writable kind)
    → IsWhole own → ChangesAt (IsInside (held kind driver number own)) own
    (with_written kind driver number offset bytes own)
changes_written kind driver number offset bytes own can whole a before after =
    let buffer = held kind driver number own in
    written_at own.ram bytes own.layout.start buffer.0 buffer.1 offset a
    (begins own.layout buffer (keeps_in_ram kind own.layout buffer can (whole.buffers.each kind driver number)))
    before.0
    (omega (arith, before.0, before.1, whole.bytes))

-- bytes that are cut at the kernel break stay up to there
cut : (own o : Own) (kernel_break : ℕ) → kernel_break_of o ≡ kernel_break → o.layout.start ≡ own.layout.start
    → o.ram ≡ take (kernel_break - own.layout.start) own.ram → KeepsBytes own o
cut own o kernel_break ends start ram a before after =
    ap₂ (λ (xs : List ℕ) (s : ℕ). slice_index xs (a - s)) ram start
    ∙ get_or-take (kernel_break - own.layout.start) own.ram (a - own.layout.start) 0
    (omega (arith, before.0, after.1, start, ends))

-- a mark moves neither the start of the block nor its end
abbrev Stays : Bounds → Bounds → Type 0
Stays e f = (f.start ≡ e.start) × (f.end ≡ e.end)

raised_stays : (pair : ℕ × ℕ) (e : Bounds) → Stays e (raised pair e)
raised_stays pair e =
    cond_both (pair.1 == 0) e _ (Stays e) (λ none. (refl, refl))
    (λ some. cond_both (lies_in_ram e pair.0 pair.1) _ e (Stays e) (λ lies. (refl, refl)) (λ past. (refl, refl)))

marked_stays : (kind : PairKind) (pair : ℕ × ℕ) (e : Bounds) → Stays e (marked kind pair e)
marked_stays kind pair e =
    cond_both (is_buffer kind) _ e (Stays e) (λ b. raised_stays pair e) (λ b. (refl, refl))

keeps_entering : (driver : ℕ) (own : Own) → KeepsBytes own (own_entering driver own)
keeps_entering driver own =
    cut own (own_entering driver own) (kernel_break_of (own_entering driver own)) refl refl refl

keeps_handing : (kind : PairKind) (driver number : ℕ) (pair : ℕ × ℕ) (own : Own)
    → KeepsBytes own (handing kind driver number pair own)
keeps_handing kind driver number pair own =
    let o = own_entering driver own in
    let stays = marked_stays kind pair own.layout in
    cut own (handing kind driver number pair own) (kernel_break_of o)
    (ap₂ ◌-◌ stays.1 (same_costs driver (with_pair kind number pair) o.grants (λ g. refl))) stays.0 refl

pub only_writes_change_bytes : WritesAreListed → WritesArePermitted → OnlyWritesChangeBytes
only_writes_change_bytes listed permitted = record {
  instruction = changes_instruction listed permitted;
  flag = changes_flag;
  written = changes_written;
  entering = keeps_entering;
  handing = keeps_handing;
}
