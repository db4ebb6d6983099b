-- Where the buffers of a process lie whose own is whole.
use Rattle.std.proofs.Common.{◌≡◌, ◌⊎◌, inl, inr, ◌≤◌, ℕ, ◌+◌, true, refl, sym}
use Rattle.std.proofs.Common.{ap, ◌∙◌, arith, length}
use Rattle.std.specs.Prelude.{IsTrue}
use Rattle.std.proofs.lemmas.Bool.{false≢true}
use Rattle.std.proofs.lemmas.Bool.Decides.{nat_tests}
use Rattle.tk_base.specs.declared.kinds.PairKind.{PairKind}
use Rattle.tk_base.specs.declared.kinds.PairKind.TheVariants.{Upcall, ReadOnly, ReadWrite}
use Rattle.tk_base.specs.Kinds.{is_buffer, is_writable}
use Rattle.process_layout.specs.Interval.{lies_within}
use Rattle.process_layout.specs.Bounds.{Bounds}
use Rattle.process_model.specs.Changes.{IsInside}
use Rattle.process_model.specs.Handed.{held, lies_in_flash, lies_in_ram, may_keep}
use Rattle.process_model.specs.Own.{Own}
use Rattle.kernel_model.specs.Record.{Record}
use Rattle.kernel_model.specs.Wholes.{HasWholeOwn}
use Rattle.kernel_lives.specs.OwnBuffers.{IsInOwnFlash, IsInOwnRam, WholeOwnsHoldTheirBuffers}

pub in_interval : (low high at size : ℕ) → lies_within low high at size ≡ true → (low ≤ at) × (at + size ≤ high)
in_interval low high at size is = grind (arith, nat_tests)

-- a buffer that has bytes, where it may be kept
abbrev LiesIn : PairKind → Bounds → ℕ × ℕ → Type 0
LiesIn kind e pair =
    (lies_in_ram e pair.0 pair.1 ≡ true) ⊎ ((kind ≡ ReadOnly) × (lies_in_flash e pair.0 pair.1 ≡ true))

kept_lies : (kind : PairKind) (e : Bounds) (pair : ℕ × ℕ) → is_buffer kind ≡ true → IsTrue (may_keep kind e pair)
    → 1 ≤ pair.1 → LiesIn kind e pair
kept_lies Upcall e pair is may some = absurd (cc)
kept_lies kind e pair is may some = grind (arith, nat_tests)

module _ (r : Record) (whole : HasWholeOwn r) (kind : PairKind) (driver number : ℕ) (is : is_buffer kind ≡ true) where
  abbrev buffer : ℕ × ℕ
  buffer = held kind driver number r.own

  -- it lies below the mark, or in flash
  lies : 1 ≤ buffer.1 → LiesIn kind (record r.own.layout { brk = r.own.layout.mark }) buffer
  lies some =
      kept_lies kind (record r.own.layout { brk = r.own.layout.mark }) buffer is
      (whole.1.buffers.each kind driver number) some

  each : (at : ℕ) → IsInside buffer at → IsInOwnRam at r.own ⊎ ((kind ≡ ReadOnly) × IsInOwnFlash at r.own)
  each at inside = by_place (lies (omega (arith, inside.0, inside.1)))
    where
      by_place : LiesIn kind (record r.own.layout { brk = r.own.layout.mark }) buffer
          → IsInOwnRam at r.own ⊎ ((kind ≡ ReadOnly) × IsInOwnFlash at r.own)
      by_place (inl ram) =
          let within = in_interval r.own.layout.start r.own.layout.mark buffer.0 buffer.1 ram in
          let order = whole.0.places in
          inl (record {
            start = omega (arith, inside.0, within.0);
            brk = omega (arith, inside.1, within.1, order.brk);
            below = omega (arith, inside.1, within.1, order.brk, order.grants);
          })
      by_place (inr flash) =
          let within = in_interval r.own.layout.flash_start r.own.layout.flash_end buffer.0 buffer.1 flash.1 in
          inr (
            flash.0,
            record {
              start = omega (arith, inside.0, within.0);
              end = omega (arith, inside.1, within.1);
            },
          )

pub whole_owns_hold_their_buffers : WholeOwnsHoldTheirBuffers
whole_owns_hold_their_buffers r whole kind driver number at is inside = each r whole kind driver number is at inside

-- a buffer that may be written, and has bytes, lies in the process's own bytes
pub record LiesInOwn (own : Own) (pair : ℕ × ℕ) : Type 0 where
  pub low : own.layout.start ≤ pair.0
  pub fits : pair.0 + pair.1 ≤ own.layout.start + length own.ram

pub writable_lies : (kind : PairKind) → is_writable kind ≡ true → (r : Record) → HasWholeOwn r → (driver number : ℕ)
    → 1 ≤ (held kind driver number r.own).1 → LiesInOwn r.own (held kind driver number r.own)
writable_lies kind is r whole driver number some =
    by_place (lies r whole kind driver number (is_buffer_too kind is) some)
  where
    pair : ℕ × ℕ
    pair = held kind driver number r.own

    is_buffer_too : (kind : PairKind) → is_writable kind ≡ true → is_buffer kind ≡ true
    is_buffer_too Upcall is = absurd (cc)
    is_buffer_too kind is = refl

    by_place : LiesIn kind (record r.own.layout { brk = r.own.layout.mark }) pair → LiesInOwn r.own pair
    by_place (inl ram) =
        let within = in_interval r.own.layout.start r.own.layout.mark pair.0 pair.1 ram in
        let order = whole.0.places in
        record {
          low = within.0;
          fits = omega (arith, within.1, order.mark, order.brk, order.grants, whole.1.bytes);
        }
    by_place (inr flash) = absurd (read_only kind is flash.0)
      where
        read_only : (kind : PairKind) → is_writable kind ≡ true → kind ≡ ReadOnly → ⊥
        read_only kind is same = false≢true (sym (ap is_writable same) ∙ is)

pub read_write_lies : (r : Record) → HasWholeOwn r → (driver number : ℕ) → 1 ≤ (held ReadWrite driver number r.own).1
    → LiesInOwn r.own (held ReadWrite driver number r.own)
read_write_lies = writable_lies ReadWrite refl
