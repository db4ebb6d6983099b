-- How many bytes a process has, once a driver has written into its buffer: as many as before.
use Rattle.std.proofs.Common.{◌≡◌, ◌⊎◌, inl, inr, ◌≤◌, ℕ, ◌+◌, ◌-◌, ◌==◌, ◌||◌, true, List, ◌++◌}
use Rattle.std.proofs.Common.{length, take, drop, refl, arith, eqb-true}
use Rattle.std.specs.Prelude.{IsTrue}
use Rattle.std.proofs.lemmas.Bool.{cases_lt}
use Rattle.std.proofs.lemmas.Bool.Decides.{nat_tests}
use Rattle.std.proofs.lemmas.List.{length-append, length-drop, length-take}
use Rattle.tk_base.specs.declared.kinds.PairKind.{PairKind}
use Rattle.tk_base.specs.declared.kinds.PairKind.TheVariants.{Readable}
use Rattle.tk_base.specs.Kinds.{is_writable}
use Rattle.process_model.proofs.Changes.{keeps_in_ram}
use Rattle.driver_model.specs.Alarm.{alarm_driver, showing}
use Rattle.process_layout.specs.Bounds.{Bounds}
use Rattle.process_layout.specs.Interval.{lies_within}
use Rattle.process_model.specs.Own.{Own}
use Rattle.process_model.specs.Handed.{held, lies_in_ram}
use Rattle.process_model.specs.Served.{with_written}
use Rattle.tk_base.specs.Bytes.{over}
use Rattle.driver_model.proofs.Scheduled.{AsMany}
use Rattle.std.proofs.lemmas.Bool.{or_cases}

-- bytes that are written over others, where these lie in them, or are none
over_size : (xs ys : List ℕ) (at : ℕ) → (at + length ys ≤ length xs) ⊎ (length ys ≡ 0)
    → length (over xs at ys) ≡ length xs
over_size xs ys at side =
    let rest = drop (length ys) (drop at xs) in
    let first = length-append (take at xs) (ys ++ rest) in
    let then = length-append ys rest in
    let taken = length-take at xs in
    let left = length-drop (length ys) (drop at xs) in
    let passed = length-drop at xs in
    elim side [
      | inl fits ↦ omega (arith, first, then, taken, left, passed, fits)
      | inr none ↦ omega (arith, first, then, taken, left, passed, none)
    ]

pub lies : (from to at size : ℕ) → lies_within from to at size ≡ true → (from ≤ at) × (at + size ≤ to)
lies from to at size e = (grind (arith, nat_tests), grind (arith, nat_tests))

-- a buffer that may be allowed lies in accessible RAM, or has no bytes
lies_in : (e : Bounds) (buffer : ℕ × ℕ) → (buffer.1 == 0 || lies_in_ram e buffer.0 buffer.1) ≡ true
    → ((e.start ≤ buffer.0) × (buffer.0 + buffer.1 ≤ e.brk)) ⊎ (buffer.1 ≡ 0)
lies_in e buffer may =
    elim (or_cases (buffer.1 == 0) (lies_in_ram e buffer.0 buffer.1) may)
    [ inl none ↦ inr (eqb-true buffer.1 0 none) | inr is ↦ inl (lies e.start e.brk buffer.0 buffer.1 is) ]

-- those that fit a buffer lie in the block
in_block : (ram bytes : List ℕ) (start from size offset brk : ℕ) → ((start ≤ from) × (from + size ≤ brk)) ⊎ (size ≡ 0)
    → brk - start ≤ length ram
    → ((from - start + offset) + length (take (size - offset) bytes) ≤ length ram)
    ⊎ (length (take (size - offset) bytes) ≡ 0)
in_block ram bytes start from size offset brk place low =
    let short = length-take (size - offset) bytes in
    elim (cases_lt offset size) [
      | inr full ↦ inr (omega (arith, full, short))
      | inl room ↦ elim place [
        | inl inside ↦ inl (omega (arith, room, inside.0, inside.1, low, short))
        | inr none ↦ absurd (omega (arith, room, none))
      ]
    ]

pub written_size : (kind : PairKind) → IsTrue (is_writable kind) → (driver number offset : ℕ) (bytes : List ℕ)
    (own : Own)
    → AsMany own (with_written kind driver number offset bytes own).ram
written_size kind can driver number offset bytes own whole low =
    let buffer = held kind driver number own in
    over_size own.ram _ _
    (in_block own.ram bytes own.layout.start buffer.0 buffer.1 offset own.layout.brk
    (lies_in own.layout buffer (keeps_in_ram kind own.layout buffer can (whole.buffers.each kind driver number)))
    (omega (arith, whole.bytes, low)))

-- to show the clock leaves as many bytes
pub showing_size : (now : ℕ) (own : Own) → AsMany own (showing now own).ram
showing_size now own = written_size Readable refl alarm_driver 0 0 _ own
