-- That a process's own stays settled: its bytes end at the kernel break, and its buffers lie below the mark, which is
-- to say that each may be kept if accessible RAM ended there (`at_mark`). The mark is raised to cover what is handed,
-- and never falls, so the others lie below it still; drivers leave as many bytes, by the walk over what they do.
use Rattle.std.proofs.Common.{◌≡◌, inl, inr, ◌≤◌, ◌<◌, ℕ, ◌+◌, ◌-◌, ◌==◌, ◌||◌, Bool, true, false, max}
use Rattle.std.proofs.Common.{length, take, None, Some, refl, sym, ap, ap₂, subst, ◌∙◌, arith}
use Rattle.std.specs.Prelude.{IsTrue}
use Rattle.std.proofs.lemmas.Bool.{false≢true}
use Rattle.std.proofs.lemmas.Bool.Decides.{nat_tests}
use Rattle.std.proofs.lemmas.List.{length-take}
use Rattle.tk_base.specs.declared.kinds.PairKind.{PairKind}
use Rattle.tk_base.specs.declared.kinds.PairKind.TheVariants.{Upcall, ReadOnly}
use Rattle.grant_values.specs.Values.{KeptValue}
use Rattle.grant_model.specs.Grants.{entering as entering_grants, grant_of, shape_of, with_pair, with_value}
use Rattle.grant_model.proofs.Costs.{same_costs}
use Rattle.tk_base.specs.Kinds.{count_of, is_buffer}
use Rattle.tk_base.proofs.Ranks.{same_kind}
use Rattle.process_layout.specs.Bounds.{Bounds}
use Rattle.process_layout.specs.Interval.{lies_within}
use Rattle.process_model.specs.Own.{Own, kernel_break_of}
use Rattle.process_model.specs.Handed.{own_entering, handing, has_place, held, lies_in_ram, marked, may_keep, may_share}
use Rattle.process_model.specs.Handed.{raised}
use Rattle.process_model.specs.Served.{with_kept}
use Rattle.process_model.specs.Changes.{IsWhole}
use Rattle.process_model.specs.Pairs.{HandsOne, HandsTheSame, OnlyHandingChangesPairs}
use Rattle.driver_model.specs.Keeping.{DriversKeepSettled, HoldsBelowMark, IsInOrder, IsSettled, KeepsOrder}
use Rattle.driver_model.specs.Keeping.{KeepsSettled}
use Rattle.driver_model.specs.Laws.{StaysInPlace}
use Rattle.driver_model.specs.Pairs.{DriversLeavePairs}
use Rattle.driver_model.specs.Services.{OfEachService}
use Rattle.driver_model.proofs.Held.{drivers_keep, handed_order, marked_rest}
use Rattle.driver_model.proofs.Scheduled.{Serves}
use Rattle.driver_model.proofs.Services.{of_services}
use Rattle.driver_model.proofs.Sizes.{lies}
use Rattle.std.proofs.lemmas.Bool.{cases_eq, cond_both, or_right}
use Rattle.driver_model.proofs.Held.{of_raised}

-- a layout in which accessible RAM ends at the mark
abbrev at_mark : Bounds → Bounds
at_mark e = record e { brk = e.mark }

-- a buffer may be handed where accessible RAM ends elsewhere, if it lies in it there too
or_wider : (none ram flash wide : Bool) → (none ≡ false → ram ≡ true → wide ≡ true) → (none || ram || flash) ≡ true
    → (none || wide || flash) ≡ true
or_wider true ram flash wide lies_too e = refl
or_wider false true flash wide lies_too e = rw (lies_too refl refl)
or_wider false false flash wide lies_too e = or_right wide flash e

or_wider_ram : (none ram wide : Bool) → (none ≡ false → ram ≡ true → wide ≡ true) → (none || ram) ≡ true
    → (none || wide) ≡ true
or_wider_ram true ram wide lies_too e = refl
or_wider_ram false true wide lies_too e = lies_too refl refl
or_wider_ram false false wide lies_too e = absurd (false≢true e)

-- the bytes of a buffer that has some lie also in RAM up to another end
abbrev LiesToo : ℕ → ℕ → ℕ → ℕ × ℕ → Type 0
LiesToo start brk to pair = (pair.1 == 0) ≡ false → lies_within start brk pair.0 pair.1 ≡ true
    → lies_within start to pair.0 pair.1 ≡ true

wider : (kind : PairKind) (e : Bounds) (to : ℕ) (pair : ℕ × ℕ) → LiesToo e.start e.brk to pair
    → may_keep kind e pair ≡ true → may_keep kind (record e { brk = to }) pair ≡ true
wider Upcall e to pair lies_too may = refl
wider ReadOnly e to pair lies_too may =
    or_wider (pair.1 == 0) (lies_in_ram e pair.0 pair.1) (lies_within e.flash_start e.flash_end pair.0 pair.1)
    (lies_within e.start to pair.0 pair.1) lies_too may
wider kind e to pair lies_too may =
    or_wider_ram (pair.1 == 0) (lies_in_ram e pair.0 pair.1) (lies_within e.start to pair.0 pair.1) lies_too may

within : (from to at size : ℕ) → from ≤ at → at + size ≤ to → lies_within from to at size ≡ true
within from to at size low high = grind (arith, nat_tests)

lies_further : (start brk to : ℕ) (pair : ℕ × ℕ) → brk ≤ to → LiesToo start brk to pair
lies_further start brk to pair up some is =
    let inside = lies start brk pair.0 pair.1 is in within start to pair.0 pair.1 inside.0 (omega (arith, up, inside.1))

-- the mark is raised to the end of a buffer, and never lowered
raised_covers : (pair : ℕ × ℕ) (e : Bounds) → LiesToo e.start e.brk (raised pair e).mark pair
raised_covers pair e some is =
    let inside = lies e.start e.brk pair.0 pair.1 is in
    rw (some, is) (within e.start (max e.mark (pair.0 + pair.1)) pair.0 pair.1 inside.0 (omega arith))

raised_grows : (pair : ℕ × ℕ) (e : Bounds) → e.mark ≤ (raised pair e).mark
raised_grows pair e = of_raised (λ f. e.mark ≤ f.mark) pair e (omega arith) (λ is. omega arith)

marked_grows : (kind : PairKind) (pair : ℕ × ℕ) (e : Bounds) → e.mark ≤ (marked kind pair e).mark
marked_grows kind pair e =
    cond_both (is_buffer kind) _ e (λ (f : Bounds). e.mark ≤ f.mark) (λ b. raised_grows pair e) (λ b. omega arith)

whole_of : (own : Own) → IsSettled own → IsWhole own
whole_of own h = record {
  bytes = h.bytes;
  buffers = record {
    each = λ kind driver number. let pair = held kind driver number own in
        wider kind (at_mark own.layout) own.layout.brk pair
        (lies_further own.layout.start own.layout.mark own.layout.brk pair h.order.brk)
        (h.buffers.each kind driver number);
  };
}

-- its bytes end at the kernel break, where they did
abbrev HasSize : Own → Type 0
HasSize own = length own.ram ≡ kernel_break_of own - own.layout.start

abbrev KeepsSize : Own → Own → Type 0
KeepsSize own o = IsInOrder own → IsWhole own → HasSize o

entering_size : (driver : ℕ) (own : Own) → HasSize own → HasSize (own_entering driver own)
entering_size driver own size =
    elim (grant_of driver own.grants)
    as (λ g. let o = record own { grants = entering_grants driver own.grants g } in
    length (take (kernel_break_of o - o.layout.start) own.ram) ≡ kernel_break_of o - o.layout.start) [
      | None ↦
          let o = record own { grants = entering_grants driver own.grants None } in
          let taken = length-take (kernel_break_of o - own.layout.start) own.ram in omega (arith, taken, size)
      | Some g ↦
          let taken = length-take (kernel_break_of own - own.layout.start) own.ram in omega (arith, taken, size)
    ]

-- another value costs as much
keeping_size : (driver : ℕ) (value : KeptValue) (own : Own) → HasSize own → HasSize (with_kept driver value own)
keeping_size driver value own size =
    size ∙ ap (λ (n : ℕ). own.layout.end - n - own.layout.start)
    (sym (same_costs driver (with_value value) own.grants (λ g. refl)))

-- the break is not above the kernel break
below_grants : (own : Own) → IsInOrder own → own.layout.brk ≤ kernel_break_of own
below_grants own h = omega (arith, h.grants)

-- to be served leaves as many bytes
served_size : (own o : Own) → Serves own o → KeepsSize own o
served_size own o s h whole =
    s.size whole (below_grants own h) ∙ whole.bytes
    ∙ ap (λ (x : Own). kernel_break_of x - x.layout.start) (sym s.rest)

keep_size : OfEachService KeepsSize
keep_size =
    of_services KeepsSize (record {
      same = λ own h whole. whole.bytes;
      keeps = λ driver value own h whole. keeping_size driver value own whole.bytes;
      enters = λ driver value own room h whole.
          keeping_size driver value (own_entering driver own) (entering_size driver own whole.bytes);
      serves = λ driver value own o s h whole. keeping_size driver value o (served_size own o s h whole);
      tells = served_size;
    })

-- what holds of the pair that was handed, and of all that were before, holds of all
of_handed : (kind : PairKind) (driver number : ℕ) (pair : ℕ × ℕ) (own o : Own) → HandsOne kind driver number pair own o
    → (P : ℕ × ℕ → Type 0) (k : PairKind) (d n : ℕ) → (k ≡ kind → P pair) → P (held k d n own) → P (held k d n o)
of_handed kind driver number pair own o hands P k d n this before =
    elim (same_kind kind k) [
      | inr apart ↦ rw (hands.others k d n (λ same. absurd (apart same))) before
      | inl same ↦ elim (cases_eq d driver) [
        | inr apart ↦ rw (hands.others k d n (λ k_is d_is. absurd (apart d_is))) before
        | inl d_is ↦ elim (cases_eq n number) [
          | inr apart ↦ rw (hands.others k d n (λ k_is d_is n_is. apart n_is)) before
          | inl n_is ↦ rw (same, d_is, n_is, hands.this) (this same)
        ]
      ]
    ]

-- the pair that was handed lies below the mark afterwards
keeps_shared : (kind : PairKind) (e : Bounds) (pair : ℕ × ℕ) → may_share kind e pair ≡ true
    → may_keep kind e pair ≡ true
keeps_shared kind e pair may = cond_both (is_buffer kind) _ true (λ b. b ≡ true) (λ e. may) (λ e. refl)

this_kind : (kind : PairKind) (pair : ℕ × ℕ) (e : Bounds) → may_share kind e pair ≡ true
    → may_keep kind (at_mark (marked kind pair e)) pair ≡ true
this_kind kind pair e may =
    subst (λ (f : Bounds). may_keep kind (at_mark f) pair ≡ true) (sym (marked_rest kind pair e))
    (by_kind kind (keeps_shared kind e pair may))
  where
    by_kind : (k : PairKind) → may_keep k e pair ≡ true
        → may_keep k (record e { mark = (marked k pair e).mark; brk = (marked k pair e).mark }) pair ≡ true
    by_kind Upcall may = refl
    by_kind k may = wider k e (raised pair e).mark pair (raised_covers pair e) may

-- what a pair may be kept by is accessible RAM and flash alone
alike : (k : PairKind) (e : Bounds) (mark : ℕ) (pair : ℕ × ℕ)
    → may_keep k (record e { mark = mark }) pair ≡ may_keep k e pair
alike Upcall e mark pair = refl
alike k e mark pair = refl

-- and so do the others
other_kind : (kind k : PairKind) (pair other : ℕ × ℕ) (e : Bounds) → may_keep k (at_mark e) other ≡ true
    → may_keep k (at_mark (marked kind pair e)) other ≡ true
other_kind kind k pair other e may =
    subst (λ (f : Bounds). may_keep k (at_mark f) other ≡ true) (sym (marked_rest kind pair e))
    (alike k (record e { brk = (marked kind pair e).mark }) (marked kind pair e).mark other
    ∙ wider k (at_mark e) (marked kind pair e).mark other
    (lies_further e.start e.mark (marked kind pair e).mark other (marked_grows kind pair e)) may)

module _ (law : OnlyHandingChangesPairs) where
  -- where a process lies stays, and the pairs that it has handed
  same_buffers : (own o : Own) → o.layout ≡ own.layout → HandsTheSame own o → HoldsBelowMark own → HoldsBelowMark o
  same_buffers own o layout pairs h = record {
    each = λ kind driver number. ap₂ (λ (e : Bounds) (pair : ℕ × ℕ). may_keep kind (at_mark e) pair) layout
        (law.held own o pairs kind driver number) ∙ h.each kind driver number;
  }

  settles : (own o : Own) → StaysInPlace own o → HandsTheSame own o → KeepsOrder own o → KeepsSize own o
      → KeepsSettled own o
  settles own o stays pairs order size h = record {
    order = order h.order;
    bytes = size h.order (whole_of own h);
    buffers = same_buffers own o (ap (λ (x : Own). x.layout) stays) pairs h.buffers;
    shape = law.shape own o pairs h.shape;
  }

  handed_settled : (kind : PairKind) (driver number : ℕ) (pair : ℕ × ℕ) (own : Own) → has_place driver own ≡ true
      → IsTrue (may_share kind own.layout pair) → number < count_of kind (shape_of driver)
      → KeepsSettled own (handing kind driver number pair own)
  handed_settled kind driver number pair own room may is_number h =
      let o = handing kind driver number pair own in
      let entered = own_entering driver own in
      let e = own.layout in
      let hands = law.handing kind driver number pair own h.shape is_number in
      record {
        order = handed_order kind driver number pair own room h.order;
        bytes = entering_size driver own h.bytes
            ∙ ap₂ (λ (f : Bounds) (n : ℕ). f.end - n - f.start) (sym (marked_rest kind pair e))
            (sym (same_costs driver (with_pair kind number pair) entered.grants (λ g. refl)));
        buffers = record {
          each = λ k d n. of_handed kind driver number pair own o hands
              (λ p. may_keep k (at_mark (marked kind pair e)) p ≡ true) k d n
              (λ same. subst (λ (x : PairKind). may_keep x (at_mark (marked kind pair e)) pair ≡ true) (sym same)
              (this_kind kind pair e may))
              (other_kind kind k pair (held k d n own) e (h.buffers.each k d n));
        };
        shape = hands.shape;
      }

  pub drivers_keep_settled : DriversLeavePairs → DriversKeepSettled
  drivers_keep_settled leave =
      let p = drivers_keep.places in
      let q = drivers_keep.order in
      let z = keep_size in
      record {
        services = record {
          command = λ driver taker is around number a2 a3 own.
              settles own _ (p.command driver taker is around number a2 a3 own)
              (leave.command driver taker is around number a2 a3 own)
              (q.command driver taker is around number a2 a3 own) (z.command driver taker is around number a2 a3 own);
          alarmed = λ now own. settles own _ (p.alarmed now own) (leave.alarmed now own) (q.alarmed now own)
              (z.alarmed now own);
          edged = λ button state own. settles own _ (p.edged button state own) (leave.edged button state own)
              (q.edged button state own) (z.edged button state own);
          taken = λ own. settles own _ (p.taken own) (leave.taken own) (q.taken own) (z.taken own);
          write_done = λ own. settles own _ (p.write_done own) (leave.write_done own) (q.write_done own)
              (z.write_done own);
          input = λ bytes own.
              settles own _ (p.input bytes own) (leave.input bytes own) (q.input bytes own) (z.input bytes own);
          drawn = λ word own.
              settles own _ (p.drawn word own) (leave.drawn word own) (q.drawn word own)
              (z.drawn word own);
          stored = λ fault flash bytes own.
              settles own _ (p.stored fault flash bytes own) (leave.stored fault flash bytes own)
              (q.stored fault flash bytes own) (z.stored fault flash bytes own);
        };
        handed = handed_settled;
        whole = whole_of;
      }
