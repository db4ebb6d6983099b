-- The buffers of grants lie where they may, also once others were handed. To hand a pair changes the mark alone, which
-- never falls and stays at or below the break; what lay below it lies below it still, and the pair handed is covered by
-- it. So it is with all grants, by induction on their list, as a driver is entered or a pair is put.
use Rattle.std.proofs.Common.{◌≡◌, inl, inr, ℕ, ◌+◌, ◌≤◌, ◌<◌, ◌==◌, ◌||◌, IsTrue, Bool, true, false}
use Rattle.std.proofs.Common.{List, [], ◌∷◌, Option, None, Some, refl, sym, subst, arith, eqb-true}
use Rattle.std.specs.Prelude.{max}
use Rattle.std.specs.List.{AllByRecursion}
use Rattle.std.proofs.lemmas.Bool.{cases_Bool, cond_both}
use Rattle.std.proofs.lemmas.Bool.Decides.{nat_tests}
use Rattle.tk_base.specs.declared.kinds.PairKind.{PairKind}
use Rattle.tk_base.specs.declared.kinds.PairKind.TheVariants.{Upcall, ReadOnly}
use Rattle.tk_base.specs.Kinds.{count_of, is_buffer}
use Rattle.process_layout.specs.Bounds.{Bounds}
use Rattle.process_layout.specs.Interval.{lies_within}
use Rattle.grant_model.specs.Grants.{Grant, HasPairs, grant_of, pair_of, shape_of, with_grant, with_pair, entering}
use Rattle.grant_model.specs.Grants.{entered, fresh}
use Rattle.grant_model.specs.Encoding.{IsSound}
use Rattle.grant_model.specs.Laws.{PairsStandByKind}
use Rattle.swap_tables.specs.declared.handover.Handover.{Handover}
use Rattle.swap_tables.specs.Swaps.{with_swapped_pair}
use Rattle.process_model.specs.Handed.{lies_in_ram, lies_in_flash, may_share, marked, raised}
use Rattle.process_seat.specs.Seats.{Holds, LiesBelowMark, LiesInPlace, MayBeRead}

-- a layout with another mark
abbrev pub with_mark : ℕ → Bounds → Bounds
with_mark mark e = record e { mark = mark }

-- what holds of a layout, and of it with the mark at the end of a pair in its RAM, holds of it once that was handed
of_raised : (P : Bounds → Type 0) (pair : ℕ × ℕ) (e : Bounds) → P e
    → (lies_in_ram e pair.0 pair.1 ≡ true → P (with_mark (max e.mark (pair.0 + pair.1)) e)) → P (raised pair e)
of_raised P pair e same up =
    cond_both (pair.1 == 0) e _ P (λ none. same)
    (λ some. cond_both (lies_in_ram e pair.0 pair.1) _ e P up (λ not. same))

of_marked : (P : Bounds → Type 0) (kind : PairKind) (pair : ℕ × ℕ) (e : Bounds) → P e
    → (lies_in_ram e pair.0 pair.1 ≡ true → P (with_mark (max e.mark (pair.0 + pair.1)) e)) → P (marked kind pair e)
of_marked P kind pair e same up =
    cond_both (is_buffer kind) (raised pair e) e P (λ is. of_raised P pair e same up) (λ not. same)

-- what was handed changes the mark alone
pub only_mark : (kind : PairKind) (pair : ℕ × ℕ) (e : Bounds)
    → marked kind pair e ≡ with_mark (marked kind pair e).mark e
only_mark kind pair e = of_marked (λ f. f ≡ with_mark f.mark e) kind pair e refl (λ is. refl)

-- and never lowers it
pub mark_rises : (kind : PairKind) (pair : ℕ × ℕ) (e : Bounds) → e.mark ≤ (marked kind pair e).mark
mark_rises kind pair e = of_marked (λ f. e.mark ≤ f.mark) kind pair e (omega arith) (λ is. omega arith)

-- it stays at or below the break
pub mark_below : (kind : PairKind) (pair : ℕ × ℕ) (e : Bounds) → e.mark ≤ e.brk → (marked kind pair e).mark ≤ e.brk
mark_below kind pair e h = of_marked (λ f. f.mark ≤ e.brk) kind pair e h
    (λ is. let l : pair.0 + pair.1 ≤ e.brk = grind (arith, nat_tests) in omega arith)

-- a buffer that was handed lies where it may: one that may be written, and one that may only be read
rw_handed : (pair : ℕ × ℕ) (e : Bounds) → IsTrue (pair.1 == 0 || lies_in_ram e pair.0 pair.1)
    → LiesBelowMark (with_mark (raised pair e).mark e) pair
rw_handed pair e may some =
    let none : pair.1 == 0 ≡ false = grind (arith, nat_tests) in
    let is : lies_in_ram e pair.0 pair.1 ≡ true = grind (arith, nat_tests, may) in
    rw (none, is) (grind (arith, nat_tests), omega arith)

ro_handed : (pair : ℕ × ℕ) (e : Bounds) → IsTrue (pair.1 == 0 || lies_in_ram e pair.0 pair.1
    || lies_in_flash e pair.0 pair.1) → MayBeRead (with_mark (raised pair e).mark e) pair
ro_handed pair e may some =
    let none : pair.1 == 0 ≡ false = grind (arith, nat_tests) in
    elim (cases_Bool (lies_in_ram e pair.0 pair.1)) [
      | inl is ↦ rw (none, is) (grind (arith, nat_tests))
      | inr not ↦ rw (none, not) (grind (arith, nat_tests, may))
    ]

lies_handed : (kind : PairKind) (pair : ℕ × ℕ) (e : Bounds) → IsTrue (may_share kind e pair)
    → LiesInPlace kind (with_mark (marked kind pair e).mark e) pair
lies_handed Upcall pair e may = tt
lies_handed ReadOnly pair e may = ro_handed pair e may
lies_handed other pair e may = rw_handed pair e may

-- one without bytes lies anywhere
pub lies_zero : (kind : PairKind) (e : Bounds) → LiesInPlace kind e (0, 0)
lies_zero Upcall e = tt
lies_zero other e = λ some. absurd (omega arith)

-- a layout of the same block and the same flash, whose mark is no lower
pub record Marks (e f : Bounds) : Type 0 where
  pub start : f.start ≡ e.start
  pub mark : e.mark ≤ f.mark
  pub flash_start : f.flash_start ≡ e.flash_start
  pub flash_end : f.flash_end ≡ e.flash_end

pub wider : (a b c at size : ℕ) (f : Bool) → b ≤ c → IsTrue (lies_within a b at size || f)
    → IsTrue (lies_within a c at size || f)
wider a b c at size true h t = grind (arith, nat_tests)
wider a b c at size false h t = grind (arith, nat_tests)

below_on : (e f : Bounds) (pair : ℕ × ℕ) → Marks e f → LiesBelowMark e pair → LiesBelowMark f pair
below_on e f pair m lies = λ some. let l = lies some in (omega (arith, l.0, m.start), omega (arith, l.1, m.mark))

-- under it a pair lies where it may, as before
lies_on : (kind : PairKind) (e f : Bounds) (pair : ℕ × ℕ) → Marks e f → LiesInPlace kind e pair
    → LiesInPlace kind f pair
lies_on Upcall e f pair m lies = tt
lies_on ReadOnly e f pair m may = λ some. rw (m.start, m.flash_start, m.flash_end)
    (wider e.start e.mark f.mark pair.0 pair.1 (lies_in_flash e pair.0 pair.1) m.mark (may some))
lies_on other e f pair m lies = below_on e f pair m lies

pub holds_on : (e f : Bounds) (g : Grant) → Marks e f → Holds e g → Holds f g
holds_on e f g m h = record { each = λ kind n. lies_on kind e f (pair_of kind n (Some g)) m (h.each kind n) }

-- the layout once a pair was handed
abbrev pub noted : PairKind → ℕ × ℕ → Bounds → Bounds
noted kind pair e = with_mark (marked kind pair e).mark e

rises : (kind : PairKind) (pair : ℕ × ℕ) (e : Bounds) → Marks e (noted kind pair e)
rises kind pair e = record { start = refl; mark = mark_rises kind pair e; flash_start = refl; flash_end = refl }

-- a fresh grant has no buffers
holds_fresh : PairsStandByKind → (e : Bounds) (driver : ℕ) → Holds e (fresh driver)
holds_fresh law e driver =
    record { each = λ kind n. subst (LiesInPlace kind e) (sym (law.none kind driver n)) (lies_zero kind e) }

-- a pair that may be handed
pair_holds : PairsStandByKind → (kind : PairKind) (number : ℕ) (pair : ℕ × ℕ) (e : Bounds) (g : Grant) → HasPairs g
    → number < count_of kind (shape_of g.driver) → IsTrue (may_share kind e pair) → Holds e g
    → Holds (noted kind pair e) (with_pair kind number pair g)
pair_holds law kind number pair e g has small may h = record {
  each = λ other n. elim (law.either kind other number n pair g has small) [
    | inl put ↦ rw (put.1, put.0) (lies_handed kind pair e may)
    | inr same ↦ rw same ((holds_on e (noted kind pair e) g (rises kind pair e) h).each other n)
  ];
}

-- what holds of each grant, where it leads to another, leads to that of each
pub all_grants : (P Q : Grant → Type 0) (gs : List Grant) → ((g : Grant) → P g → Q g) → AllByRecursion P gs
    → AllByRecursion Q gs
all_grants P Q [] on all = tt
all_grants P Q (g ∷ gs) on all = (on g all.0, all_grants P Q gs on all.1)

-- what holds of each grant holds of each once a driver's was changed
pub all_with : (P Q : Grant → Type 0) (driver : ℕ) (change : Grant → Grant) (gs : List Grant)
    → ((g : Grant) → P g → Q g) → ((g : Grant) → g.driver ≡ driver → P g → Q (change g)) → AllByRecursion P gs
    → AllByRecursion Q (with_grant driver change gs)
all_with P Q driver change [] on changed all = tt
all_with P Q driver change (g ∷ gs) on changed all =
    cond_both (g.driver == driver) (change g ∷ gs) _ (AllByRecursion Q)
    (λ is. (changed g (eqb-true g.driver driver is) all.0, all_grants P Q gs on all.1))
    (λ not. (on g all.0, all_with P Q driver change gs on changed all.1))

all_both : (P Q : Grant → Type 0) (gs : List Grant) → AllByRecursion P gs → AllByRecursion Q gs
    → AllByRecursion (λ g. P g × Q g) gs
all_both P Q [] p q = tt
all_both P Q (g ∷ gs) p q = ((p.0, q.0), all_both P Q gs p.1 q.1)

-- grants of a driver that was entered
pub entering_holds : PairsStandByKind → (e : Bounds) (driver : ℕ) (gs : List Grant) (g : Option Grant)
    → AllByRecursion (Holds e) gs → AllByRecursion (Holds e) (entering driver gs g)
entering_holds law e driver gs None all = (holds_fresh law e driver, all)
entering_holds law e driver gs (Some g) all = all

entering_pairs : PairsStandByKind → (driver : ℕ) (gs : List Grant) (g : Option Grant) → AllByRecursion IsSound gs
    → AllByRecursion HasPairs (entering driver gs g)
entering_pairs law driver gs None all = (law.made driver, all_grants IsSound HasPairs gs (λ g s. s.pairs) all)
entering_pairs law driver gs (Some g) all = all_grants IsSound HasPairs gs (λ g s. s.pairs) all

-- all buffers lie where they may once a pair was handed
pub handed_holds : PairsStandByKind → (h : Handover) (e : Bounds) (gs : List Grant) → AllByRecursion IsSound gs
    → h.number < count_of h.kind (shape_of h.driver) → IsTrue (may_share h.kind e h.pair) → AllByRecursion (Holds e) gs
    → AllByRecursion (Holds (noted h.kind h.pair e)) (with_swapped_pair h gs)
handed_holds law h e gs sound small may all =
    let change = with_pair h.kind h.number h.pair in
    let f = noted h.kind h.pair e in
    all_with (λ g. HasPairs g × Holds e g) (Holds f) h.driver change (entered h.driver gs)
    (λ g p. holds_on e f g (rises h.kind h.pair e) p.1)
    (λ g same p. pair_holds law h.kind h.number h.pair e g p.0
    (subst (λ (d : ℕ). h.number < count_of h.kind (shape_of d)) (sym same) small) may p.1)
    (all_both HasPairs (Holds e) (entered h.driver gs)
    (entering_pairs law h.driver gs (grant_of h.driver gs) sound)
    (entering_holds law e h.driver gs (grant_of h.driver gs) all))
