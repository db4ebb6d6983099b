-- A block that is lent in its two parts, and what is left of it. The parts are the block cut at the kernel break, so
-- what is put back is the two joined (`with_run`), and RAM outside of the block is as it was. A contract over the
-- parts, as of a grant's room or of a swap, becomes one over memory (`regrants_in`, `swaps_in`), with the layout that
-- it leaves.
use Rattle.std.proofs.Common.{◌≡◌, ℕ, ◌+◌, ◌-◌, ◌≤◌, List, ◌++◌, length, take, drop, Option, None, Some}
use Rattle.std.specs.Prelude.{OnOk}
use Rattle.std.proofs.Common.{Result, Ok, Err, IfOk, refl, sym, ap, subst, ◌∙◌, rules, arith}
use Rattle.std.specs.Prelude.{slice_range}
use Rattle.std.proofs.lemmas.List.{places, take_all, take-append-le, length-drop, length-append}
use Rattle.std.proofs.lemmas.Grind.{same_number_lists}
use Rattle.tk_base.specs.declared.access.TheConstants.{RAM_START}
use Rattle.process_layout.specs.LayoutView.{LayoutView}
use Rattle.process_layout.specs.Bounds.{bounds_of}
use Rattle.board_memory.specs.Memory.{MemoryBytes, ram_between, with_run}
use Rattle.tk_base.specs.Bytes.{over}
use Rattle.swap_tables.specs.declared.handover.Handover.{Handover}
use Rattle.grant_model.specs.Grants.{Grant, costs, grant_of}
use Rattle.grant_model.proofs.Costs.{kernel_costs}
use Rattle.grant_model.specs.Encoding.{EncodesGrants, decode_grants}
use Rattle.process_layout.specs.Ordered.{IsOrdered}
use Rattle.grant_region.specs.Region.{AreParts, Leaves, Parts, below, above, roomed}
use Rattle.swap_tables.specs.Swaps.{Swaps, held_pair, with_swapped_pair}
use Rattle.process_seat.specs.Places.{FitsMemory}
use Rattle.process_seat.specs.Windows.{SameOutside}
use Rattle.process_seat.specs.Seats.{IsKept, Regrants, SwapsIn, app_in, kernel_in}
use Rattle.process_seat.proofs.Windows.{length_window, over_outside, over_part}

-- what was written over memory, where it fits
pub run_is : (m : MemoryBytes) (from : ℕ) (ys : List ℕ) → from - RAM_START + length ys ≤ length m.ram
    → with_run m from ys ≡ record m { ram = over m.ram (from - RAM_START) ys }
run_is m from ys fits =
    let zs = over m.ram (from - RAM_START) ys in
    let long : length zs ≡ length m.ram = (over_outside m.ram ys (from - RAM_START) fits).long in
    ap (λ (xs : List ℕ). record m { ram = xs })
    (take-append-le (length m.ram) zs (drop (length zs) m.ram) (omega arith)
    ∙ take_all (length m.ram) zs (omega arith))

front_part : (xs : List ℕ) (a b c : ℕ) → a ≤ b → b ≤ c → c ≤ length xs
    → take (b - a) (slice_range xs a c) ≡ slice_range xs a b
front_part xs a b c p q r = same_number_lists _ _ (search (rules, places)) (λ k h. grind (arith, places))

back_part : (xs : List ℕ) (a b c : ℕ) → a ≤ b → b ≤ c → c ≤ length xs
    → drop (b - a) (slice_range xs a c) ≡ slice_range xs b c
back_part xs a b c p q r = same_number_lists _ _ (search (rules, places)) (λ k h. grind (arith, places))

front_all : (xs : List ℕ) (b : ℕ) → slice_range xs 0 b ≡ take b xs
front_all xs b = ap (λ (n : ℕ). take n xs) (omega arith)

back_all : (xs : List ℕ) (a c : ℕ) → a ≤ c → c ≡ length xs → slice_range xs a c ≡ drop a xs
back_all xs a c h is = take_all (c - a) (drop a xs) (omega (arith, length-drop a xs))

-- a layout with room for one more grant, or as it was
pub record SameEnds (e f : LayoutView) : Type 0 where
  pub start : f.start ≡ e.start
  pub end : f.end ≡ e.end
  pub lower : f.kernel_break ≤ e.kernel_break

pub roomed_ends : (driver : ℕ) (e : LayoutView) (g : Option Grant) → SameEnds e (roomed driver e g)
roomed_ends driver e None = record { start = refl; end = refl; lower = omega arith }
roomed_ends driver e (Some g) = record { start = refl; end = refl; lower = omega arith }

-- the two parts of the block in memory where a layout says
pub record AreLent (m : MemoryBytes) (e : LayoutView) (parts : Parts) : Type 0 where
  pub layout : parts.layout ≡ e
  pub app : parts.app ≡ take (e.kernel_break - e.start) (ram_between m.ram e.start e.end)
  pub kernel : parts.kernel ≡ drop (e.kernel_break - e.start) (ram_between m.ram e.start e.end)

module _ (m : MemoryBytes) (e : LayoutView) (s : FitsMemory (length m.flash) (length m.ram) e) where
  differ : e.kernel_break - RAM_START - (e.start - RAM_START) ≡ e.kernel_break - e.start
  differ = omega (arith, s.from, s.ordered.block, s.ordered.grants)

  -- what is lent
  pub lent_app : take (e.kernel_break - e.start) (ram_between m.ram e.start e.end) ≡ app_in m.ram e
  lent_app = ap (λ (n : ℕ). take n (ram_between m.ram e.start e.end)) (sym differ)
      ∙ front_part m.ram (e.start - RAM_START) (e.kernel_break - RAM_START) (e.end - RAM_START)
      (omega (arith, s.ordered.block, s.ordered.grants)) (omega (arith, s.ordered.end)) (omega (arith, s.to, s.from))

  pub lent_kernel : drop (e.kernel_break - e.start) (ram_between m.ram e.start e.end) ≡ kernel_in m.ram e
  lent_kernel = ap (λ (n : ℕ). drop n (ram_between m.ram e.start e.end)) (sym differ)
      ∙ back_part m.ram (e.start - RAM_START) (e.kernel_break - RAM_START) (e.end - RAM_START)
      (omega (arith, s.ordered.block, s.ordered.grants)) (omega (arith, s.ordered.end)) (omega (arith, s.to, s.from))

  pub length_app : length (app_in m.ram e) ≡ e.kernel_break - e.start
  length_app = length_window m.ram (e.start - RAM_START) (e.kernel_break - RAM_START)
      (omega (arith, s.to, s.from, s.ordered.end)) ∙ differ

  pub length_kernel : length (kernel_in m.ram e) ≡ e.end - e.kernel_break
  length_kernel =
      length_window m.ram (e.kernel_break - RAM_START) (e.end - RAM_START) (omega (arith, s.to, s.from))
      ∙ omega (arith, s.from, s.ordered.block, s.ordered.grants)

  -- the kernel break is the block's end less what the grants cost
  pub break_is : EncodesGrants (kernel_in m.ram e) → e.kernel_break ≡ e.end - costs (decode_grants (kernel_in m.ram e))
  break_is laid =
      let long = length_kernel in
      let cost = kernel_costs (kernel_in m.ram e) laid in
      omega (arith, long, cost, s.ordered.end)

  pub length_block : length (ram_between m.ram e.start e.end) ≡ e.end - e.start
  length_block = length_window m.ram (e.start - RAM_START) (e.end - RAM_START) (omega (arith, s.to, s.from))
      ∙ omega (arith, s.from, s.ordered.block, s.ordered.grants)

  pub lent_parts : (parts : Parts) → AreLent m e parts → IsKept (bounds_of e) (kernel_in m.ram e) → AreParts parts
  lent_parts parts lent kept =
      let n : length parts.kernel ≡ e.end - e.kernel_break = ap length (lent.kernel ∙ lent_kernel) ∙ length_kernel in
      record {
        size = ap length (lent.app ∙ lent_app) ∙ length_app
            ∙ ap (λ (x : LayoutView). x.kernel_break - x.start) (sym lent.layout);
        laid = rw (lent.kernel, lent_kernel) kept.laid;
        small = omega (arith, s.fits);
      }

  -- what stands in memory once as many bytes were written over the block
  module _ (bytes : List ℕ) (size : length bytes ≡ e.end - e.start) where
    fits : e.start - RAM_START + length bytes ≤ length m.ram
    fits = omega (arith, s.to, s.from, s.ordered.block, s.ordered.grants, s.ordered.end)

    whole : with_run m e.start bytes ≡ record m { ram = over m.ram (e.start - RAM_START) bytes }
    whole = run_is m e.start bytes fits

    pub run_flash : (with_run m e.start bytes).flash ≡ m.flash
    run_flash = refl

    pub run_elsewhere : SameOutside (e.start - RAM_START) (e.end - RAM_START) m.ram (with_run m e.start bytes).ram
    run_elsewhere =
        subst (λ (xs : List ℕ). SameOutside (e.start - RAM_START) (e.end - RAM_START) m.ram xs)
        (sym (ap (λ (x : MemoryBytes). x.ram) whole))
        (rw ends at (over_outside m.ram bytes (e.start - RAM_START) fits))
      where
        ends : e.start - RAM_START + length bytes ≡ e.end - RAM_START
        ends = omega (arith, s.from, s.ordered.block, s.ordered.grants, s.ordered.end)

    -- from one address of the block up to another
    pub run_part : (a b : ℕ) → e.start ≤ a → b ≤ e.end
        → ram_between (with_run m e.start bytes).ram a b ≡ slice_range bytes (a - e.start) (b - e.start)
    run_part a b low high =
        ap (λ (x : MemoryBytes). ram_between x.ram a b) whole
        ∙ over_part m.ram bytes (e.start - RAM_START) (a - RAM_START) (b - RAM_START) fits (omega arith)
        (omega (arith, s.from, s.ordered.block, s.ordered.grants, s.ordered.end))
        ∙ ap (λ (i : ℕ). slice_range bytes i (b - RAM_START - (e.start - RAM_START))) (omega (arith, s.from))
        ∙ ap (slice_range bytes (a - e.start)) (omega (arith, s.from))

    pub run_app : (f : LayoutView) → f.start ≡ e.start → f.kernel_break ≤ e.end
        → app_in (with_run m e.start bytes).ram f ≡ below f bytes
    run_app f start order =
        run_part f.start f.kernel_break (omega arith) order
        ∙ ap (λ (i : ℕ). slice_range bytes i (f.kernel_break - e.start)) (omega arith)
        ∙ ap (slice_range bytes 0) (omega arith)
        ∙ front_all bytes (f.kernel_break - f.start)

    pub run_kernel : (f : LayoutView) → f.start ≡ e.start → f.end ≡ e.end → e.start ≤ f.kernel_break
        → f.kernel_break ≤ e.end → kernel_in (with_run m e.start bytes).ram f ≡ above f bytes
    run_kernel f start end low order =
        run_part f.kernel_break f.end low (omega arith)
        ∙ ap (λ (i : ℕ). slice_range bytes i (f.end - e.start)) (omega arith)
        ∙ back_all bytes (f.kernel_break - f.start) (f.end - e.start) (omega arith) (omega (arith, size))

  -- two parts that were left as a block of another layout
  leaves_block : (before after : Parts) (gs : List Grant) → AreLent m e before
      → length after.kernel ≡ length before.kernel
      → SameEnds e after.layout → IsOrdered after.layout → Leaves before after gs
      → Regrants m e (with_run m e.start (after.app ++ after.kernel)) after.layout gs
  leaves_block before after gs lent long ends o left =
      let f = after.layout in
      let bytes = after.app ++ after.kernel in
      let app_long : length before.app ≡ e.kernel_break - e.start = ap length (lent.app ∙ lent_app) ∙ length_app in
      let kernel_long : length before.kernel ≡ e.end - e.kernel_break =
      ap length (lent.kernel ∙ lent_kernel) ∙ length_kernel in
      let size : length bytes ≡ e.end - e.start =
      length-append after.app after.kernel ∙ omega
      (arith, left.size, s.ordered.block, s.ordered.grants, s.ordered.end) in
      let low : e.start ≤ f.kernel_break = omega (arith, ends.start, o.block, o.grants) in
      let high : f.kernel_break ≤ e.end = omega (arith, ends.lower, s.ordered.end) in
      record {
        ordered = o;
        flash = refl;
        elsewhere = run_elsewhere bytes size;
        app = run_app bytes size f ends.start high ∙ left.own ∙ ap (below f) (lent.app ∙ lent_app);
        tells = rw (run_kernel bytes size f ends.start ends.end low high) left.tells;
      }

  -- two parts that were left as a block with room for a driver's grant
  module _ (driver : ℕ) (before after : Parts) (lent : AreLent m e before)
      (layout : after.layout ≡ roomed driver e (grant_of driver (decode_grants before.kernel))) where
    pub room_in : after.layout ≡ roomed driver e (grant_of driver (decode_grants (kernel_in m.ram e)))
    room_in =
        layout ∙ ap (λ (xs : List ℕ). roomed driver e (grant_of driver (decode_grants xs))) (lent.kernel ∙ lent_kernel)

    pub regrants_in : (grants : List Grant → List Grant) → length after.kernel ≡ length before.kernel
        → IsOrdered after.layout → Leaves before after (grants (decode_grants before.kernel))
        → Regrants m e (with_run m e.start (after.app ++ after.kernel)) after.layout
        (grants (decode_grants (kernel_in m.ram e)))
    regrants_in grants long o left =
        subst (λ (xs : List ℕ). Regrants m e (with_run m e.start (after.app ++ after.kernel)) after.layout
        (grants (decode_grants xs))) (lent.kernel ∙ lent_kernel)
        (leaves_block before after (grants (decode_grants before.kernel)) lent long
        (subst (SameEnds e) (sym layout) (roomed_ends driver e (grant_of driver (decode_grants before.kernel)))) o left)

pub if_ok : {A E : Type 0} {P Q : A → Type 0} (r : Result A E) → ((a : A) → P a → Q a) → IfOk r P → IfOk r Q
if_ok (Ok a) f p = f a p
if_ok (Err e) f p = tt

pub both_ok : {A E P : Type 0} {Q R : A → Type 0} (r : Result A E) → ((a : A) → P → Q a → R a) → OnOk r P → IfOk r Q
    → IfOk r R
both_ok (Ok a) f p q = f a p q
both_ok (Err e) f p q = tt

-- a swap in the two parts of a block is one in memory
pub swaps_in : (m : MemoryBytes) (e : LayoutView) → FitsMemory (length m.flash) (length m.ram) e
    → (h : Handover) (before after : Parts) → AreLent m e before → length after.kernel ≡ length before.kernel
    → IsOrdered after.layout → (answer : ℕ × ℕ) → Swaps h before after answer
    → SwapsIn h m e (with_run m e.start (after.app ++ after.kernel)) after.layout answer
swaps_in m e s h before after lent long o answer sw =
    let layout : after.layout ≡ roomed h.driver e (grant_of h.driver (decode_grants before.kernel)) =
    sw.layout
    ∙ ap (λ (x : LayoutView). roomed h.driver x (grant_of h.driver (decode_grants before.kernel))) lent.layout in
    record {
      former = sw.former
          ∙ ap (λ (xs : List ℕ). held_pair h.kind h.driver h.number xs) (lent.kernel ∙ lent_kernel m e s);
      layout = room_in m e s h.driver before after lent layout;
      grants = regrants_in m e s h.driver before after lent layout (with_swapped_pair h) long o sw.grants;
    }
