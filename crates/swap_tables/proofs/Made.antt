-- A swap of a pair, by whether the driver has been entered.
use Rattle.std.proofs.Common.{arith, refl, ap, sym, subst, ◌∙◌, ◌≡◌, ◌<◌, ◌≤◌, ◌^◌, ℕ, ◌+◌, ◌-◌, List, [], ◌∷◌, ◌++◌}
use Rattle.std.proofs.Common.{length, drop, cond, length-append, Option, None, Some, eq-eqb}
use Rattle.std.specs.Prelude.{option_map, IfSome, IfNone}
use Rattle.std.proofs.lemmas.List.{take_at, drop_at, length-take-le, length-drop}
use Rattle.tk_base.specs.declared.upcall.Counts.{Counts}
use Rattle.process_layout.specs.LayoutView.{LayoutView}
use Rattle.grant_values.specs.declared.drivers.Driver.{Driver}
use Rattle.grant_values.specs.declared.drivers.Driver.TheVariants.{Alarm, Buttons, Console, Leds, Random, Storage}
use Rattle.grant_values.specs.Drivers.{cost_of, counts_by, counts_of, driver_of}
use Rattle.grant_model.specs.Grants.{Grant, grant_of, with_grant, entering, fresh, pair_of, with_pair}
use Rattle.grant_model.specs.Encoding.{EncodesGrants, Tells, decode_grants}
use Rattle.grant_region.specs.Region.{with_room, roomed, below, above, Leaves, LeavesArea, Parts, parts_of}
use Rattle.grant_region.specs.Laws.{PartsJoin}
use Rattle.swap_tables.specs.declared.handover.Handover.{Handover}
use Rattle.swap_tables.specs.Swaps.{Swaps, SwapsHeld, with_swapped_pair}
use Rattle.swap_tables.proofs.Held.{shape-is}

-- each driver's cost is a word
fits : (driver : Driver) → cost_of (counts_by driver) < 2 ^ 32
fits Alarm = omega arith
fits Console = omega arith
fits Leds = omega arith
fits Buttons = omega arith
fits Random = omega arith
fits Storage = omega arith

pub cost-fits : (number : ℕ) (counts : Counts) → counts_of number ≡ Some counts → cost_of counts < 2 ^ 32
unfolding counts_of
cost-fits number counts is = by_driver (driver_of number) is
  where
    by_driver : (driver : Option Driver) → option_map counts_by driver ≡ Some counts → cost_of counts < 2 ^ 32
    by_driver None e = absurd (cc)
    by_driver (Some driver) e = let same : counts_by driver ≡ counts = cc in
        subst (λ c. cost_of c < 2 ^ 32) same (fits driver)

-- a new grant is the first of its driver
with_fresh : (driver : ℕ) (gs : List Grant) (change : Grant → Grant)
    → with_grant driver change (fresh driver ∷ gs) ≡ change (fresh driver) ∷ gs
with_fresh driver gs change =
    ap (λ b. cond b (change (fresh driver) ∷ gs) (fresh driver ∷ with_grant driver change gs))
    (eq-eqb driver driver refl)

fresh_is : (driver : ℕ) → grant_of driver (fresh driver ∷ []) ≡ Some (fresh driver)
fresh_is driver = ap (λ b. cond b (Some (fresh driver)) None) (eq-eqb driver driver refl)

-- its pair is swapped
there : (h : Handover) (area area' : List ℕ) (r : Option (ℕ × ℕ)) → decode_grants area ≡ fresh h.driver ∷ []
    → IfSome r (SwapsHeld h area area') → IfNone r (grant_of h.driver (decode_grants area) ≡ None)
    → Tells area' (with_pair h.kind h.number h.pair (fresh h.driver) ∷ [])
there h area area' (Some former) made some none =
    let change = with_pair h.kind h.number h.pair in
    let whole : with_grant h.driver change (decode_grants area) ≡ change (fresh h.driver) ∷ [] =
    ap (with_grant h.driver change) made ∙ with_fresh h.driver [] change in
    subst (Tells area') whole some.tells
there h area area' None made some none =
    let is : grant_of h.driver (decode_grants area) ≡ Some (fresh h.driver) =
    ap (grant_of h.driver) made ∙ fresh_is h.driver in
    let n : grant_of h.driver (decode_grants area) ≡ None = none in
    absurd (cc)

-- an area, in which a pair was put, is left at the end of a part
left : (e : LayoutView) (app app' front area area' : List ℕ) (g h : Grant) → LeavesArea e app app' g
    → front ≡ below e app' → area ≡ above e app' → length area' ≡ length area → Tells area' (h ∷ [])
    → LeavesArea e app (front ++ area') h
left e app app' front area area' g h l first rest long tells =
    let n = e.kernel_break - e.start in
    let room : n ≤ length app' = subst (λ k. n ≤ k) (sym l.size) l.within in
    let flen : length front ≡ n = ap length first ∙ length-take-le n app' room in
    let alen : length area ≡ length app' - n = ap length rest ∙ length-drop n app' in
    let back : drop n (front ++ area') ≡ area' = drop_at front area' n flen in
    record {
      size = both (length front) (length area') (length area) n (length app') flen long alen room
          (length-append front area') ∙ l.size;
      within = l.within;
      own = take_at front area' n flen ∙ first ∙ l.own;
      tells = subst (λ bytes. Tells bytes (h ∷ [])) (sym back) tells;
    }
  where
    both : (f b a n l : ℕ) → f ≡ n → b ≡ a → a ≡ l - n → n ≤ l → {t : ℕ} → t ≡ f + b → t ≡ l
    both f b a n l u v w x y = omega arith

-- the driver has not been entered: its area is made, and a pair of it swapped
pub swaps-made : PartsJoin → (h : Handover) (r : Option (ℕ × ℕ)) (before : Parts) (e : LayoutView)
    (app front area area' kernel : List ℕ)
    → counts_of h.driver ≡ Some h.counts → EncodesGrants before.kernel → kernel ≡ before.kernel
    → grant_of h.driver (decode_grants before.kernel) ≡ None
    → e ≡ with_room (cost_of h.counts) before.layout → LeavesArea e before.app app (fresh
    h.driver) → front ≡ below e app
    → area ≡ above e app → length area' ≡ length area
    → IfSome r (SwapsHeld h area area') → IfNone r (grant_of h.driver (decode_grants area) ≡ None)
    → Swaps h before (parts_of e (front ++ area') kernel) (0, 0)
swaps-made law h r before e app front area area' kernel known is same absent layout l first rest long some none =
    let gs = decode_grants before.kernel in
    let change = with_pair h.kind h.number h.pair in
    let made : decode_grants area ≡ fresh h.driver ∷ [] = ap decode_grants rest ∙ l.tells.grants in
    let new : LeavesArea e before.app (front ++ area') (change (fresh h.driver)) =
    left e before.app app front area area' (fresh h.driver) (change (fresh h.driver)) l first rest long
    (there h area area' r made some none) in
    let whole : change (fresh h.driver) ∷ gs ≡ with_swapped_pair h gs =
    sym (with_fresh h.driver gs change) ∙ ap (with_grant h.driver change) (sym (ap (entering h.driver gs) absent)) in
    record {
      former = sym (ap (pair_of h.kind h.number) absent);
      layout = layout ∙ ap (λ c. with_room (cost_of c) before.layout) (sym (shape-is h.driver h.counts known))
          ∙ sym (ap (roomed h.driver before.layout) absent);
      grants = subst (λ k. Leaves before (parts_of e (front ++ area') k) (with_swapped_pair h gs)) (sym same)
          (subst (Leaves before (parts_of e (front ++ area') before.kernel)) whole
          (law.made before e (front ++ area') (change (fresh h.driver)) is new));
    }
