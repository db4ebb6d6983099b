-- What grants cost: as many bytes as they are.
use Rattle.std.proofs.Common.{◌≡◌, ℕ, ◌+◌, ◌*◌, ◌==◌, Bool, true, false, cond, List, [], ◌∷◌, length, length-append}
use Rattle.std.proofs.Common.{refl, ap, ◌∙◌, arith}
use Rattle.std.specs.List.{AllByRecursion}
use Rattle.grant_values.specs.Drivers.{cost_of}
use Rattle.grant_values.proofs.WordPlaces.{length-bytes}
use Rattle.grant_model.specs.Grants.{Grant, costs, shape_of, with_grant}
use Rattle.grant_model.specs.Encoding.{EncodesGrants, IsSound, areas, body_words, decode_grants}
use Rattle.grant_model.proofs.Back.{cost-words, length-body}

-- a grant that is changed costs as much, as long as it is its driver's
pub same_costs : (driver : ℕ) (change : Grant → Grant) (gs : List Grant)
    → ((g : Grant) → (change g).driver ≡ g.driver) → costs (with_grant driver change gs) ≡ costs gs
same_costs driver change [] stays = refl
same_costs driver change (g ∷ gs) stays = by_test (g.driver == driver) (same_costs driver change gs stays)
  where
    by_test : (b : Bool) → costs (with_grant driver change gs) ≡ costs gs
        → costs (cond b (change g ∷ gs) (g ∷ with_grant driver change gs)) ≡ costs (g ∷ gs)
    by_test true later = ap (λ (d : ℕ). cost_of (shape_of d) + costs gs) (stays g)
    by_test false later = ap (λ (n : ℕ). cost_of (shape_of g.driver) + n) later

words_cost : (gs : List Grant) → AllByRecursion IsSound gs → 4 * length (areas gs) ≡ costs gs
words_cost [] all = refl
words_cost (g ∷ gs) all =
    let later = words_cost gs all.1 in
    let body = length-body g all.0 in
    let joined = length-append (body_words g) (areas gs) in
    let cost = cost-words (shape_of g.driver) in
    omega (arith, later, body, joined, cost)

-- the kernel's bytes of a block are as many as its grants cost
pub kernel_costs : (kernel : List ℕ) → EncodesGrants kernel → length kernel ≡ costs (decode_grants kernel)
kernel_costs kernel laid =
    ap length laid.bytes ∙ length-bytes (areas (decode_grants kernel)) ∙ words_cost (decode_grants kernel) laid.sound
