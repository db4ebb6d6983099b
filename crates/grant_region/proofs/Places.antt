-- What stands at a driver's place.
use Rattle.std.proofs.Common.{arith, ap, sym, ◌∙◌, ◌≡◌, ◌≤◌, ℕ, ◌+◌, ◌*◌, ◌/◌, List, length, get_or, Some}
use Rattle.std.specs.Prelude.{option_map}
use Rattle.grant_values.specs.Words.{words_of}
use Rattle.grant_values.specs.Drivers.{cost_of}
use Rattle.grant_model.specs.Grants.{shape_of}
use Rattle.grant_model.specs.Encoding.{body_size, EncodesGrants, area_place, area_at, area_of, decode_grants}
use Rattle.grant_model.specs.Laws.{AreasAreFound}
use Rattle.grant_region.proofs.Walk.{cost-words}

pub record Placed (place driver : ℕ) (kernel : List ℕ) : Type 0 where
  pub area : Some (area_at driver place) ≡ area_of driver (decode_grants kernel)
  pub head : 4 * place + 8 ≤ length kernel
  pub fits : 4 * place + cost_of (shape_of driver) ≤ length kernel
  pub cost_is : get_or (words_of kernel) (place + 1) 0 ≡ cost_of (shape_of driver)

pub placed : AreasAreFound → (place driver : ℕ) (kernel : List ℕ) → EncodesGrants kernel
    → Some place ≡ area_place driver 0 (decode_grants kernel) → Placed place driver kernel
placed law place driver kernel is at =
    let area : Some (area_at driver place) ≡ area_of driver (decode_grants kernel) =
    ap (option_map (area_at driver)) at in
    let h = law.found driver kernel (area_at driver place) is area in
    let one : 4 * place / 4 + 1 ≡ place + 1 = omega arith in
    record {
      area = area;
      head = two_words place (cost_of (shape_of driver)) (body_size (shape_of driver)) (length kernel)
          (cost-words (shape_of driver)) h.within;
      fits = h.within;
      cost_is = ap (λ n. get_or (words_of kernel) n 0) (sym one) ∙ h.second;
    }
  where
    two_words : (p c b l : ℕ) → c ≡ 4 * (2 + b) → 4 * p + c ≤ l → 4 * p + 8 ≤ l
    two_words p c b l e h = omega arith
