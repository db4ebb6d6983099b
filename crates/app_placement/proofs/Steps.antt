-- One step of placing the applications among the objects that were found.
use Rattle.std.proofs.Common.{◌≡◌, ℕ, ◌+◌, ◌<◌, ◌≤◌, Bool, List, [], ◌∷◌, ◌++◌, length, get_or, drop, Option, Some}
use Rattle.std.proofs.Common.{None, sym, ap, ◌∙◌, append_assoc, add-one, arith}
use Rattle.std.specs.List.{filter_map, cons_option}
use Rattle.std.proofs.lemmas.Grind.{common_steps}
use Rattle.std.proofs.Math.Seq.{drop-cons}
use Rattle.flash_walk.specs.declared.found.Found.{Found}
use Rattle.app_placement.specs.declared.application.Application.{Application}
use Rattle.app_placement.specs.declared.placed.Filled.{Filled}
use Rattle.app_placement.specs.declared.placed.Placed.{Placed}
use Rattle.app_placement.specs.Placement.{place_of, filled_after, places_from}

-- the applications from a place on
filter_map-drop : (ask : Found → Option Application) (found : List Found) (i : ℕ) (d : Found) → i < length found
    → filter_map ask (drop i found) ≡ cons_option (ask (get_or found i d)) (filter_map ask (drop (i + 1) found))
filter_map-drop ask found i d h =
    ap (filter_map ask) (drop-cons found i d h)
    ∙ ap (λ n. cons_option (ask (get_or found i d)) (filter_map ask (drop n found))) (sym (add-one i))

-- what is left after an application
pub left_after_one : (whole items : List Placed) (partition : Bool) (ram : ℕ) (filled : Filled)
    (ask : Found → Option Application) (found : List Found) (i : ℕ) (d : Found) (app : Application) → i < length found
    → ask (get_or found i d) ≡ Some app
    → items ++ places_from partition ram filled (filter_map ask (drop i found)) ≡ whole
    → (items ++ record { offset = app.offset; place = place_of partition ram filled app } ∷ [])
    ++ places_from partition ram (filled_after filled (place_of partition ram filled app))
    (filter_map ask (drop (i + 1) found)) ≡ whole
unfolding places_from
left_after_one whole items partition ram filled ask found i d app h e left =
    append_assoc items _ _
    ∙ ap (λ apps. items ++ places_from partition ram filled apps)
    (sym (filter_map-drop ask found i d h ∙ ap (λ o. cons_option o (filter_map ask (drop (i + 1) found))) e))
    ∙ left

-- what is left after an object that is no application
pub left_after_none : (whole items : List Placed) (partition : Bool) (ram : ℕ) (filled : Filled)
    (ask : Found → Option Application) (found : List Found) (i : ℕ) (d : Found) → i < length found
    → ask (get_or found i d) ≡ None
    → items ++ places_from partition ram filled (filter_map ask (drop i found)) ≡ whole
    → items ++ places_from partition ram filled (filter_map ask (drop (i + 1) found)) ≡ whole
left_after_none whole items partition ram filled ask found i d h e left =
    ap (λ apps. items ++ places_from partition ram filled apps)
    (sym (filter_map-drop ask found i d h ∙ ap (λ o. cons_option o (filter_map ask (drop (i + 1) found))) e))
    ∙ left

drop_all : (xs : List Found) (n : ℕ) → length xs ≤ n → drop n xs ≡ []
drop_all xs n h = grind (arith, common_steps)

-- nothing is left at the end
pub whole_at_end : (whole items : List Placed) (partition : Bool) (ram : ℕ) (filled : Filled)
    (ask : Found → Option Application) (found : List Found) (n : ℕ) → length found ≤ n
    → items ++ places_from partition ram filled (filter_map ask (drop n found)) ≡ whole → items ≡ whole
unfolding places_from
whole_at_end whole items partition ram filled ask found n h left =
    let none : drop n found ≡ [] = drop_all found n h in
    let last : items ++ [] ≡ whole =
    ap (λ fs. items ++ places_from partition ram filled (filter_map ask fs)) (sym none) ∙ left in
    grind (arith, common_steps)
