-- Room for one more area.
use Rattle.std.proofs.Common.{arith, refl, ap, sym, subst, ◌∙◌, ◌≡◌, ◌≤◌, ℕ, ◌+◌, ◌-◌, List, [], ◌∷◌, ◌++◌, length}
use Rattle.std.proofs.Common.{drop, cond, None, Some, eq-eqb}
use Rattle.std.specs.Prelude.{option_map}
use Rattle.std.specs.List.{AllByRecursion}
use Rattle.std.specs.Int.{w32, to_le_bytes}
use Rattle.std.proofs.lemmas.List.{drop_at, append-nil, take-append-le, drop-append-le}
use Rattle.process_layout.specs.LayoutView.{LayoutView}
use Rattle.grant_values.specs.Words.{bytes_of_words}
use Rattle.grant_model.specs.Grants.{Grant, shape_of, grant_of, entering, entered, fresh}
use Rattle.grant_model.specs.Encoding.{body_size, area_words, areas, encode_grants, IsSound, EncodesGrants, Tells}
use Rattle.grant_model.specs.Encoding.{area_place, area_at, area_of, decode_grants}
use Rattle.grant_model.specs.Laws.{IsReadBack}
use Rattle.grant_region.specs.Laws.{PartsJoin}
use Rattle.grant_region.specs.Region.{LeavesArea, Leaves, Parts, above, parts_of}

bytes-append : (xs ys : List ℕ) → bytes_of_words (xs ++ ys) ≡ bytes_of_words xs ++ bytes_of_words ys
bytes-append [] ys = refl
bytes-append (x ∷ xs) ys = ap (λ z. to_le_bytes w32 x ++ z) (bytes-append xs ys)

-- a new area below the others
below_others : IsReadBack → (area kernel : List ℕ) (g : Grant) → Tells area (g ∷ []) → EncodesGrants kernel
    → Tells (area ++ kernel) (g ∷ decode_grants kernel)
below_others law area kernel g new is =
    let sound : AllByRecursion IsSound (g ∷ []) = subst (AllByRecursion IsSound) new.grants new.laid.sound in
    let one : area ≡ bytes_of_words (area_words g) =
    new.laid.bytes ∙ ap encode_grants new.grants ∙ ap bytes_of_words (append-nil (area_words g)) in
    let lay : area ++ kernel ≡ encode_grants (g ∷ decode_grants kernel) =
    ap (λ z. z ++ kernel) one ∙ ap (λ z. bytes_of_words (area_words g) ++ z) is.bytes
    ∙ sym (bytes-append (area_words g) (areas (decode_grants kernel))) in
    subst (λ bytes. Tells bytes (g ∷ decode_grants kernel)) (sym lay)
    (law.back (g ∷ decode_grants kernel) (sound.0, is.sound))

kept : (parts : Parts) (gs : List Grant) → length parts.app ≡ parts.layout.kernel_break - parts.layout.start
    → Tells parts.kernel gs → Leaves parts parts gs
kept parts gs size tells =
    let n = parts.layout.kernel_break - parts.layout.start in
    let back : drop n (parts.app ++ parts.kernel) ≡ parts.kernel = drop_at parts.app parts.kernel n size in
    record {
      size = refl;
      own = take-append-le n parts.app parts.kernel (omega (arith, size));
      tells = subst (λ bytes. Tells bytes gs) (sym back) tells;
    }

made : IsReadBack → (before : Parts) (e : LayoutView) (app : List ℕ) (g : Grant) → EncodesGrants before.kernel
    → LeavesArea e before.app app g → Leaves before (parts_of e app before.kernel) (g ∷ decode_grants before.kernel)
made law before e app g is l =
    let n = e.kernel_break - e.start in
    let long : n ≤ length app = omega (arith, l.size, l.within) in
    let back : above e app ++ before.kernel ≡ above e (app ++ before.kernel) =
    sym (drop-append-le n app before.kernel long) in
    record {
      size = l.size;
      own = take-append-le n app before.kernel long ∙ l.own;
      tells = subst (λ bytes. Tells bytes (g ∷ decode_grants before.kernel)) back
          (below_others law (above e app) before.kernel g l.tells is);
    }

pub parts-join : IsReadBack → PartsJoin
parts-join law = record { kept = kept; made = made law }

-- the area of a driver that was entered last
pub area_fresh : (driver : ℕ) (gs all : List Grant) → all ≡ fresh driver ∷ gs
    → Some (area_at driver 0) ≡ area_of driver all
area_fresh driver gs all whole =
    let first : Some 0 ≡ area_place driver 0 (fresh driver ∷ gs) =
    ap (λ b. cond b (Some 0) (area_place driver (0 + (2 + body_size (shape_of driver))) gs))
    (sym (eq-eqb driver driver refl)) in
    ap (option_map (area_at driver)) (first ∙ ap (area_place driver 0) (sym whole))

-- a driver that is entered stays, and one that is not is entered first
pub entered_known : (driver : ℕ) (gs : List Grant) (g : Grant) → grant_of driver gs ≡ Some g → entered driver gs ≡ gs
entered_known driver gs g is = ap (entering driver gs) is

pub entered_new : (driver : ℕ) (gs : List Grant) → grant_of driver gs ≡ None → entered driver gs ≡ fresh driver ∷ gs
entered_new driver gs is = ap (entering driver gs) is
