-- Files packed one after another.
use Rattle.std.proofs.Common.{◌≡◌, ℕ, zero, suc, ◌+◌, ◌%◌, ◌≤◌, Bool, true, false, cond, inl, inr, List, [], ◌∷◌, ◌++◌}
use Rattle.std.proofs.Common.{length, All, Option, Some, None, Result, Ok, refl, sym, ap, ◌∙◌, arith, append_assoc}
use Rattle.std.proofs.Common.{append-nil}
use Rattle.std.proofs.lemmas.Bool.{ltb-false, cases_Bool}
use Rattle.std.proofs.lemmas.List.{length-append, length-map}
use Rattle.std.proofs.lemmas.List.Elements.{All-weaker}
use Rattle.tk_base.specs.declared.access.TheConstants.{FLASH_START}
use Rattle.tk_base.specs.declared.limits.TheConstants.{OBJECT_LIMIT}
use Rattle.tbf_headers.specs.Meaning.{header_reading}
use Rattle.tbf_headers.specs.Objects.{object_at}
use Rattle.flash_walk.specs.declared.found.Found.{Found}
use Rattle.flash_walk.specs.Image.{objects, objects_from, ends_at, size_at, IsObject}
use Rattle.image_make.specs.declared.packs.PackFault.{PackFault}
use Rattle.image_make.specs.declared.packs.PackFault.TheVariants.{Objects, Size}
use Rattle.image_make.specs.Images.{covered, packed}
use Rattle.image_make.specs.Packs.{pack_refusal, pack_from, one_after_another, PackIsWalked, KeepsVerdict}
use Rattle.image_make.specs.Laws.{PacksAt}
use Rattle.image_make.specs.Parts.{pack_next}
use Rattle.image_make.specs.Packs.{ObjectsMove}
use Rattle.image_make.proofs.Walked.{stands, from_end, from_none}
use Rattle.image_make.proofs.Moves.{packed_is_walked, length_packed, verdicts_move, covered_suc}

ok_next : (o : Option PackFault) (rest : Result (List ℕ) PackFault) (image : List ℕ) → pack_next o rest ≡ Ok image
    → (o ≡ None) × (rest ≡ Ok image)
ok_next None rest image e = (refl, e)
ok_next (Some fault) rest image e = cc

none_refused : (a b : Bool) → cond a (Some Objects) (cond b (Some Size) None) ≡ None → a ≡ false
none_refused true b e = cc
none_refused false b e = refl

-- what is known where a file is packed, and then others, behind an image that is wholly walked
pub record GoesOn (n : ℕ) (before file : List ℕ) (files : List (List ℕ)) (image : List ℕ) : Type 0 where
  pub behind : PacksAt before file
  pub count : n + length (objects file) ≡ length (objects (before ++ packed file))
  pub rest : pack_from (n + length (objects file)) (before ++ packed file) files ≡ Ok image

pub goes_on : (n : ℕ) (before file : List ℕ) (files : List (List ℕ)) (image : List ℕ) → n ≡ length (objects before)
    → covered (objects before) ≡ length before → pack_from n before (file ∷ files) ≡ Ok image
    → GoesOn n before file files image
unfolding pack_from
goes_on n before file files image count whole e =
    let parts = ok_next (pack_refusal n before file) _ image e in
    let few : n + length (objects file) ≤ OBJECT_LIMIT = ltb-false _ _ (none_refused _ _ parts.0) in
    let p = packed_is_walked before file whole (omega arith) in
    let counted : length (objects (before ++ packed file)) ≡ length (objects before) + length (objects file) =
    rw p.walked (simp (length-append, length-map)) in
    record { behind = p; count = omega arith; rest = parts.1 }

-- behind an image that is wholly walked
pack_walked : (files : List (List ℕ)) (n : ℕ) (before image : List ℕ) → n ≡ length (objects before)
    → covered (objects before) ≡ length before → pack_from n before files ≡ Ok image
    → objects image ≡ objects before ++ one_after_another (length before) files
unfolding pack_from one_after_another
pack_walked [] n before image count whole e = ap objects (let same : image ≡ before = cc in same)
    ∙ sym (append-nil (objects before))
pack_walked (file ∷ files) n before image count whole e =
    let next = goes_on n before file files image count whole e in
    let long : length (before ++ packed file) ≡ length before + covered (objects file) =
    rw (length-append before (packed file), length_packed file) refl in
    rw (
      pack_walked files (n + length (objects file)) (before ++ packed file) image next.count next.behind.whole
          next.rest,
      next.behind.walked,
      long,
      append_assoc,
    ) refl

pub nothing : objects [] ≡ []
nothing = from_end OBJECT_LIMIT [] 0 refl

pub pack_is_walked : PackIsWalked
pack_is_walked files image e =
    pack_walked files 0 [] image (sym (ap length nothing)) (ap covered nothing) e
    ∙ ap (λ xs. xs ++ one_after_another 0 files) nothing

moved_verdict : (distance : ℕ) (file : List ℕ) (f : Found) → distance % 4 ≡ 0 → IsObject file f
    → KeepsVerdict distance file f
moved_verdict distance file f h o =
    let start : FLASH_START + (distance + f.offset) ≡ distance + (FLASH_START + f.offset) = omega arith in
    rw (start, o.judged)
    (verdicts_move distance (FLASH_START + f.offset) (header_reading (object_at file f.offset f.size)) h)

covered_aligned : (n : ℕ) (b : List ℕ) (p : ℕ) → covered (objects_from n b p) % 4 ≡ 0
covered_aligned zero b p = rw (from_none b p) refl
covered_aligned (suc n) b p =
    elim (cases_Bool (ends_at b p)) [
      | inl t ↦ rw (from_end (suc n) b p t) refl
      | inr f ↦
          let s = stands b p f in
          let even = s.aligned in
          let rest = covered_aligned n b (p + size_at b p) in
          omega (arith, covered_suc n b p f)
    ]

pub objects_move : (file : List ℕ) → All (IsObject file) (objects file) → ObjectsMove file
objects_move file each = record {
  verdicts = λ distance h. All-weaker (IsObject file) (KeepsVerdict distance file)
      (λ f o. moved_verdict distance file f h o) (objects file) each;
  aligned = covered_aligned OBJECT_LIMIT file 0;
}
