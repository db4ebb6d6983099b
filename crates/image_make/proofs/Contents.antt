-- Packing leaves each object the bytes that it had.
use Rattle.std.proofs.Common.{◌≡◌, ℕ, zero, suc, ◌+◌, ◌≤◌, inl, inr, List, [], ◌∷◌, ◌++◌, map, length, All, Ok, refl}
use Rattle.std.proofs.Common.{sym}
use Rattle.std.proofs.Common.{ap, ◌∙◌, arith, append_assoc, append-nil}
use Rattle.std.specs.List.{flat_map}
use Rattle.std.proofs.lemmas.Bool.{cases_Bool}
use Rattle.std.proofs.lemmas.List.{map-append}
use Rattle.std.proofs.lemmas.List.Elements.{All-cons, All-head, All-nil, All-tail, All-weaker}
use Rattle.tk_base.specs.declared.limits.TheConstants.{OBJECT_LIMIT}
use Rattle.flash_walk.specs.declared.found.Found.{Found}
use Rattle.flash_walk.specs.Image.{ends_at, object_bytes, objects, objects_from, size_at}
use Rattle.image_make.specs.Images.{covered, moved, packed}
use Rattle.image_make.specs.Outcomes.{found_bytes}
use Rattle.image_make.specs.Packs.{contents, KeepsObjects, pack_from, PackKeepsContents}
use Rattle.image_make.proofs.Walked.{found_as, from_end, from_more, from_none}
use Rattle.image_make.proofs.Moves.{covered_suc, covered_within, packed_front, packed_part, part_range}
use Rattle.image_make.proofs.Packing.{goes_on, nothing}

-- an object stands in another image where it stood, or so many bytes further on, with the bytes that it had
abbrev Stays : List ℕ → List ℕ → Found → Type 0
Stays image after f = found_bytes f after ≡ found_bytes f image

abbrev Moves : ℕ → List ℕ → List ℕ → Found → Type 0
Moves distance file after f = found_bytes (moved distance file f) after ≡ found_bytes f file

-- an object ends at a place, or before
abbrev EndsBy : ℕ → Found → Type 0
EndsBy end f = f.offset + f.size ≤ end

-- each object ends where the last one does, or before
all_end : (n end : ℕ) (b : List ℕ) (p : ℕ) → p + covered (objects_from n b p) ≤ end
    → All (EndsBy end) (objects_from n b p)
all_end zero end b p h = rw (from_none b p) (All-nil (EndsBy end))
all_end (suc n) end b p h =
    elim (cases_Bool (ends_at b p)) [
      | inl t ↦ rw (from_end (suc n) b p t) (All-nil (EndsBy end))
      | inr f ↦
          let total = covered_suc n b p f in
          rw (from_more n b p f) (All-cons (EndsBy end) (found_as p (size_at b p) (object_bytes b p))
          (objects_from n b (p + size_at b p)) (omega arith) (all_end n end b (p + size_at b p) (omega arith)))
    ]

file_kept : (image file : List ℕ) → All (Moves (length image) file (image ++ packed file)) (objects file)
file_kept image file =
    All-weaker (EndsBy (covered (objects file))) (Moves (length image) file (image ++ packed file))
    (λ f ends. part_range (length image) (covered (objects file)) f.offset (length image + f.offset) f.size file
    (image ++ packed file) (packed_part image file) ends refl)
    (objects file) (all_end OBJECT_LIMIT (covered (objects file)) file 0 (omega arith))

image_kept : (image file : List ℕ) → All (Stays image (image ++ packed file)) (objects image)
image_kept image file =
    All-weaker (EndsBy (length image)) (Stays image (image ++ packed file))
    (λ f ends. part_range 0 (length image) f.offset f.offset f.size image (image ++ packed file)
    (packed_front image file) ends (omega arith))
    (objects image) (all_end OBJECT_LIMIT (length image) image 0 (covered_within OBJECT_LIMIT image 0 (omega arith)))

pub keeps_objects : (xs file ys : List ℕ) → ys ≡ xs ++ packed file → KeepsObjects xs file ys
keeps_objects xs file ys packs =
    rw packs (record { before = image_kept xs file; behind = file_kept xs file })

-- the bytes of objects that are kept are those that they had
kept_contents : (distance : ℕ) (file image : List ℕ) (fs : List Found) → All (Moves distance file image) fs
    → map (λ f. found_bytes f image) (map (moved distance file) fs) ≡ map (λ f. found_bytes f file) fs
kept_contents distance file image [] all = refl
kept_contents distance file image (f ∷ fs) all =
    rw (
      All-head (Moves distance file image) f fs all,
      kept_contents distance file image fs (All-tail (Moves distance file image) f fs all),
    ) refl

stay_contents : (file image : List ℕ) (fs : List Found) → All (Stays file image) fs
    → map (λ f. found_bytes f image) fs ≡ map (λ f. found_bytes f file) fs
stay_contents file image [] all = refl
stay_contents file image (f ∷ fs) all =
    rw (All-head (Stays file image) f fs all, stay_contents file image fs (All-tail (Stays file image) f fs all)) refl

one_packed : (before file : List ℕ)
    → objects (before ++ packed file) ≡ objects before ++ map (moved (length before) file) (objects file)
    → contents (before ++ packed file) ≡ contents before ++ contents file
one_packed before file walked =
    let after = before ++ packed file in
    ap (map (λ (f : Found). found_bytes f after)) walked
    ∙ rw (
      map-append (λ (f : Found). found_bytes f after) (objects before),
      stay_contents before after (objects before) (image_kept before file),
      kept_contents (length before) file after (objects file) (file_kept before file),
    ) refl

-- behind an image that is wholly walked
all_packed : (files : List (List ℕ)) (n : ℕ) (before image : List ℕ) → n ≡ length (objects before)
    → covered (objects before) ≡ length before → pack_from n before files ≡ Ok image
    → contents image ≡ contents before ++ flat_map contents files
unfolding pack_from
all_packed [] n before image count whole e =
    ap contents (let same : image ≡ before = cc in same) ∙ sym (append-nil (contents before))
all_packed (file ∷ files) n before image count whole e =
    let next = goes_on n before file files image count whole e in
    rw (
      all_packed files (n + length (objects file)) (before ++ packed file) image next.count next.behind.whole next.rest,
      one_packed before file next.behind.walked,
      append_assoc,
    ) refl

pub pack_keeps_contents : PackKeepsContents
pack_keeps_contents files image e =
    all_packed files 0 [] image (sym (ap length nothing)) (ap covered nothing) e
    ∙ ap (λ (fs : List Found). map (λ f. found_bytes f []) fs ++ flat_map contents files) nothing
