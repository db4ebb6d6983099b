-- What packing a file behind an image leaves of it, and where it is refused. How files are put together is this tool's
-- own.
use Rattle.std.specs.Prelude.{◌≡◌, ◌≤◌, ℕ, ◌+◌, ◌%◌, nat_lt, All, if◌then◌else◌, List, [], ◌∷◌, ◌++◌, length, map}
use Rattle.std.specs.Prelude.{Option, Some, None, unwrap_or, Result, Ok, Err}
use Rattle.std.specs.List.{flat_map}
use Rattle.std.specs.Option.{option_map_or}
use Rattle.tk_base.specs.declared.limits.TheConstants.{FLASH_LIMIT, OBJECT_LIMIT}
use Rattle.flash_walk.specs.declared.found.Found.{Found}
use Rattle.flash_walk.specs.Image.{objects}
use Rattle.image_make.specs.declared.packs.PackFault.{PackFault}
use Rattle.image_make.specs.declared.packs.PackFault.TheVariants.{Objects, Size, Memory}
use Rattle.image_make.specs.Images.{covered, packed, moved, but_link}
use Rattle.image_make.specs.Laws.{PacksAt}
use Rattle.image_make.specs.Outcomes.{found_bytes}

-- why a file is not packed, behind so many objects and these bytes
abbrev pub pack_refusal : ℕ → List ℕ → List ℕ → Option PackFault
pack_refusal count image file =
    if nat_lt OBJECT_LIMIT (count + length (objects file)) then Some Objects
    else (if nat_lt FLASH_LIMIT (length image + covered (objects file)) then Some Size else None)

-- a file is packed, and the objects counted
pub record IsPacked (n : ℕ) (xs file : List ℕ) (m : ℕ) (ys : List ℕ) : Type 0 where
  pub free : pack_refusal n xs file ≡ None
  pub image : ys ≡ xs ++ packed file
  pub count : m ≡ n + length (objects file)

-- Behind an image which its walk covers, and that has so many objects at most, it is packed so that the walk over what
-- is left is that over the image, and then that over the file; and again all is covered.
abbrev pub PacksBehind : ℕ → List ℕ → List ℕ → Type 0
PacksBehind n xs file = length (objects xs) ≤ n → covered (objects xs) ≡ length xs → PacksAt xs file

-- or it is refused, and nothing has changed; where nothing refuses it, for want of memory
pub record IsPackRefused (n : ℕ) (xs file : List ℕ) (m : ℕ) (ys : List ℕ) (fault : PackFault) : Type 0 where
  pub cause : unwrap_or (pack_refusal n xs file) Memory ≡ fault
  pub image : ys ≡ xs
  pub count : m ≡ n

-- an image so far: how many objects it has, and its bytes
pub record ImageSoFar : Type 0 where
  pub count : ℕ
  pub bytes : List ℕ

-- packing a file behind an image leads to another, or is refused
abbrev pub Packs : {A : Type 0} → ImageSoFar → List ℕ → Result A PackFault → ImageSoFar → Type 0
Packs before file (Ok done) after = IsPacked before.count before.bytes file after.count after.bytes
Packs before file (Err fault) after = IsPackRefused before.count before.bytes file after.count after.bytes fault

-- Where a file is packed behind an image, each object of both has exactly the bytes that it had: those of the image
-- stay where they stood, and those of the file stand as many bytes further on as the image was long.
pub record KeepsObjects (xs file ys : List ℕ) : Type 0 where
  pub before : All (λ f. found_bytes f ys ≡ found_bytes f xs) (objects xs)
  pub behind : All (λ f. found_bytes (moved (length xs) file f) ys ≡ found_bytes f file) (objects file)

-- Files behind an image that has so many objects, one after another: the first one that is refused decides.
unfoldable pub pack_from : ℕ → List ℕ → List (List ℕ) → Result (List ℕ) PackFault
pack_from count image [] = Ok image
pack_from count image (file ∷ files) =
    option_map_or Err (pack_refusal count image file)
    (pack_from (count + length (objects file)) (image ++ packed file) files)

-- what packing files gives
abbrev pub pack : List (List ℕ) → Result (List ℕ) PackFault
pack files = pack_from 0 [] files

-- the objects of files, one file after another from a distance on
unfoldable pub one_after_another : ℕ → List (List ℕ) → List Found
one_after_another distance [] = []
one_after_another distance (file ∷ files) =
    map (moved distance file) (objects file) ++ one_after_another (distance + covered (objects file)) files

-- what is packed is walked as the files one after another
abbrev pub PackIsWalked : Type 0
PackIsWalked =
    (files : List (List ℕ)) (image : List ℕ) → pack files ≡ Ok image → objects image ≡ one_after_another 0 files

-- the bytes of each object of an image
abbrev pub contents : List ℕ → List (List ℕ)
contents image = map (λ f. found_bytes f image) (objects image)

-- an image's objects have exactly the bytes of the objects of some files, one file after another
abbrev pub HasContentsOf : List (List ℕ) → List ℕ → Type 0
HasContentsOf files image = contents image ≡ flat_map contents files

-- so has what files are packed to
abbrev pub PackKeepsContents : Type 0
PackKeepsContents =
    (files : List (List ℕ)) (image : List ℕ) → pack files ≡ Ok image → HasContentsOf files image

-- moved by a multiple of 4, an object keeps its verdict, but to or from WrongFlash
abbrev pub KeepsVerdict : ℕ → List ℕ → Found → Type 0
KeepsVerdict distance file f = but_link (moved distance file f).verdict ≡ but_link f.verdict

-- each object of a file keeps its verdict so, and objects end at multiples of 4
pub record ObjectsMove (file : List ℕ) : Type 0 where
  pub verdicts : (distance : ℕ) → distance % 4 ≡ 0 → All (KeepsVerdict distance file) (objects file)
  pub aligned : covered (objects file) % 4 ≡ 0

-- so it is with each file that is no longer than flash
abbrev pub ObjectsMoveAlike : Type 0
ObjectsMoveAlike = (file : List ℕ) → length file ≤ FLASH_LIMIT → ObjectsMove file
