-- Files that are packed one behind another while they are read. The loop keeps that the files so far were read and
-- packed (`PacksOn`): whatever files follow, packing all is packing these behind the image (`ArePacked`). One file more
-- goes on from it, and one that is not read or not packed is the refusal of the whole.
use Rattle.std.proofs.Common.{◌≡◌, ℕ, ◌+◌, ◌≤◌, List, [], ◌∷◌, ◌++◌, length, map, take, drop, Option, None, Some, ◌<◌}
use Rattle.std.proofs.Common.{String, string_bytes, slice_index_or, unwrap_or, Result, Ok, inl, inr, refl, sym}
use Rattle.std.proofs.Common.{subst, ap, ◌∙◌, arith, append_assoc, append-nil}
use Rattle.std.proofs.lemmas.List.{map-append, take_all, take_more, take-append-drop}
use Rattle.tk_base.specs.declared.limits.TheConstants.{FLASH_LIMIT, OBJECT_LIMIT}
use Rattle.tk_outside.specs.Shelf.{ShelfFacts}
use Rattle.flash_walk.specs.Image.{objects}
use Rattle.image_make.specs.declared.packs.PackFault.{PackFault}
use Rattle.image_make.specs.declared.packs.PackFault.TheVariants as packs
use Rattle.image_make.specs.Images.{packed}
use Rattle.image_make.specs.Packs.{pack, pack_from, pack_refusal, IsPacked}
use Rattle.image_make.specs.Parts.{pack_next}
use Rattle.tool_words.specs.declared.refusal.File.TheVariants.{Flash}
use Rattle.tool_words.specs.declared.refusal.ImageFault.{ImageFault}
use Rattle.tool_words.specs.declared.refusal.ImageFault.TheVariants.{TooMany, Size}
use Rattle.tool_words.specs.declared.refusal.Refusal.{Refusal}
use Rattle.tool_words.specs.declared.refusal.Refusal.TheVariants.{Image}
use Rattle.tool_words.specs.Words.{Packs}
use Rattle.tool_words.specs.Parts.{argument_bytes}
use Rattle.tool_words.specs.Refusals.{pack_refused}
use Rattle.tool_tasks.specs.Comes.{Named, Making, Passes, IsTaskOf, ReadsAll, ReadsUpTo, comes_to}
use Rattle.tool_tasks.specs.Parts.{IsText}
use Rattle.tool_tasks.specs.Comes.{flash_named, refused_at}
use Rattle.tool_tasks.specs.Parts.{pack_made, refusal_of_task}
use Rattle.tool_tasks.specs.Causes.{CauseOf, IsRefusedFor, shelf_account}
use Rattle.tool_tasks.specs.Parts.{ReadingComesTo}
use Rattle.tool_tasks.specs.Ready.{IsNotPacked, IsPackedFile, IsUnpacked, KeepsShelf}
use Rattle.tool_tasks.proofs.Files.{all_on, up_to_on}
use Rattle.tool_tasks.proofs.Loading.{not_read, text_later, unread_later, within_limit}

-- files with so many objects were packed, and are these bytes: more files are packed behind them
abbrev pub ArePacked : ℕ → List ℕ → List (List ℕ) → Type 0
ArePacked n image texts = (rest : List (List ℕ)) → pack (texts ++ rest) ≡ pack_from n image rest

-- the files so far were read and packed
pub record PacksOn {H : Type 0} (tells : H → ShelfFacts) (old now : H) (names done : List (List ℕ)) (n : ℕ)
    (image : List ℕ) : Type 0 where
  pub read : ReadsAll (tells old).bytes (Packs names) (ArePacked n image) [] (map flash_named done)
  pub keeps : KeepsShelf tells old now
  pub few : n ≤ OBJECT_LIMIT
  pub short : length image ≤ FLASH_LIMIT

pub begins : {H : Type 0} (tells : H → ShelfFacts) (old : H) (names : List (List ℕ)) (flash : List ℕ) → flash ≡ []
    → PacksOn tells old old names [] 0 flash
begins tells old names flash e = record {
  read = λ rest. ap (λ (x : List ℕ). pack_from 0 x rest) (sym e);
  keeps = record { bytes = refl; sound = λ name s. s; count = omega arith };
  few = omega arith;
  short = rw e (omega arith);
}

keeps_join : {H : Type 0} (tells : H → ShelfFacts) (old mid new : H) → KeepsShelf tells old mid
    → KeepsShelf tells mid new → KeepsShelf tells old new
keeps_join tells old mid new k m = record {
  bytes = m.bytes ∙ k.bytes;
  sound = λ name s. m.sound name (k.sound name s);
  count = (let first = k.count in let second = m.count in omega arith);
}

-- one file more
packed_next : (n : ℕ) (image text : List ℕ) (rest : List (List ℕ))
    → pack_from n image (text ∷ rest)
    ≡ pack_next (pack_refusal n image text) (pack_from (n + length (objects text)) (image ++ packed text) rest)
unfolding pack_from
packed_next n image text rest = refl

packed_none : (n : ℕ) (image : List ℕ) → pack_from n image [] ≡ Ok image
unfolding pack_from
packed_none n image = refl

module _ (names : List (List ℕ)) (n : ℕ) (image text : List ℕ) (texts : List (List ℕ))
    (so_far : ArePacked n image texts) where
  refused_here : length text ≤ FLASH_LIMIT
      → refused_at (Packs names) texts Flash text
      ≡ refusal_of_task (Some (pack_made (pack_next (pack_refusal n image text) (Ok (image ++ packed text)))))
  unfolding comes_to
  refused_here h =
      rw (
        within_limit (Packs names) texts Flash text h,
        so_far (text ∷ []),
        packed_next n image text [],
        packed_none (n + length (objects text)) (image ++ packed text),
      ) refl

  packed_on : (m : ℕ) (new : List ℕ) → IsPacked n image text m new → ArePacked m new (texts ++ (text ∷ []))
  packed_on m new p rest =
      ap pack (append_assoc texts (text ∷ []) rest) ∙ so_far (text ∷ rest)
      ∙ rw (packed_next n image text rest, p.free, p.count, p.image) refl

module _ {H : Type 0} (tells : H → ShelfFacts) (old now after : H) (names done : List (List ℕ)) (n : ℕ)
    (image name : List ℕ) (p : PacksOn tells old now names done n image) where
  passes : (m : ℕ) (new : List ℕ) (f : IsPackedFile (tells now) name n image m new) (texts : List (List ℕ))
      → ArePacked n image texts → Passes (tells old).bytes (Packs names) texts (flash_named name) (ArePacked m new)
  passes m new f texts so_far = record {
    text = f.text;
    read = text_later tells old now name f.text p.keeps f.read;
    free = refused_here names n image f.text texts so_far f.within
        ∙ rw f.packed.free refl;
    holds = packed_on names n image f.text texts so_far m new f.packed;
  }

  pub one_more : (m : ℕ) (new : List ℕ) → IsPackedFile (tells now) name n image m new → KeepsShelf tells now after
      → PacksOn tells old after names (done ++ (name ∷ [])) m new
  one_more m new f k = record {
    read = subst
        (λ (files : List Named). ReadsAll (tells old).bytes (Packs names) (ArePacked m new) [] files)
        (sym (map-append flash_named done (name ∷ [])))
        (all_on (tells old).bytes (Packs names) (ArePacked n image) (ArePacked m new) (map flash_named done)
        (flash_named name ∷ []) [] p.read (passes m new f));
    keeps = keeps_join tells old now after p.keeps k;
    few = f.few;
    short = f.short;
  }

  module _ (left : List (List ℕ)) (all : names ≡ done ++ (name ∷ left)) where
    -- the reading comes to this file
    here : (Holds : List (List ℕ) → Named → Type 0)
        → ((texts : List (List ℕ)) → ArePacked n image texts → Holds texts (flash_named name))
        → ReadingComesTo (shelf_account tells old after) (Packs names) Holds
    here Holds h =
        subst
        (λ (files : List Named). ReadsUpTo (tells old).bytes (Packs names) Holds [] files)
        (sym (ap (map flash_named) all ∙ map-append flash_named done (name ∷ left)))
        (up_to_on (tells old).bytes (Packs names) (ArePacked n image) Holds (map flash_named done)
        (map flash_named (name ∷ left)) [] p.read (λ texts so_far. inl (h texts so_far)))

    cause : (text : List ℕ) (fault : ImageFault) (why : PackFault) → IsText (tells now).bytes name text
        → length text ≤ FLASH_LIMIT → pack_refusal n image text ≡ Some why → pack_refused why ≡ Image fault
        → CauseOf (shelf_account tells old after) (Packs names) (Image fault)
    cause text fault why r within e said =
        here (IsRefusedFor (shelf_account tells old after) (Packs names) (Image fault))
        (λ texts so_far. record {
          text = text;
          read = text_later tells old now name text p.keeps r;
          refused = refused_here names n image text texts so_far within
              ∙ rw (e, said) refl;
        })

    not_packed : (refusal : Refusal) (p : IsUnpacked (tells now).bytes name n image refusal) (o : Option PackFault)
        → pack_refusal n image p.text ≡ o → refusal ≡ pack_refused (unwrap_or o packs.Memory)
        → CauseOf (shelf_account tells old after) (Packs names) refusal
    not_packed refusal u None e r = rw r tt
    not_packed refusal u (Some packs.Objects) e r =
        rw r (cause u.text TooMany packs.Objects u.read u.within e refl)
    not_packed refusal u (Some packs.Size) e r = rw r (cause u.text Size packs.Size u.read u.within e refl)
    not_packed refusal u (Some packs.Memory) e r = rw r tt

    -- the file is not read, or not packed
    pub refused : (refusal : Refusal) → IsNotPacked (shelf_account tells now after) name n image refusal
        → CauseOf (shelf_account tells old after) (Packs names) refusal
    refused refusal (inl u) =
        not_read (shelf_account tells old after) (Packs names) (flash_named name) refusal
        (λ Holds h. here Holds (λ texts so_far. h texts))
        (unread_later tells old now after Flash name refusal p.keeps u)
    refused refusal (inr u) = not_packed refusal u (pack_refusal n image u.text) refl u.cause

-- all files were read and packed
all_packed : (names : List (List ℕ)) (n : ℕ) (image : List ℕ) (texts : List (List ℕ)) → ArePacked n image texts
    → comes_to (Packs names) texts ≡ Some (Ok (Making image))
unfolding comes_to
all_packed names n image texts h =
    ap (λ (r : Result (List ℕ) PackFault). Some (pack_made r))
    (ap pack (sym (append-nil texts)) ∙ h [] ∙ packed_none n image)

pub pack_task : {H : Type 0} (tells : H → ShelfFacts) (old now : H) (names done : List (List ℕ)) (n : ℕ)
    (image : List ℕ) → PacksOn tells old now names done n image → names ≡ done
    → IsTaskOf (tells old).bytes (Packs names) (Making image)
pack_task tells old now names done n image p e =
    subst
    (λ (files : List Named). ReadsAll (tells old).bytes (Packs names)
    (λ texts. comes_to (Packs names) texts ≡ Some (Ok (Making image))) [] files)
    (append-nil (map flash_named done) ∙ ap (map flash_named) (sym e))
    (all_on (tells old).bytes (Packs names) (ArePacked n image)
    (λ texts. comes_to (Packs names) texts ≡ Some (Ok (Making image))) (map flash_named done) [] [] p.read
    (all_packed names n image))

-- the words of the command line, up to one and from it on
pub words_more : {Z : Type 0} (files : List (String Z)) (i : ℕ) (d : String Z) (name : List ℕ) → i < length files
    → name ≡ string_bytes (slice_index_or files i d)
    → argument_bytes (take (i + 1) files) ≡ argument_bytes (take i files) ++ (name ∷ [])
words_more files i d name h e =
    ap argument_bytes (take_more files i d h) ∙ map-append string_bytes (take i files) (slice_index_or files i d ∷ [])
    ∙ ap (λ (x : List ℕ). argument_bytes (take i files) ++ (x ∷ [])) (sym e)

pub words_split : {Z : Type 0} (files : List (String Z)) (i : ℕ) (d : String Z) (name : List ℕ) → i < length files
    → name ≡ string_bytes (slice_index_or files i d)
    → argument_bytes files ≡ argument_bytes (take i files) ++ (name ∷ argument_bytes (drop (i + 1) files))
words_split files i d name h e =
    ap argument_bytes (sym (take-append-drop (i + 1) files))
    ∙ map-append string_bytes (take (i + 1) files) (drop (i + 1) files)
    ∙ ap (λ (x : List (List ℕ)). x ++ argument_bytes (drop (i + 1) files)) (words_more files i d name h e)
    ∙ append_assoc (argument_bytes (take i files)) (name ∷ []) (argument_bytes (drop (i + 1) files))

pub words_all : {Z : Type 0} (files : List (String Z)) (i : ℕ) → length files ≤ i
    → argument_bytes files ≡ argument_bytes (take i files)
words_all files i h = ap argument_bytes (sym (take_all i files h))
