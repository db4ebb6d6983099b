-- Texts in parts, as loops write them.
use Rattle.std.proofs.Common.{◌≡◌, ℕ, zero, suc, ◌+◌, ◌-◌, ◌<◌, List, [], ◌∷◌, ◌++◌, map, length, take, drop}
use Rattle.std.proofs.Common.{get_or}
use Rattle.std.proofs.Common.{sym, ap, ◌∙◌, arith, append_assoc, append-nil}
use Rattle.std.proofs.lemmas.List.{take_more}
use Rattle.std.proofs.lemmas.List.Concat.{flat_map-append}
use Rattle.std.proofs.lemmas.List.Folds.{flat_map-map}
use Rattle.std.specs.List.{flat_map, range_with_len}
use Rattle.tk_base.specs.declared.process.ProcessId.{ProcessId}
use Rattle.board_report.proofs.Parts.{texts_around}
use Rattle.board_views.specs.Lines.{word_text}

-- the texts of a range in two parts
range_texts-add : (f : ℕ → List ℕ) (from n m : ℕ) → flat_map f (range_with_len from (n + m))
    ≡ flat_map f (range_with_len from n) ++ flat_map f (range_with_len (from + n) m)
range_texts-add f from zero m =
    let left : 0 + m ≡ m = omega arith in let right : from + 0 ≡ from = omega arith in rw (left, right)
range_texts-add f from (suc n) m =
    let one : suc n + m ≡ suc (n + m) = omega arith in
    let moved : from + suc n ≡ from + 1 + n = omega arith in
    rw (one, moved, range_texts-add f (from + 1) n m, append_assoc)

-- one text more
pub range_more : (f : ℕ → List ℕ) (i : ℕ) → flat_map f (range_with_len 0 (i + 1))
    ≡ flat_map f (range_with_len 0 i) ++ f i
range_more f i =
    let left : 0 + i ≡ i = omega arith in rw (range_texts-add f 0 i 1, append-nil (f (0 + i)), left)

-- the texts of a range, around one of them
pub range_around : (f : ℕ → List ℕ) (i n : ℕ) → i < n → flat_map f (range_with_len 0 n)
    ≡ flat_map f (range_with_len 0 i) ++ (f i ++ flat_map f (range_with_len (i + 1) (n - (i + 1))))
range_around f i n h =
    let split : n ≡ i + 1 + (n - (i + 1)) = omega arith in
    let left : 0 + (i + 1) ≡ i + 1 = omega arith in
    ap (λ (k : ℕ). flat_map f (range_with_len 0 k)) split
    ∙ rw (range_texts-add f 0 (i + 1) (n - (i + 1)), range_more f i, left, append_assoc)

-- the slots of processes as words, by their ids
pub slots_text : (ids : List ProcessId) → flat_map (λ (id : ProcessId). word_text id.slot) ids
    ≡ flat_map word_text (map (λ (id : ProcessId). id.slot) ids)
slots_text ids = sym (flat_map-map word_text (λ (id : ProcessId). id.slot) ids)

-- the texts of a list around an element
pub element_around : {X : Type 0} (text : X → List ℕ) (xs : List X) (i : ℕ) (x : X) → i < length xs → x ≡ get_or xs i x
    → flat_map text xs ≡ flat_map text (take i xs) ++ (text x ++ flat_map text (drop (i + 1) xs))
element_around {X} text xs i x h e =
    texts_around text xs i x h
    ∙ ap (λ (y : X). flat_map text (take i xs) ++ (text y ++ flat_map text (drop (i + 1) xs))) (sym e)

-- the texts of one element more
pub element_more : {X : Type 0} (text : X → List ℕ) (xs : List X) (i : ℕ) (d : X) → i < length xs
    → flat_map text (take (i + 1) xs) ≡ flat_map text (take i xs) ++ text (get_or xs i d)
element_more {X} text xs i d h =
    rw (take_more xs i d h, flat_map-append text (take i xs) (get_or xs i d ∷ []), append-nil (text (get_or xs i d)))
