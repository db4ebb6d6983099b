-- Grants whose lines are written area by area, from the kernel's bytes of a block. Since the bytes are those of the
-- grants laid one after another, the first area is as long as its second word says, and is the first grant's; cutting
-- it off leaves the bytes of the others (`FirstArea`). The loop keeps the lines written and the grants left
-- (`LinesSoFar`).
use Rattle.std.proofs.Common.{◌≡◌, ℕ, ◌+◌, ◌-◌, ◌<◌, ◌≤◌, List, [], ◌∷◌, ◌++◌, codes, length, take, drop}
use Rattle.std.proofs.Common.{get_or, length-drop}
use Rattle.std.proofs.Common.{refl, sym, ap, ◌∙◌, arith, append_assoc, append-nil, length-append}
use Rattle.std.specs.Int.{w32, to_le_bytes}
use Rattle.std.specs.List.{AllByRecursion, flat_map}
use Rattle.std.proofs.lemmas.List.{take_at, drop_at}
use Rattle.std.proofs.lemmas.List.Concat.{flat_map-append}
use Rattle.tk_outside.specs.Sink.{SinkFacts}
use Rattle.tk_outside.specs.Writes.{WroteAll, WrotePart}
use Rattle.tk_outside.specs.Laws.{WritesCompose}
use Rattle.grant_values.specs.Words.{WordsInBytes, bytes_of_words, words_of}
use Rattle.grant_values.specs.Drivers.{cost_of}
use Rattle.grant_model.specs.Grants.{Grant, shape_of}
use Rattle.grant_model.specs.Encoding.{EncodesGrants, IsSound, area_words, areas, decode_grants}
use Rattle.grant_model.specs.Encoding.{encode_grants}
use Rattle.grant_model.specs.Laws.{IsReadBack}
use Rattle.grant_model.proofs.Back.{cost-words}
use Rattle.board_report.proofs.Parts.{part_between}
use Rattle.board_views.specs.Lines.{slot_line}
use Rattle.board_views.specs.States.{grant_text}

-- how many bytes the first area has, by its second word
abbrev pub first_cost : List ℕ → ℕ
first_cost rest = get_or (words_of rest) 1 0

-- the first area in bytes is that of the first of some grants, and then come those of the others
pub record FirstArea (rest : List ℕ) (left : List Grant) : Type 0 where
  pub grant : Grant
  pub others : List Grant
  pub parts : left ≡ grant ∷ others
  pub sound : AllByRecursion IsSound others
  pub enough : 8 ≤ length rest
  pub some : 0 < first_cost rest
  pub within : first_cost rest ≤ length rest
  pub words : words_of (take (first_cost rest) rest) ≡ area_words grant
  pub next : drop (first_cost rest) rest ≡ encode_grants others

module _ (law : WordsInBytes) (back : IsReadBack) where
  -- an area alone is read back
  lone_area : (g : Grant) → IsSound g → words_of (bytes_of_words (area_words g)) ≡ area_words g
  lone_area g s =
      ap (λ (ws : List ℕ). words_of (bytes_of_words ws)) (sym (append-nil (area_words g)))
      ∙ back.words (g ∷ []) (s, tt) ∙ append-nil (area_words g)

  area_size : (g : Grant) → IsSound g → length (bytes_of_words (area_words g)) ≡ cost_of (shape_of g.driver)
  area_size g s =
      let size = law.size (area_words g) in
      let body = back.size g s in
      let cost = cost-words (shape_of g.driver) in
      omega (arith, size, body, cost)

  first_area : (g : Grant) (gs : List Grant) → IsSound g → AllByRecursion IsSound gs → (rest : List ℕ)
      → rest ≡ encode_grants (g ∷ gs) → FirstArea rest (g ∷ gs)
  first_area g gs s all rest is =
      let front : List ℕ = bytes_of_words (area_words g) in
      let n : ℕ = cost_of (shape_of g.driver) in
      let cut : rest ≡ front ++ encode_grants gs =
      is ∙ flat_map-append (to_le_bytes w32) (area_words g) (areas gs) in
      let size : length front ≡ n = area_size g s in
      let cost : first_cost rest ≡ n = rw (is, back.words (g ∷ gs) (s, all)) in
      let long : length rest ≡ n + length (encode_grants gs) =
      rw (cut, length-append front (encode_grants gs), size) in
      let least = cost-words (shape_of g.driver) in
      record {
        grant = g;
        others = gs;
        parts = refl;
        sound = all;
        enough = omega (arith, long, least);
        some = omega (arith, cost, least);
        within = omega (arith, cost, long);
        words = rw (cost, cut, take_at front (encode_grants gs) n size) (lone_area g s);
        next = rw (cost, cut) (drop_at front (encode_grants gs) n size);
      }

  -- where there are bytes there is an area, and where there are none no grant is left
  pub area_here : (rest : List ℕ) (left : List Grant) → AllByRecursion IsSound left → rest ≡ encode_grants left
      → 0 < length rest → FirstArea rest left
  area_here rest [] all is h = let none : length rest ≡ 0 = ap length is in absurd (omega (arith, none, h))
  area_here rest (g ∷ gs) all is h = first_area g gs all.0 all.1 rest is

  pub none_left : (rest : List ℕ) (left : List Grant) → AllByRecursion IsSound left → rest ≡ encode_grants left
      → length rest ≡ 0 → left ≡ []
  none_left rest [] all is h = refl
  none_left rest (g ∷ gs) all is h =
      let first = first_area g gs all.0 all.1 rest is in
      absurd (omega (arith, first.enough, h))

-- fewer bytes are left behind it
pub shorter : {rest : List ℕ} {left : List Grant} → FirstArea rest left → (n : ℕ) (next : List ℕ)
    → n ≡ first_cost rest → next ≡ drop n rest → length next < length rest
shorter {rest} first n next cost behind =
    let size : length next ≡ length rest - n = ap length behind ∙ length-drop n rest in
    omega (arith, size, cost, first.some, first.within)

-- The lines of the first grants were written, and the bytes that are left are the areas of the others.
pub record LinesSoFar {K : Type 0} (tells : K → SinkFacts) (a b : K) (slot : ℕ) (all : List Grant) (rest : List ℕ)
    : Type 0 where
  pub text : List ℕ
  pub left : List Grant
  pub sound : AllByRecursion IsSound left
  pub bytes : rest ≡ encode_grants left
  pub wrote : WroteAll tells a b text
  pub whole : flat_map (grant_text slot) all ≡ text ++ flat_map (grant_text slot) left

-- so there is one of the grants left, where bytes are
pub first_left : {K : Type 0} {tells : K → SinkFacts} {a b : K} {slot : ℕ} {all : List Grant} {rest : List ℕ}
    → WordsInBytes → IsReadBack → (so : LinesSoFar tells a b slot all rest) → 0 < length rest → FirstArea rest so.left
first_left {rest = rest} law back so h = area_here law back rest so.left so.sound so.bytes h

module _ {K : Type 0} {tells : K → SinkFacts} (compose : WritesCompose tells) where
  pub no_lines : (a : K) (slot : ℕ) (kernel : List ℕ) → EncodesGrants kernel
      → LinesSoFar tells a a slot (decode_grants kernel) kernel
  no_lines a slot kernel laid = record {
    text = [];
    left = decode_grants kernel;
    sound = laid.sound;
    bytes = laid.bytes;
    wrote = compose.wrote_nothing a;
    whole = refl;
  }

  -- The first area is cut off, and its line is written.
  module _ {a b : K} {slot : ℕ} {all : List Grant} {rest : List ℕ} (so : LinesSoFar tells a b slot all rest)
      (first : FirstArea rest so.left) where
    -- the text of all, around that of the next grant
    around : flat_map (grant_text slot) all
        ≡ so.text ++ (grant_text slot first.grant ++ flat_map (grant_text slot) first.others)
    around = so.whole ∙ ap (λ (gs : List Grant). so.text ++ flat_map (grant_text slot) gs) first.parts

    module _ (n : ℕ) (area next : List ℕ) (cost : n ≡ first_cost rest) (front : area ≡ take n rest)
        (behind : next ≡ drop n rest) where
      told : slot_line (codes "grant ") slot (words_of area) ≡ grant_text slot first.grant
      told = rw (front, cost, first.words)

      pub line_part : {c : K} → WrotePart tells b c (slot_line (codes "grant ") slot (words_of area))
          → WrotePart tells a c (flat_map (grant_text slot) all)
      line_part {c} part =
          part_between compose (flat_map (grant_text slot) first.others) (flat_map (grant_text slot) all) around
          so.wrote (rw told at part)

      pub line_more : {c : K} → WroteAll tells b c (slot_line (codes "grant ") slot (words_of area))
          → LinesSoFar tells a c slot all next
      line_more {c} line = record {
        text = so.text ++ grant_text slot first.grant;
        left = first.others;
        sound = first.sound;
        bytes = rw (behind, cost) first.next;
        wrote = compose.all_then_all so.wrote (rw told at line);
        whole = rw append_assoc around;
      }

  pub all_lines : {a b : K} {slot : ℕ} {all : List Grant} {rest : List ℕ} (so : LinesSoFar tells a b slot all rest)
      → so.left ≡ [] → WroteAll tells a b (flat_map (grant_text slot) all)
  all_lines {a} {b} {slot} {all} so none = rw (so.whole, none, append-nil so.text) so.wrote
