-- What an edit of one object leaves of an image: all bytes but those that the edit changes, and the same objects with
-- one other reading. An edit makes an object of the same size (`Makes`), so the walk of an image in which one object
-- gets other bytes applies (`Walked`), and its header is read by `Readings` or `Renames`.
use Rattle.std.proofs.Common.{◌≡◌, ℕ, ◌+◌, ◌-◌, ◌<◌, ◌≤◌, ◌==◌, Bool, true, false, cond, ◌⊎◌, inl, inr, List, map}
use Rattle.std.proofs.Common.{length, drop, slice_index, Option, Some, None, option_and_then, Result, Ok, refl, sym, ap}
use Rattle.std.proofs.Common.{◌≢◌, ◌/◌, ◌%◌, [], ◌∷◌, is_some}
use Rattle.std.specs.Option.{option_map_or}
use Rattle.std.proofs.Common.{◌∙◌, subst, arith}
use Rattle.std.proofs.lemmas.Bool.{cases_Bool, eqb-true, eq-eqb, ne_eqb, cases_lt, cond-true, false≢true}
use Rattle.std.proofs.lemmas.Option.{same_Some, cond_some}
use Rattle.std.proofs.lemmas.List.{get_or-take, get_or-drop}
use Rattle.tk_base.specs.declared.access.TheConstants.{FLASH_START}
use Rattle.tk_base.specs.declared.access.Width.TheVariants.{Half, Word}
use Rattle.tk_base.specs.Bus.{put}
use Rattle.tk_base.specs.Numbers.{rounded_up}
use Rattle.tk_base.specs.Laws.{AStoreIsPut}
use Rattle.tbf_headers.specs.declared.fault.HeaderFault.{HeaderFault}
use Rattle.tbf_headers.specs.declared.program.Main.{Main}
use Rattle.tbf_headers.specs.Numbers.{half, word_at}
use Rattle.tbf_headers.specs.Tlv.{length_at}
use Rattle.tbf_headers.specs.Meaning.{Meaning, header_reading, meaning_of, header_of}
use Rattle.flash_walk.specs.declared.found.Found.{Found}
use Rattle.flash_walk.specs.declared.found.Verdict.TheVariants.{App, BadEntry, Disabled, Padding, WrongFlash}
use Rattle.flash_walk.specs.Image.{app_verdict, objects, verdict_of}
use Rattle.image_make.specs.Edits.{with_enabled, with_flags, mended, replaced, padded, renamed}
use Rattle.image_make.specs.Parts.{name_place}
use Rattle.image_make.specs.Images.{with_reading}
use Rattle.image_make.specs.Parts.{object_found}
use Rattle.image_make.specs.Outcomes.{found_bytes, IsSoundObject, sound_found, enabled, with_name}
use Rattle.image_make.specs.Parts.{if_as_long}
use Rattle.image_make.specs.Laws.{AreBytes}
use Rattle.image_make.specs.Edited.{EnabledIsWalked, GivenIsWalked}
use Rattle.image_make.proofs.Likeness.{IsLike, half_below, word_below, like_join, like_wider, put_like}
use Rattle.image_make.proofs.Readings.{mended_like, flags_are_read, take_bytes, sound_where_read}
use Rattle.image_make.proofs.Renames.{named, names_are_read, drop_bytes}
use Rattle.image_make.proofs.Walked.{one_object_changes, replaced_like, byte_inside, byte_before, byte_after}
use Rattle.image_make.proofs.Walked.{found_passes, object_replaced}
use Rattle.image_make.proofs.Sound.{sound_is}

bytes_are : (flash : List ℕ) (f : Found) → AreBytes flash → AreBytes (found_bytes f flash)
bytes_are flash f bytes = take_bytes (f.offset + f.size - f.offset) (drop f.offset flash)
    (drop_bytes f.offset flash bytes)

flagged_like : AStoreIsPut → (object : List ℕ) (flags : ℕ) → 16 ≤ length object
    → IsLike 8 16 object (with_flags flags object)
unfolding with_flags
flagged_like stores object flags h =
    let p = put object 8 Word flags in
    let one : IsLike 8 16 object p =
    like_wider 8 16 (omega arith) (omega arith) (put_like stores object 8 Word flags (omega arith)) in
    let size = one.size in
    like_join one (like_wider 8 16 (omega arith) (omega arith) (mended_like stores p (omega arith)))

with_enabled_below : (on : Bool) (flags : ℕ) → flags < 4294967296 → with_enabled on flags < 4294967296
with_enabled_below true flags h = omega arith
with_enabled_below false flags h = omega arith

word_limit : (xs : List ℕ) (at : ℕ) → AreBytes xs → word_at xs at < 4294967296
word_limit xs at bytes =
    let a = bytes at in let b = bytes (at + 1) in let c = bytes (at + 2) in let d = bytes (at + 3) in omega arith

-- a byte of an image in which an object was replaced, outside of what differs between the objects
replaced_byte : (flash : List ℕ) (f : Found) (object : List ℕ) (k : ℕ) → IsSoundObject flash f → length object ≡ f.size
    → ((j : ℕ) → k ≡ f.offset + j → slice_index object j ≡ slice_index (found_bytes f flash) j)
    → slice_index (replaced flash f.offset object) k ≡ slice_index flash k
replaced_byte flash f object k s size same =
    let within = s.within in
    elim (cases_lt k f.offset) [
      | inl low ↦ byte_before flash object f.offset k (omega arith) low
      | inr high ↦ elim (cases_lt k (f.offset + f.size)) [
        | inl inner ↦
            let j : f.offset + (k - f.offset) ≡ k = omega arith in
            byte_inside flash object f.offset (k - f.offset) k (omega arith) (omega arith) (omega arith)
            ∙ same (k - f.offset) (omega arith)
            ∙ get_or-take (f.offset + f.size - f.offset) (drop f.offset flash) (k - f.offset) 0 (omega arith)
            ∙ get_or-drop f.offset flash (k - f.offset) 0
            ∙ ap (λ i. slice_index flash i) j
        | inr past ↦ byte_after flash object f.offset k (omega arith) (omega arith)
      ]
    ]

-- an edit of an object that is found, by the object that it makes
record Makes (flash : List ℕ) (f : Found) (object : List ℕ) (m : Meaning) : Type 0 where
  size : length object ≡ f.size
  version : half object 0 ≡ 2
  total : word_at object 4 ≡ f.size
  read : header_reading object ≡ Ok m

found_again : (flash : List ℕ) (at : ℕ) (f : Found) → object_found at (objects flash) ≡ Some f
    → object_found f.offset (objects flash) ≡ Some f
found_again flash at f e =
    subst (λ (p : ℕ). object_found p (objects flash) ≡ Some f)
    (sym (eqb-true _ _ (found_passes (λ x. x.offset == at) (objects flash) f e))) e

-- an object that is found and has no fault
record Whole (flash : List ℕ) (at : ℕ) (f : Found) : Type 0 where
  found : object_found at (objects flash) ≡ Some f
  sound : IsSoundObject flash f
  bytes : AreBytes (found_bytes f flash)
  large : 16 ≤ length (found_bytes f flash)

whole_is : (flash : List ℕ) (at : ℕ) (f : Found) → AreBytes flash → sound_found at (objects flash) ≡ Some f
    → Whole flash at f
whole_is flash at f bytes e =
    let parts = sound_is flash at f e in
    let large = parts.1.large in
    let long = parts.1.long in
    record { found = parts.0; sound = parts.1; bytes = bytes_are flash f bytes; large = omega arith }

-- what an edit leaves of an image, by the object that it makes and what that is read as
record Leaves (flash : List ℕ) (f : Found) (object : List ℕ) (m : Meaning) : Type 0 where
  size : length (replaced flash f.offset object) ≡ length flash
  bytes : (k : ℕ) → ((j : ℕ) → k ≡ f.offset + j → slice_index object j ≡ slice_index (found_bytes f flash) j)
      → slice_index (replaced flash f.offset object) k ≡ slice_index flash k
  walked : objects (replaced flash f.offset object) ≡ map (with_reading f.offset (Ok m)) (objects flash)

edit_leaves : (flash : List ℕ) (at : ℕ) (f : Found) (object : List ℕ) (m : Meaning) → Whole flash at f
    → Makes flash f object m → Leaves flash f object m
edit_leaves flash at f object m w made =
    let within = w.sound.within in
    let size = made.size in
    record {
      size = (replaced_like flash object f.offset (omega arith)).size;
      bytes = λ k same. replaced_byte flash f object k w.sound made.size same;
      walked = rw (← made.read) (one_object_changes flash object f.offset f (found_again flash at f w.found) made.size
          made.version made.total);
    }

-- the object at an offset is found still, with the verdict of what its header is read as
found_with : (found : List Found) (at : ℕ) (r : Result Meaning HeaderFault) (f : Found)
    → object_found at found ≡ Some f
    → object_found at (map (with_reading at r) found) ≡ Some (record f { verdict = verdict_of (FLASH_START + at) r })
found_with [] at r f e = absurd (cc)
found_with (x ∷ xs) at r f e =
    elim (cases_Bool (x.offset == at)) [
      | inl is ↦ let same : x ≡ f = same_Some x f (rw is at e) in rw (is, is, same) refl
      | inr is ↦ rw (is, is) (found_with xs at r f (rw is at e))
    ]

-- the flags of a header that is read
flags_read : (bytes : List ℕ) (m : Meaning) → header_reading bytes ≡ Ok m → word_at bytes 8 ≡ m.flags
unfolding meaning_of
flags_read bytes m read = ap (λ (x : Meaning). x.flags) (sound_where_read bytes m read).1

-- bit 0 is another, and no other bit
one_bit : (on : Bool) (flags : ℕ)
    → (with_enabled on flags % 2 ≡ cond on 1 0) × (with_enabled on flags / 2 ≡ flags / 2)
one_bit true flags = (omega arith, omega arith)
one_bit false flags = (omega arith, omega arith)

-- so one that has an entry is disabled, or is not
even_verdict : (start : ℕ) (h : Meaning) → h.flags % 2 ≡ 0 → is_some h.main ≡ true → verdict_of start (Ok h) ≡ Disabled
even_verdict start h even some = by_main h.main some
  where
    by_main : (m : Option Main) → is_some m ≡ true → option_map_or (app_verdict start h) m Padding ≡ Disabled
    by_main None none = absurd (false≢true none)
    by_main (Some m) is = cond-true _ _ _ (eq-eqb (h.flags % 2) 0 even)

none_disabled : (even bad wrong : Bool) → even ≡ false
    → cond even Disabled (cond bad BadEntry (cond wrong WrongFlash App)) ≢ Disabled
none_disabled true bad wrong is e = false≢true (sym is)
none_disabled false false true is e = cc
none_disabled even bad wrong is e = cc

odd_verdict : (start : ℕ) (h : Meaning) → h.flags % 2 ≡ 1 → verdict_of start (Ok h) ≢ Disabled
odd_verdict start h odd = by_main h.main
  where
    by_main : (m : Option Main) → option_map_or (app_verdict start h) m Padding ≢ Disabled
    by_main None e = cc
    by_main (Some m) e = none_disabled _ _ _ (ne_eqb (h.flags % 2) 0 (λ none. omega (arith, none, odd))) e

pub enabled_is_walked : AStoreIsPut → EnabledIsWalked
unfolding enabled
enabled_is_walked stores on flash at f bytes e =
    let w = whole_is flash at f bytes e in
    let object = found_bytes f flash in
    let flags = with_enabled on (word_at object 8) in
    let new = with_flags flags object in
    let m = record (meaning_of object) { flags = flags } in
    let like : IsLike 8 16 object new = flagged_like stores object flags w.large in
    let made : Makes flash f new m = record {
      size = like.size ∙ w.sound.long;
      version = half_below 0 like (omega arith) ∙ w.sound.version;
      total = word_below 4 like (omega arith) ∙ w.sound.total;
      read = flags_are_read stores object flags (meaning_of object) w.bytes
          (with_enabled_below on (word_at object 8) (word_limit object 8 w.bytes)) w.sound.read;
    } in
    let left = edit_leaves flash at f new m w made in
    let within = w.sound.within in
    let word : word_at (found_bytes f (replaced flash f.offset new)) 8 ≡ flags =
    rw (object_replaced flash new f.offset f.size (omega arith) made.size) (flags_read new m made.read) in
    let bits = one_bit on (word_at object 8) in
    let there : object_found f.offset (objects (replaced flash f.offset new))
    ≡ Some (record f { verdict = verdict_of (FLASH_START + f.offset) (Ok m) }) =
    rw left.walked (found_with (objects flash) f.offset (Ok m) f (found_again flash at f w.found)) in
    record {
      size = left.size;
      bytes = λ k out. left.bytes k (λ j same. elim out [
        | inl low ↦ like.below j (omega arith)
        | inr high ↦ like.above j (omega arith)
      ]);
      bit = rw word bits.0;
      others = rw word bits.1;
      walked = left.walked;
      off = λ is_off some.
          rw there (even_verdict (FLASH_START + f.offset) m (bits.0 ∙ ap (λ (b : Bool). cond b 1 0) is_off) some);
      on_again = λ is_on.
          rw there (odd_verdict (FLASH_START + f.offset) m (bits.0 ∙ ap (λ (b : Bool). cond b 1 0) is_on));
    }

place_parts : (name object : List ℕ) (o : Option ℕ) (at : ℕ) → option_and_then (if_as_long name object) o ≡ Some at
    → (o ≡ Some at) × (rounded_up (length name) ≡ rounded_up (length_at (header_of object) at))
place_parts name object None at e = cc
place_parts name object (Some x) at e =
    let parts = cond_some (rounded_up (length name) == rounded_up (length_at (header_of object) x)) x at e in
    rw (← parts.1) (refl, eqb-true _ _ parts.0)

-- what renaming leaves of an object
record Renamed (object new name : List ℕ) (at : ℕ) : Type 0 where
  size : length new ≡ length object
  version : half new 0 ≡ half object 0
  total : word_at new 4 ≡ word_at object 4
  bytes : (j : ℕ) → (j < 12) ⊎ (16 ≤ j) → (j < at + 2) ⊎ (at + 4 + rounded_up (length name) ≤ j)
      → slice_index new j ≡ slice_index object j

renamed_is : AStoreIsPut → (object name : List ℕ) (at : ℕ) (m : Meaning) → AreBytes object → AreBytes name
    → length name ≤ 32 → 16 ≤ length object → header_reading object ≡ Ok m → name_place object ≡ Some at
    → rounded_up (length name) ≡ rounded_up (length_at (header_of object) at)
    → Renamed object (renamed at name object) name at
unfolding renamed
renamed_is stores object name at m bytes letters few long read place same =
    let changed = replaced (put object (at + 2) Half (length name)) (at + 4) (padded name) in
    let c = named stores object name at bytes letters (omega arith) (sound_where_read object m read).0.well place
    same in
    let l = c.like in
    let low = c.low in
    let size_c : length changed ≡ length object = l.size in
    let k : IsLike 12 16 changed (mended changed) = mended_like stores changed (omega arith) in
    record {
      size = k.size ∙ l.size;
      version = half_below 0 k (omega arith) ∙ half_below 0 l (omega arith);
      total = word_below 4 k (omega arith) ∙ word_below 4 l (omega arith);
      bytes = λ j sum tlv.
          elim sum [
            | inl h ↦ k.below j h
            | inr h ↦ k.above j h
          ]
          ∙ elim tlv [
            | inl h ↦ l.below j h
            | inr h ↦ l.above j (omega arith)
          ];
    }

pub given_is_walked : AStoreIsPut → GivenIsWalked
unfolding with_name
given_is_walked stores name flash offset f at bytes letters few e place =
    let w = whole_is flash offset f bytes e in
    let object = found_bytes f flash in
    let there = place_parts name object (name_place object) at place in
    let new = renamed at name object in
    let m = record (meaning_of object) { name = Some name } in
    let r : Renamed object new name at = renamed_is stores object name at (meaning_of object) w.bytes letters few
    w.large w.sound.read there.0 there.1 in
    let made : Makes flash f new m = record {
      size = r.size ∙ w.sound.long;
      version = r.version ∙ w.sound.version;
      total = r.total ∙ w.sound.total;
      read = names_are_read stores object name at (meaning_of object) w.bytes letters (omega arith) w.sound.read
          there.0 there.1;
    } in
    let left = edit_leaves flash offset f new m w made in
    record {
      size = left.size;
      bytes = λ k sum tlv. left.bytes k (λ j same. r.bytes j (elim sum [
        | inl h ↦ inl (omega arith)
        | inr h ↦ inr (omega arith)
      ]) (elim tlv [
        | inl h ↦ inl (omega arith)
        | inr h ↦ inr (omega arith)
      ]));
      walked = left.walked;
    }
