-- The processes that boot makes are those of the applications placed, in their order. An application's header has been
-- read and found good, which gives all that its process's seat asks; and by induction on the applications, one without
-- a place adds nobody, one with a place adds its process, its own and its record at the end (`IsCrew`).
use Rattle.std.proofs.Common.{◌≡◌, ℕ, suc, ◌+◌, ◌-◌, ◌*◌, ◌%◌, ◌<◌, ◌≤◌, ◌==◌, Bool, false, cond, ◌||◌}
use Rattle.std.proofs.Common.{nat_lt, List, [], ◌∷◌, ◌++◌, length, map, take, get_or, slice_index, Option, None, Some}
use Rattle.std.proofs.Common.{IfSome, IfOk, Result, Ok, Err, is_ok, All, refl, sym, ap, ap₂, subst, ◌∙◌, add-one}
use Rattle.std.proofs.Common.{length-append, arith}
use Rattle.std.specs.List.{AllPairs, zip, filter_map, cons_option, count_by}
use Rattle.std.specs.Option.{option_map}
use Rattle.std.proofs.Math.Seq.{take-suc}
use Rattle.std.proofs.lemmas.Bool.Decides.{nat_tests}
use Rattle.std.proofs.lemmas.Grind.{common_steps}
use Rattle.std.proofs.lemmas.List.{get_or-take, get_or-drop, get_or-map, length-map, map-append, append-nil}
use Rattle.std.proofs.lemmas.List.Elements.{filter_map-append, All-cons, All-push, All-tail}
use Rattle.std.proofs.lemmas.List.Kept.{AllPairs-cons}
use Rattle.std.proofs.lemmas.List.Sums.{sum_by-cons}
use Rattle.tk_base.specs.declared.access.TheConstants.{FLASH_START, RAM_START}
use Rattle.tk_base.specs.declared.limits.TheConstants.{RAM_LIMIT, SLOT_COUNT}
use Rattle.tk_base.specs.declared.process.PlaceFault.{PlaceFault}
use Rattle.tbf_headers.specs.declared.fault.HeaderFault.{HeaderFault}
use Rattle.tbf_headers.specs.declared.fault.HeaderFault.TheVariants.{Short, Version, Sizes, Checksum}
use Rattle.tbf_headers.specs.declared.program.Main.{Main}
use Rattle.tbf_headers.specs.Addresses.{entry_of, after_protected, accessible_start, accessible_end_of}
use Rattle.tbf_headers.specs.Meaning.{Meaning, header_reading, meaning_of}
use Rattle.tbf_headers.specs.Parts.{unless_bad}
use Rattle.tbf_headers.specs.Objects.{object_at}
use Rattle.process_layout.specs.LayoutView.{LayoutView, first_break}
use Rattle.process_layout.specs.Ordered.{IsOrdered}
use Rattle.process_model.specs.declared.place.Footprint.{Footprint}
use Rattle.process_model.specs.Own.{Own, opened as own_opened}
use Rattle.flash_walk.specs.declared.found.Verdict.TheVariants.{Disabled, BadEntry, WrongFlash, App}
use Rattle.flash_walk.specs.Image.{object_bytes, size_at, verdict_of, app_verdict, has_bad_entry}
use Rattle.flash_walk.specs.Parts.{object_verdict}
use Rattle.flash_walk.specs.Parts.{is_bad_binary_end, is_wrong_flash, is_outside_flash}
use Rattle.app_placement.specs.declared.placed.Placed.{Placed}
use Rattle.app_placement.specs.Applications.{application}
use Rattle.app_placement.specs.Parts.{application_in}
use Rattle.app_placement.specs.Placement.{extents, IsAccessible, IsLaidOut, LiesBefore, LiesInFlash, LiesInRam}
use Rattle.app_placement.specs.Placement.{is_placed}
use Rattle.app_placement.specs.Parts.{Place}
use Rattle.process_record.specs.declared.process.Process.{Process}
use Rattle.process_record.specs.Process.{started}
use Rattle.grant_enter.specs.Homes.{CanMoveIn, EndsBefore, FootprintBefore as StandsBefore}
use Rattle.process_seat.specs.Places.{FitsMemory}
use Rattle.kernel_model.specs.Record.{Record}
use Rattle.board_opening.specs.declared.boot.LoadedProcesses.{LoadedProcesses}
use Rattle.board_opening.specs.Boot.{IsCrew, IsFirst, footprint_of, fresh_record, layout_at, layout_in}
use Rattle.board_opening.specs.Opening.{opening_record, record_placed}
use Rattle.board_opening.specs.Parts.{opened_by, record_with_place}
use Rattle.kernel_calls.specs.Residents.{IsResident}
use Rattle.kernel_calls.proofs.Pairs.{zip-more, length-firsts}

-- a byte of an object is one of flash
object_byte : (flash : List ℕ) (from size k : ℕ) → k < size
    → slice_index (object_at flash from size) k ≡ slice_index flash (from + k)
object_byte flash from size k h = grind (arith, get_or-take, get_or-drop)

object_length : (flash : List ℕ) (from size : ℕ) → length (object_at flash from size) ≤ size
object_length flash from size = grind (arith, common_steps)

-- a header that was read has its bytes' meaning, of at least 16 bytes
read_ok : (b1 b2 b3 b4 : Bool) (o : Option ℕ) (m h : Meaning)
    → cond b1 (Err Short) (cond b2 (Err Version) (cond b3 (Err Sizes) (cond b4 (Err Checksum) (unless_bad o m)))) ≡ Ok h
    → (b1 ≡ false) × (m ≡ h)
read_ok false false false false None m h e = (refl, cc)
read_ok b1 b2 b3 b4 o m h e = cc

read_long : (bytes : List ℕ) (h : Meaning) → header_reading bytes ≡ Ok h → (16 ≤ length bytes) × (meaning_of bytes ≡ h)
unfolding header_reading
read_long bytes h e =
    let r = read_ok (nat_lt (length bytes) 16) _ _ _ _ (meaning_of bytes) h e in
    (long r.0, r.1)
  where
    long : nat_lt (length bytes) 16 ≡ false → 16 ≤ length bytes
    long f = grind (arith, nat_tests)

-- the total size that an object's header says is the object's
same_size : (flash : List ℕ) (offset : ℕ) (h : Meaning) → header_reading (object_bytes flash offset) ≡ Ok h
    → (16 ≤ size_at flash offset) × (h.total_size ≡ size_at flash offset)
unfolding meaning_of
same_size flash offset h e =
    let r = read_long (object_bytes flash offset) h e in
    let size = size_at flash offset in
    let large : 16 ≤ size = omega (arith, r.0, object_length flash offset size) in
    let byte : (k : ℕ) → k < 16
    → slice_index (object_bytes flash offset) k ≡ slice_index flash (offset + k) =
    λ k lt. object_byte flash offset size k (omega arith) in (
      large,
      ap (λ (m : Meaning). m.total_size) (sym r.1)
          ∙ same_word (byte 4 (omega arith)) (byte 5 (omega arith) ∙ ap (slice_index flash) (omega arith))
          (byte 6 (omega arith) ∙ ap (slice_index flash) (omega arith))
          (byte 7 (omega arith) ∙ ap (slice_index flash) (omega arith)),
    )
  where
    same_word : {a b c d w x y z : ℕ} → a ≡ w → b ≡ x → c ≡ y → d ≡ z
        → a + 256 * b + 65536 * c + 16777216 * d ≡ w + 256 * x + 65536 * y + 16777216 * z
    same_word e f g i = cc

-- what is known of the header of an application in its place
pub record KnownApplication (flash : List ℕ) (offset : ℕ) (e : LayoutView) : Type 0 where
  pub h : Meaning
  pub m : Main
  pub read : header_reading (object_bytes flash offset) ≡ Ok h
  pub main : h.main ≡ Some m
  pub large : 16 ≤ size_at flash offset
  pub total : h.total_size ≡ size_at flash offset
  pub entry : entry_of (FLASH_START + offset) h m < e.flash_end
  pub protected : after_protected (FLASH_START + offset) h m ≤ e.flash_start
  pub least : first_break e.start m.minimum_ram ≡ e.brk
  pub no_grants : e.kernel_break ≡ e.end

-- an application has a header with a main
has_main : (at : ℕ) (bytes : List ℕ) (r : Result Meaning HeaderFault) → header_reading bytes ≡ r → verdict_of at r ≡ App
    → (h : Meaning) × (m : Main) × (header_reading bytes ≡ Ok h) × (h.main ≡ Some m) × (app_verdict at h m ≡ App)
has_main at bytes (Err fault) e v = cc
has_main at bytes (Ok h) e v = by_main h.main refl v
  where
    by_main : (o : Option Main) → h.main ≡ o → object_verdict at h o ≡ App
        → (h : Meaning) × (m : Main) × (header_reading bytes ≡ Ok h) × (h.main ≡ Some m) × (app_verdict at h m ≡ App)
    by_main None f v = cc
    by_main (Some m) f v = (h, m, e, f, v)

good_entry : (a b c : Bool) → cond a Disabled (cond b BadEntry (cond c WrongFlash App)) ≡ App → b ≡ false
good_entry false false c e = refl
good_entry a b c e = cc

last_false : (a b c d : Bool) → (a || b || c || d) ≡ false → d ≡ false
last_false false false false d e = e
last_false a b c d e = cc

inside : (at : ℕ) (h : Meaning) (m : Main) → app_verdict at h m ≡ App → entry_of at h m < accessible_end_of at h m
inside at h m v =
    below (last_false (nat_lt h.total_size (h.header_size + m.protected))
    (is_bad_binary_end (h.header_size + m.protected) h.total_size m.binary_end) (entry_of at h m % 2 == 1)
    (is_outside_flash at h m) (good_entry (h.flags % 2 == 0) (has_bad_entry at h m)
    (is_wrong_flash (after_protected at h m) h.fixed) v))
  where
    below : is_outside_flash at h m ≡ false → entry_of at h m < accessible_end_of at h m
    below f = grind (arith, nat_tests)

laid_out : (offset : ℕ) (e : LayoutView) (h : Meaning) (m : Main) (r : Result Meaning HeaderFault) → r ≡ Ok h
    → h.main ≡ Some m → option_map (λ app. extents app e.start) (application_in offset r) ≡ Some e
    → extents (application offset h m) e.start ≡ e
laid_out offset e h m r i j k = let same = rw (i, j) at k in cc

pub application_known : (flash : List ℕ) (offset : ℕ) (place : Place)
    → IsLaidOut flash (record { offset = offset; place = Ok place }) → KnownApplication flash offset place.1
application_known flash offset place l =
    let known = has_main (FLASH_START + offset) (object_bytes flash offset) (header_reading (object_bytes flash offset))
    refl l.0 in
    let h = known.0 in
    let m = known.1 in
    let size = same_size flash offset h known.2 in
    let e = laid_out offset place.1 h m (header_reading (object_bytes flash offset)) known.2 known.3 l.1 in
    let from : accessible_start (FLASH_START + offset) h m ≡ place.1.flash_start =
    ap (λ (x : LayoutView). x.flash_start) e in
    let to : accessible_end_of (FLASH_START + offset) h m ≡ place.1.flash_end =
    ap (λ (x : LayoutView). x.flash_end) e in
    record {
      h = h;
      m = m;
      read = known.2;
      main = known.3;
      large = size.0;
      total = size.1;
      entry = rw to at (inside (FLASH_START + offset) h m known.4);
      protected = subst (λ (n : ℕ). after_protected (FLASH_START + offset) h m ≤ n) from (omega arith);
      least = ap (λ (x : LayoutView). x.brk) e;
      no_grants = sym (ap (λ (x : LayoutView). x.kernel_break) e) ∙ ap (λ (x : LayoutView). x.end) e;
    }

-- the process at its start
pub starts : {flash : List ℕ} {offset : ℕ} {e : LayoutView} (a : KnownApplication flash offset e) (header : Meaning)
    (p : Process) → header_reading (object_bytes flash offset) ≡ Ok header
    → IfSome header.main (λ m. p ≡ started (FLASH_START + offset) header m e.start (e.end - e.start) e.brk)
    → p ≡ started (FLASH_START + offset) a.h a.m e.start (e.end - e.start) e.brk
starts a header p read is = let same : header ≡ a.h = cc (read, a.read) in rw (same, a.main) at is

whole_object : (flash : List ℕ) (offset size total : ℕ) → total ≡ size
    → object_at flash (536870912 + offset - 536870912) total ≡ object_at flash offset size
whole_object flash offset size total e =
    let at : 536870912 + offset - 536870912 ≡ offset = omega arith in
    ap₂ (object_at flash) at e

module _ {flash : List ℕ} {offset : ℕ} {e : LayoutView} (a : KnownApplication flash offset e) {p : Process}
    (s : p ≡ started (FLASH_START + offset) a.h a.m e.start (e.end - e.start) e.brk) where
  -- the record of the process in its place
  pub process_shown : (storage : ℕ)
      → Some (fresh_record storage flash (p, own_opened (record { object = p.object; layout = e })))
      ≡ opened_by storage flash offset e (header_reading (object_bytes flash offset))
  unfolding opening_record
  process_shown storage =
      rw (s, whole_object flash offset (size_at flash offset) a.h.total_size a.total, a.read, a.main)

  pub process_seated : IsAccessible offset (size_at flash offset) e.flash_start e.flash_end
      → offset + size_at flash offset ≤ length flash → e.flash_end ≤ RAM_START → e.brk ≤ e.end
      → IsResident flash 0 (p, own_opened (record { object = p.object; layout = e }))
  process_seated access within below end = rw s (record {
    own = record {
      object = record {
        lies = record {
          from = omega arith;
          to = omega (arith, a.total, within);
          accessible_from = omega (arith, access.from_object);
          accessible_to = omega (arith, a.total, access.within_object);
        };
        application = rw (whole_object flash offset (size_at flash offset) a.h.total_size a.total, a.read, a.main)
            (record {
              entry = omega (arith, a.entry, below);
              protected = omega (arith, a.protected, access.not_empty, below);
              fits = omega (arith, a.least, end);
            });
      };
      object_is = refl;
      lives = refl;
    };
    turns = omega arith;
    restarts = omega arith;
    life = omega arith;
  })

-- what one more element adds
pub filter_map-take : {X Y : Type 0} (f : X → Option Y) (xs : List X) (i : ℕ) (d : X) (o : Option Y) → i < length xs
    → f (get_or xs i d) ≡ o → filter_map f (take (i + 1) xs) ≡ filter_map f (take i xs) ++ cons_option o []
filter_map-take f xs i d o h e =
    ap (λ n. filter_map f (take n xs)) (add-one i)
    ∙ ap (filter_map f) (take-suc xs i d h)
    ∙ filter_map-append f (take i xs) (get_or xs i d ∷ [])
    ∙ ap (λ o. filter_map f (take i xs) ++ cons_option o []) e

-- the residents with one more at the end
residents_more : (processes : List Process) (layouts : List Footprint) (process : Process) (e : Footprint)
    → length processes ≡ length layouts
    → zip (processes ++ process ∷ []) (map own_opened (layouts ++ e ∷ []))
    ≡ zip processes (map own_opened layouts) ++ (process, own_opened e) ∷ []
residents_more processes layouts process e same =
    rw (map-append own_opened layouts (e ∷ [])) (zip-more processes (map own_opened layouts) process (own_opened e)
    (length-map layouts own_opened ∙ sym same))

-- what is passed over adds nothing, and what is not adds itself
pub pass_none : {X Y : Type 0} (f : X → Option Y) (xs : List X) (i : ℕ) (d : X) (ys : List Y) → i < length xs
    → f (get_or xs i d) ≡ None → ys ≡ filter_map f (take i xs) → ys ≡ filter_map f (take (i + 1) xs)
pass_none f xs i d ys h e so =
    so ∙ sym (append-nil (filter_map f (take i xs))) ∙ sym (filter_map-take f xs i d None h e)

pub pass_some : {X Y : Type 0} (f : X → Option Y) (xs : List X) (i : ℕ) (d : X) (y : Y) (ys : List Y) → i < length xs
    → f (get_or xs i d) ≡ Some y → ys ≡ filter_map f (take i xs) → ys ++ y ∷ [] ≡ filter_map f (take (i + 1) xs)
pass_some f xs i d y ys h e so = ap (λ zs. zs ++ y ∷ []) so ∙ sym (filter_map-take f xs i d (Some y) h e)

-- nobody yet
pub crew_empty : (flash : List ℕ) (crew : LoadedProcesses) → crew.processes.items ≡ [] → crew.footprints.items ≡ []
    → IsCrew flash [] crew
crew_empty flash crew processes footprints = record {
  layouts = rw footprints;
  first = rw footprints (λ i d h. absurd (omega arith));
  count = rw (processes, footprints);
  shown = λ storage. rw (footprints, processes);
  seated = rw (footprints, processes) (λ i d h. absurd (omega arith));
}

-- an application that has no place adds nobody
pub crew_none : (flash : List ℕ) (placed : List Placed) (i : ℕ) (d : Placed) (crew : LoadedProcesses)
    → i < length placed → get_or placed i d ≡ d → (fault : PlaceFault) → d.place ≡ Err fault
    → IsCrew flash (take i placed) crew → IsCrew flash (take (i + 1) placed) crew
crew_none flash placed i d crew h is fault f c = record {
  layouts = pass_none layout_at placed i d _ h (ap layout_at is ∙ ap layout_in f) c.layouts;
  first = c.first;
  count = c.count;
  shown = λ storage.
      pass_none (record_placed storage flash) placed i d _ h
      (ap (record_placed storage flash) is ∙ ap (record_with_place storage flash d.offset) f) (c.shown storage);
  seated = c.seated;
}

-- one that has adds its process and what it takes up
pub crew_more : (flash : List ℕ) (placed : List Placed) (i : ℕ) (d : Placed) (crew more : LoadedProcesses)
    (process : Process) (place : Place) → i < length placed → get_or placed i d ≡ d → d.place ≡ Ok place
    → IsCrew flash (take i placed) crew → more.processes.items ≡ crew.processes.items ++ process ∷ []
    → more.footprints.items ≡ crew.footprints.items ++ footprint_of process place ∷ []
    → ((storage : ℕ)
    → Some (fresh_record storage flash (process, own_opened (footprint_of process place)))
    ≡ record_with_place storage flash d.offset (Ok place))
    → IsResident flash 0 (process, own_opened (footprint_of process place))
    → IsFirst (length flash) (footprint_of process place) → IsCrew flash (take (i + 1) placed) more
crew_more flash placed i d crew more process place h is f c processes footprints shown seated first =
    let e = footprint_of process place in
    let fs = crew.footprints.items in
    let pairs = residents_more crew.processes.items fs process e c.count in
    record {
      layouts = rw (footprints, map-append (λ (f : Footprint). f.layout) fs (e ∷ []))
          (pass_some layout_at placed i d place.1 _ h (ap layout_at is ∙ ap layout_in f) c.layouts);
      first = rw footprints (All-push (IsFirst (length flash)) fs e c.first first);
      count = omega (
        arith,
        ap length processes,
        ap length footprints,
        length-append crew.processes.items (process ∷ []),
        length-append fs (e ∷ []),
        c.count,
      );
      shown = λ storage. rw (
        processes,
        footprints,
        pairs,
        map-append (fresh_record storage flash)
            (zip crew.processes.items (map own_opened fs)) ((process, own_opened e) ∷ []),
      )
          (pass_some (record_placed storage flash) placed i d (fresh_record storage flash (process, own_opened e)) _ h
          (ap (record_placed storage flash) is ∙ ap (record_with_place storage flash d.offset) f ∙ sym (shown storage))
          (c.shown storage));
      seated = rw (processes, footprints, pairs) (All-push (IsResident flash 0)
          (zip crew.processes.items (map own_opened fs)) (process, own_opened e) c.seated seated);
    }

-- there are no more records than applications that are placed
one_record : (o : Option Record) (rest : List Record) (n : ℕ) → length rest ≤ n → length (cons_option o rest) ≤ 1 + n
one_record None rest n h = omega (arith, h)
one_record (Some r) rest n h = omega (arith, h)

one_placed : (storage : ℕ) (flash : List ℕ) (offset : ℕ) (r : Result Place PlaceFault) (rest : List Record) (n : ℕ)
    → length rest ≤ n → length (cons_option (record_with_place storage flash offset r) rest) ≤ cond (is_ok r) 1 0 + n
one_placed storage flash offset (Err fault) rest n h = omega (arith, h)
one_placed storage flash offset (Ok place) rest n h =
    one_record (record_with_place storage flash offset (Ok place)) rest n h

few_records : (storage : ℕ) (flash : List ℕ) (placed : List Placed)
    → length (filter_map (record_placed storage flash) placed) ≤ count_by is_placed placed
few_records storage flash [] = omega arith
few_records storage flash (p ∷ ps) =
    let count = sum_by-cons (λ (q : Placed). cond (is_placed q) 1 0) p ps in
    let one = one_placed storage flash p.offset p.place (filter_map (record_placed storage flash) ps)
    (count_by is_placed ps) (few_records storage flash ps) in
    omega (arith, count, one)

pub few_processes : (storage : ℕ) (flash : List ℕ) (placed : List Placed) (processes : List Process) (owns : List Own)
    → length owns ≡ length processes
    → map (fresh_record storage flash) (zip processes owns) ≡ filter_map (record_placed storage flash) placed
    → count_by is_placed placed ≤ SLOT_COUNT → length processes ≤ SLOT_COUNT
few_processes storage flash placed processes owns n e few =
    let records : length (zip processes owns) ≡ length (filter_map (record_placed storage flash) placed) =
    sym (length-map (zip processes owns) (fresh_record storage flash)) ∙ ap length e in
    omega (arith, few_records storage flash placed, records, few, length-firsts processes owns n)

-- where the memory of each lies
settled_one : (flash : List ℕ) (ram offset : ℕ) (r : Result Place PlaceFault) (rest : List LayoutView) → ram ≤ RAM_LIMIT
    → LiesInFlash flash (record { offset = offset; place = r }) → LiesInRam ram (record { offset = offset; place = r })
    → All IsOrdered (cons_option (layout_in r) rest) → (All IsOrdered rest → All (FitsMemory (length flash) ram) rest)
    → All (FitsMemory (length flash) ram) (cons_option (layout_in r) rest)
settled_one flash ram offset (Err fault) rest small in_flash in_ram ordered later = later ordered
settled_one flash ram offset (Ok place) rest small in_flash in_ram ordered later =
    let access = in_flash.0 in
    All-cons (FitsMemory (length flash) ram) place.1 rest
    (record {
      ordered = ordered 0 place.1 (omega arith);
      flash_from = omega (arith, access.from_object);
      flash_to = omega (arith, access.within_object, in_flash.1);
      flash_start_aligned = access.from_aligned;
      flash_end_aligned = access.to_aligned;
      below = in_flash.2;
      from = in_ram.0;
      to = in_ram.1;
      fits = omega (arith, in_ram.1);
    })
    (later (All-tail IsOrdered place.1 rest ordered))

pub all_settled : (flash : List ℕ) (ram : ℕ) (placed : List Placed) → ram ≤ RAM_LIMIT → All (LiesInFlash flash) placed
    → All (LiesInRam ram) placed → All IsOrdered (filter_map layout_at placed)
    → All (FitsMemory (length flash) ram) (filter_map layout_at placed)
all_settled flash ram [] small in_flash in_ram ordered = λ i d h. absurd (omega arith)
all_settled flash ram (p ∷ ps) small in_flash in_ram ordered =
    settled_one flash ram p.offset p.place (filter_map layout_at ps) small (in_flash 0 p (omega arith))
    (in_ram 0 p (omega arith)) ordered
    (λ o. all_settled flash ram ps small (All-tail (LiesInFlash flash) p ps in_flash)
    (All-tail (LiesInRam ram) p ps in_ram) o)

-- and that they lie apart
after_one : (a : Place) (r : Result Place PlaceFault) (rest : List LayoutView)
    → IfOk r (λ b. (a.0 < b.0) × (a.1.end ≤ b.1.start)) → All (EndsBefore a.1) rest
    → All (EndsBefore a.1) (cons_option (layout_in r) rest)
after_one a (Err fault) rest lies later = later
after_one a (Ok b) rest lies later = All-cons (EndsBefore a.1) b.1 rest lies.1 later

after : (a : Place) (ps : List Placed)
    → ((i : ℕ) (d : Placed) → i < length ps → IfOk (get_or ps i d).place (λ b. (a.0 < b.0) × (a.1.end ≤ b.1.start)))
    → All (EndsBefore a.1) (filter_map layout_at ps)
after a [] lies = λ i d h. absurd (omega arith)
after a (p ∷ ps) lies =
    after_one a p.place (filter_map layout_at ps) (lies 0 p (omega arith))
    (after a ps (λ i d h. lies (suc i) d (omega arith)))

apart_one : (r : Result Place PlaceFault) (ps : List Placed)
    → ((i : ℕ) (d : Placed) → i < length ps
    → IfOk r (λ a. IfOk (get_or ps i d).place (λ b. (a.0 < b.0) × (a.1.end ≤ b.1.start))))
    → AllPairs EndsBefore (filter_map layout_at ps)
    → AllPairs EndsBefore (cons_option (layout_in r) (filter_map layout_at ps))
apart_one (Err fault) ps lies later = later
apart_one (Ok a) ps lies later = AllPairs-cons EndsBefore a.1 (filter_map layout_at ps) (after a ps lies) later

pub all_apart : (placed : List Placed) → AllPairs LiesBefore placed → AllPairs EndsBefore (filter_map layout_at placed)
all_apart [] apart = λ i j d l h. absurd (omega arith)
all_apart (p ∷ ps) apart =
    apart_one p.place ps (λ i d h. apart 0 (suc i) d (omega arith) (omega arith))
    (all_apart ps (λ i j d l h. apart (suc i) (suc j) d (omega arith) (omega arith)))

-- what each process takes up may be moved into
pub all_move_in : (flash ram : ℕ) (fs : List Footprint)
    → All (FitsMemory flash ram) (map (λ (f : Footprint). f.layout) fs) → All (IsFirst flash) fs
    → All (CanMoveIn flash ram) fs
all_move_in flash ram fs settled first i d h =
    let f = first i d h in
    record {
      settled = rw (get_or-map (λ (f : Footprint). f.layout) fs i d d.layout h) at
          (settled i d.layout (omega (arith, length-map fs (λ (f : Footprint). f.layout))));
      object = f.object;
      no_grants = f.no_grants;
    }

pub all_stand_apart : (fs : List Footprint) → AllPairs EndsBefore (map (λ (f : Footprint). f.layout) fs)
    → AllPairs StandsBefore fs
all_stand_apart fs apart i j d l h =
    let layout = λ (f : Footprint). f.layout in
    rw (get_or-map layout fs i d d.layout (omega arith), get_or-map layout fs j d d.layout h) at
    (apart i j d.layout l (omega (arith, length-map fs layout)))

pub all_ordered : (flash : ℕ) (fs : List Footprint) → All (IsFirst flash) fs
    → All IsOrdered (map (λ (f : Footprint). f.layout) fs)
all_ordered flash fs first i d h =
    let f : Footprint = record { object = record { address = 0; size = 0 }; layout = d } in
    let within : i < length fs = omega (arith, length-map fs (λ (f : Footprint). f.layout)) in
    rw (get_or-map (λ (f : Footprint). f.layout) fs i f d within) (first i f within).ordered
