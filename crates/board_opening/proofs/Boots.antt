-- What is so of the processes of an opening world. Blocks are placed one behind another, so by induction on the
-- applications each record is an opening record, in a block at or above the end of the one before (`AreOpened`). From
-- this alone come all laws of the first record, and that any two blocks lie apart.
use Rattle.std.proofs.Common.{◌≡◌, ◌≢◌, ◌≤◌, ℕ, zero, suc, ◌+◌, ◌-◌, ◌%◌, ◌==◌, nat_le, nat_lt, Bool, true, false, cond}
use Rattle.std.proofs.Common.{not, ◌||◌, arith, List, [], ◌∷◌, slice_get, Option, None, Some, is_some, IfSome, Result}
use Rattle.std.proofs.Common.{Ok, Err, replicate, refl, sym, ap, subst, ◌∙◌}
use Rattle.std.specs.List.{AllByRecursion, cons_option, filter_map}
use Rattle.std.specs.Option.{option_map}
use Rattle.std.proofs.lemmas.Bool.{false≢true}
use Rattle.std.proofs.lemmas.Bool.Decides.{nat_tests}
use Rattle.std.proofs.lemmas.List.{length-replicate}
use Rattle.std.proofs.lemmas.List.Elements.{All-nil}
use Rattle.tk_base.specs.Numbers.{rounded_up}
use Rattle.tk_base.specs.declared.access.TheConstants.{FLASH_START, RAM_START}
use Rattle.tk_base.specs.declared.limits.TheConstants.{OBJECT_LIMIT, SLOT_COUNT}
use Rattle.tk_base.specs.declared.process.PlaceFault.{PlaceFault}
use Rattle.tk_base.specs.declared.process.PlaceFault.TheVariants.{NoSlot, FixedTaken, NoRoom}
use Rattle.tbf_headers.specs.declared.fault.HeaderFault.{HeaderFault}
use Rattle.tbf_headers.specs.declared.program.Main.{Main}
use Rattle.tbf_headers.specs.Meaning.{Meaning, header_reading}
use Rattle.process_layout.specs.LayoutView.{LayoutView, first_break}
use Rattle.flash_walk.specs.Image.{object_bytes}
use Rattle.script_text.specs.Settings.{ScriptSettings as Script}
use Rattle.app_placement.specs.Applications.{application, applications}
use Rattle.app_placement.specs.Parts.{application_in}
use Rattle.app_placement.specs.Placement.{block_length, extents, filled_after, is_start_taken, place_of}
use Rattle.app_placement.specs.Parts.{block_start}
use Rattle.app_placement.specs.Placement.{places_from, room_of}
use Rattle.app_placement.specs.Parts.{Place}
use Rattle.app_placement.specs.declared.application.Application.{Application}
use Rattle.app_placement.specs.declared.placed.Filled.{Filled}
use Rattle.app_placement.specs.declared.placed.Room.{Room}
use Rattle.kernel_model.specs.Record.{Record}
use Rattle.kernel_model.specs.Calls.{restart}
use Rattle.kernel_model.specs.Parts.{restarted_by, restarted_main}
use Rattle.tbf_headers.specs.Meaning.{main_by}
use Rattle.kernel_lives.specs.Counts.{CountsAddUp, WaitingAreThere, turns_of_all}
use Rattle.driver_model.specs.Commands.{QueueName, Writes}
use Rattle.driver_model.specs.Lines.{has_waiting}
use Rattle.process_model.proofs.Changes.{keeps_none}
use Rattle.process_model.specs.Pairs.{OnlyHandingChangesPairs}
use Rattle.driver_model.specs.Keeping.{IsInOrder, IsSettled}
use Rattle.kernel_model.specs.Wholes.{HasWholeOwn}
use Rattle.kernel_lives.specs.Ended.{IsFreeOnceEnded}
use Rattle.kernel_lives.specs.Registers.{HasRegisters}
use Rattle.kernel_lives.proofs.Registers.{start_many}
use Rattle.kernel_lives.specs.Lists.{ListsAreOfRequests, asks_at, once_if, times_in}
use Rattle.kernel_lives.specs.StoredBytes.{AsksWithin}
use Rattle.kernel_model.specs.Named.{slots_in}
use Rattle.kernel_model.specs.Lives.{AreApart, BlocksAreApart, HasOrder, HasPendingWithinLimit, IsAsAtFirst, IsAtFirst}
use Rattle.kernel_model.specs.Lives.{LivesAsItRuns}
use Rattle.kernel_model.specs.Replay.{after_all}
use Rattle.kernel_histories.specs.Drops.{DropsAddUp, drops_of}
use Rattle.board_opening.specs.Certified.{CountsFromBootAddUp, DropsFromBootAddUp}
use Rattle.board_opening.specs.Settings.{is_partitioned}
use Rattle.board_opening.proofs.Asked.{IsAsked, asked_from}
use Rattle.kernel_model.specs.Histories.{HandedNothing}
use Rattle.board_opening.specs.Opening.{opening_record, opening, record_placed}
use Rattle.board_opening.specs.Parts.{opened_by, record_with_place}

-- the next block may lie where the last one ends, or above
abbrev HasRoom : Bool → ℕ → Filled → Type 0
HasRoom partition ram filled = filled.last_end ≤ (room_of partition ram filled).from

-- a place, where an application has one
record IsPlace (partition : Bool) (ram : ℕ) (filled : Filled) (app : Application) (place : Place) : Type 0 where
  start : ℕ
  layout : place.1 ≡ extents app start
  above : filled.last_end ≤ start
  next : HasRoom partition ram (filled_after filled (Ok place))

starts_above : (partition : Bool) (from : ℕ) (fixed : Option ℕ) → is_start_taken partition from fixed ≡ false
    → from ≤ block_start from fixed
starts_above partition from None e = omega arith
starts_above true from (Some fixed) e = grind (arith, nat_tests)
starts_above false from (Some fixed) e = by_test (fixed % 8 == 0) (nat_lt fixed from) refl e
  where
    by_test : (a b : Bool) → nat_lt fixed from ≡ b → (not a || b) ≡ false → from ≤ fixed
    by_test true false is e = grind (arith, nat_tests)
    by_test a b is e = absurd (false≢true (sym e))

next_room : (partition : Bool) (ram : ℕ) (filled : Filled) (place : Place)
    → place.1.end ≤ (room_of partition ram filled).to → HasRoom partition ram (filled_after filled (Ok place))
next_room true ram filled place ends = ends
next_room false ram filled place ends = omega arith

first_room : (partition : Bool) (ram : ℕ) → HasRoom partition ram (record { last_end = RAM_START; count = 0 })
first_room true ram = omega arith
first_room false ram = omega arith

is_place : (partition : Bool) (ram : ℕ) (filled : Filled) (app : Application) (place : Place)
    → HasRoom partition ram filled → place_of partition ram filled app ≡ Ok place
    → IsPlace partition ram filled app place
unfolding place_of
is_place partition ram filled app place has is =
    by_test (nat_le SLOT_COUNT filled.count) (is_start_taken partition room.from app.fixed_start)
    (nat_lt room.to (start + block_length app.minimum_ram)) refl refl is
  where
    room : Room
    room = room_of partition ram filled

    start : ℕ
    start = block_start room.from app.fixed_start

    by_test : (a b c : Bool) → is_start_taken partition room.from app.fixed_start ≡ b
        → nat_lt room.to (start + block_length app.minimum_ram) ≡ c
        → cond a (Err NoSlot) (cond b (Err FixedTaken)
        (cond c (Err NoRoom) (Ok (filled.count, extents app start)))) ≡ Ok place
        → IsPlace partition ram filled app place
    by_test false false false e g f =
        let same : ◌≡◌ {A = Place} (filled.count, extents app start) place = cc in
        let fits : start + block_length app.minimum_ram ≤ room.to = grind (arith, nat_tests) in
        record {
          start = start;
          layout = ap (λ (p : Place). p.1) (sym same);
          above = omega (arith, has, starts_above partition room.from app.fixed_start e);
          next = next_room partition ram filled place (subst (λ (p : Place). p.1.end ≤ room.to) same fits);
        }
    by_test a b c e g f = absurd (cc)

-- An opened process, and one after another: each block starts at or above the end of the one before.
module _ (storage : ℕ) (flash : List ℕ) where
  pub record IsOpened (low : ℕ) (r : Record) : Type 0 where
    pub offset : ℕ
    pub start : ℕ
    pub header : Meaning
    pub main : Main
    pub read : header_reading (object_bytes flash offset) ≡ Ok header
    pub has : header.main ≡ Some main
    pub is : r ≡ opening_record storage flash offset (extents (application offset header main) start) header main
    pub above : low ≤ r.own.layout.start
    pub ends : r.own.layout.start ≤ r.own.layout.end

  unfoldable AreOpened : ℕ → List Record → Type 0
  AreOpened low [] = Unit {0}
  AreOpened low (r ∷ rs) = IsOpened low r × AreOpened r.own.layout.end rs

  module _ (partition : Bool) (ram : ℕ) where
    one_opened : (filled : Filled) (app : Application) (place : Place) (rest : List Record) → IsAsked flash app
        → IsPlace partition ram filled app place → AreOpened place.1.end rest
        → AreOpened filled.last_end (cons_option (record_with_place storage flash app.offset (Ok place)) rest)
    unfolding AreOpened opening_record
    one_opened filled app place rest asked p later =
        by_header (header_reading (object_bytes flash app.offset)) refl asked
      where
        by_main : (h : Meaning) (m : Option Main) → header_reading (object_bytes flash app.offset) ≡ Ok h → h.main ≡ m
            → option_map (application app.offset h) m ≡ Some app
            → AreOpened filled.last_end
            (cons_option (option_map (opening_record storage flash app.offset place.1 h) m) rest)
        by_main h None read is e = absurd (cc)
        by_main h (Some m) read is e =
            let same : application app.offset h m ≡ app = cc in
            let layout = p.layout ∙ ap (λ (a : Application). extents a p.start) (sym same) in (
              record {
                offset = app.offset;
                start = p.start;
                header = h;
                main = m;
                read = read;
                has = is;
                is = ap (λ (x : LayoutView). opening_record storage flash app.offset x h m) layout;
                above = rw p.layout p.above;
                ends = rw p.layout (omega arith);
              },
              later,
            )

        by_header : (h : Result Meaning HeaderFault) → header_reading (object_bytes flash app.offset) ≡ h
            → application_in app.offset h ≡ Some app
            → AreOpened filled.last_end (cons_option (opened_by storage flash app.offset place.1 h) rest)
        by_header (Err fault) read e = absurd (cc)
        by_header (Ok h) read e = by_main h h.main read refl e

    all_opened : (apps : List Application) (filled : Filled) → HasRoom partition ram filled
        → AllByRecursion (IsAsked flash) apps
        → AreOpened filled.last_end (filter_map (record_placed storage flash) (places_from partition ram filled apps))
    unfolding AreOpened places_from
    all_opened [] filled has asked = tt
    all_opened (app ∷ apps) filled has asked =
        by_place (place_of partition ram filled app) refl (λ f room. all_opened apps f room asked.1)
      where
        by_place : (r : Result Place PlaceFault) → place_of partition ram filled app ≡ r
            → ((f : Filled) → HasRoom partition ram f
            → AreOpened f.last_end (filter_map (record_placed storage flash) (places_from partition ram f apps)))
            → AreOpened filled.last_end
            (cons_option (record_with_place storage flash app.offset r)
            (filter_map (record_placed storage flash) (places_from partition ram (filled_after filled r) apps)))
        by_place (Err fault) is later = later filled has
        by_place (Ok place) is later =
            let p = is_place partition ram filled app place has is in
            one_opened filled app place _ asked.0 p (later (filled_after filled (Ok place)) p.next)

  -- what is so of each that is opened is so of each process
  of_each : (P : Record → Type 0) → ((low : ℕ) (r : Record) → IsOpened low r → P r) → (low : ℕ) (rs : List Record)
      → AreOpened low rs → (slot : ℕ) → IfSome (slice_get rs slot) P
  unfolding AreOpened
  of_each P each low [] all slot = tt
  of_each P each low (r ∷ rs) all zero = each low r all.0
  of_each P each low (r ∷ rs) all (suc slot) = of_each P each r.own.layout.end rs all.1 slot

  -- its application can start again
  starts_again : {low : ℕ} {r : Record} (o : IsOpened low r)
      → is_some (main_by (header_reading (object_bytes flash o.offset))) ≡ true
  starts_again o = ap (λ (x : Result Meaning HeaderFault). is_some (main_by x)) o.read ∙ ap is_some o.has

  order_first : (low : ℕ) (r : Record) → IsOpened low r → HasOrder r
  unfolding opening_record
  order_first low r o = rw o.is (record {
    places = record { mark = omega arith; brk = up_to o.start o.main.minimum_ram; grants = omega (arith, fits) };
    least = rw (o.read, o.has) fits;
  })
    where
      up_to : (n m : ℕ) → n ≤ rounded_up (n + m)
      up_to n m = omega arith

      fits : first_break o.start o.main.minimum_ram ≤ o.start + block_length o.main.minimum_ram
      fits = omega arith

  -- blocks that follow one another lie apart
  lies_above : (low : ℕ) (rs : List Record) → AreOpened low rs → (slot : ℕ) (r : Record) → slice_get rs slot ≡ Some r
      → low ≤ r.own.layout.start
  unfolding AreOpened
  lies_above low [] all slot r is = absurd (cc)
  lies_above low (x ∷ rs) all zero r is = let same : x ≡ r = cc in rw same at all.0.above
  lies_above low (x ∷ rs) all (suc slot) r is =
      let above = lies_above x.own.layout.end rs all.1 slot r is in
      omega (arith, above, all.0.above, all.0.ends)

  all_apart : (low : ℕ) (rs : List Record) → AreOpened low rs → (i j : ℕ) (r s : Record) → i ≢ j
      → slice_get rs i ≡ Some r → slice_get rs j ≡ Some s → AreApart r s
  unfolding AreOpened
  all_apart low [] all i j r s ne at_i at_j = absurd (cc)
  all_apart low (x ∷ rs) all zero zero r s ne at_i at_j = absurd (ne refl)
  all_apart low (x ∷ rs) all zero (suc j) r s ne at_i at_j = λ a low_r high_r low_s high_s.
      let same : x ≡ r = cc in
      let above = lies_above x.own.layout.end rs all.1 j s at_j in
      omega (arith, above, ap (λ (y : Record). y.own.layout.end) same, high_r, low_s)
  all_apart low (x ∷ rs) all (suc i) zero r s ne at_i at_j = λ a low_r high_r low_s high_s.
      let same : x ≡ s = cc in
      let above = lies_above x.own.layout.end rs all.1 i r at_i in
      omega (arith, above, ap (λ (y : Record). y.own.layout.end) same, high_s, low_r)
  all_apart low (x ∷ rs) all (suc i) (suc j) r s ne at_i at_j =
      all_apart x.own.layout.end rs all.1 i j r s (λ e. ne (ap suc e)) at_i at_j

  -- all counts are 0 at first
  no_turns : (low : ℕ) (rs : List Record) → AreOpened low rs → turns_of_all rs ≡ 0
  unfolding AreOpened opening_record
  no_turns low [] all = refl
  no_turns low (r ∷ rs) all =
      let here = ap (λ (x : Record). x.process.turns) all.0.is in
      omega (arith, here, no_turns r.own.layout.end rs all.1)

-- no upcall of it was dropped at first
abbrev DroppedNone : Record → Type 0
DroppedNone r = r.own.inbox.dropped ≡ 0

-- no process has a request at first
abbrev AsksNothing : Record → Type 0
AsksNothing r = (queue : QueueName) → has_waiting queue r.own ≡ false

-- what is so of each process at first
module _ (script : Script) (flash : List ℕ) where
  opening_opened : AreOpened script.storage flash RAM_START (opening script flash).records
  unfolding opening
  opening_opened =
      all_opened script.storage flash (is_partitioned script) script.ram (applications flash)
      (record { last_end = RAM_START; count = 0 }) (first_room (is_partitioned script) script.ram)
      (asked_from flash OBJECT_LIMIT 0)

  abbrev pub Opens : (Record → Type 0) → Type 0
  Opens P = (slot : ℕ) → IfSome (slice_get (opening script flash).records slot) P

  pub opens : (P : Record → Type 0) → ((low : ℕ) (r : Record) → IsOpened script.storage flash low r → P r) → Opens P
  opens P each = of_each script.storage flash P each RAM_START (opening script flash).records opening_opened

  -- its block is zero, and it has handed nothing
  pub opens_whole : OnlyHandingChangesPairs → Opens HasWholeOwn
  unfolding opening_record
  opens_whole law = opens HasWholeOwn
      (λ low r o. let order = order_first script.storage flash low r o in (order, settled low r o order.places))
    where
      settled : (low : ℕ) (r : Record) → IsOpened script.storage flash low r → IsInOrder r.own → IsSettled r.own
      settled low r o = rw o.is (λ places.
          let e = extents (application o.offset o.header o.main) o.start in
          record {
            order = places;
            bytes = omega (arith, length-replicate {A = ℕ} (e.end - e.start) 0);
            buffers = record { each = λ kind driver number. keeps_none kind _ };
            shape = (law.none _ refl).shape;
          })

  pub opens_living : Opens LivesAsItRuns
  unfolding opening_record
  opens_living = opens LivesAsItRuns (λ low r o. rw o.is (record {
    lives = refl;
    life = refl;
    application = starts_again script.storage flash o;
  }))

  pub opens_free : Opens IsFreeOnceEnded
  unfolding opening_record
  opens_free = opens IsFreeOnceEnded (λ low r o. rw o.is (λ over. refl))

  pub opens_erased : Opens (λ r. r.storage ≡ replicate script.storage 0xFF)
  unfolding opening_record
  opens_erased =
      opens (λ r. r.storage ≡ replicate script.storage 0xFF) (λ low r o. ap (λ (x : Record). x.storage) o.is)

  pub opens_asking : Opens (AsksWithin script.storage)
  unfolding opening_record
  opens_asking =
      opens (AsksWithin script.storage) (λ low r o. rw o.is (tt, length-replicate script.storage 0xFF))

  pub opens_in_order : Opens HasOrder
  opens_in_order = opens HasOrder (order_first script.storage flash)

  pub opens_with_pending : Opens HasPendingWithinLimit
  unfolding opening_record
  opens_with_pending = opens HasPendingWithinLimit (λ low r o. rw o.is (omega arith))

  pub opens_with_registers : Opens HasRegisters
  unfolding opening_record
  opens_with_registers = opens HasRegisters (λ low r o.
      let e = extents (application o.offset o.header o.main) o.start in
      rw o.is (start_many (FLASH_START + o.offset) o.header o.main e.start (e.end - e.start) e.brk))

  pub opens_at_first : Opens IsAtFirst
  unfolding opening_record restart
  opens_at_first = opens IsAtFirst (λ low r o. rw o.is
      (let s = opening_record script.storage flash o.offset (extents (application o.offset o.header o.main) o.start)
      o.header o.main in
      subst (IsAsAtFirst s) (sym (ap (restarted_by s) o.read ∙ ap (restarted_main s o.header) o.has)) refl))

  pub opens_with_nothing_handed : Opens HandedNothing
  unfolding opening_record
  opens_with_nothing_handed = opens HandedNothing (λ low r o. rw o.is
      (record { grants = refl; pending = refl; application = starts_again script.storage flash o }))

  opens_with_none_dropped : Opens DroppedNone
  unfolding opening_record
  opens_with_none_dropped = opens DroppedNone (λ low r o. rw o.is refl)

  opens_asking_nothing : Opens AsksNothing
  unfolding opening_record
  opens_asking_nothing = opens AsksNothing (λ low r o. rw o.is (λ queue. refl))

  pub opens_apart : BlocksAreApart (opening script flash)
  opens_apart = all_apart script.storage flash RAM_START (opening script flash).records opening_opened

-- nobody waits there
none_wait : (queue : QueueName) → slots_in queue (record { writes = []; reads = []; randoms = []; stores = [] }) ≡ []
none_wait Writes = refl
none_wait queue = refl

pub opens_with_none_waiting : (script : Script) (flash : List ℕ) → WaitingAreThere (opening script flash)
unfolding opening
opens_with_none_waiting script flash = λ queue. rw (none_wait queue) (All-nil _)

pub counts_from_boot : CountsAddUp → CountsFromBootAddUp
unfolding opening
counts_from_boot law script flash choices ready =
    let sum = law (opening script flash) choices (opens_with_none_waiting script flash) ready in
    let none = no_turns script.storage flash RAM_START (opening script flash).records (opening_opened script flash) in
    record { time = omega (arith, sum.time); steps = omega (arith, sum.steps); turns = omega (arith, sum.turns, none) }

pub drops_from_boot : DropsAddUp → DropsFromBootAddUp
drops_from_boot law script flash choices slot =
    let w = opening script flash in
    from_none (drops_of slot w choices) (slice_get w.records slot) (slice_get (after_all w choices).records slot)
    (opens_with_none_dropped script flash slot) (law w choices slot)
  where
    from_none : (n : ℕ) (before now : Option Record) → IfSome before DroppedNone
        → option_map (λ (r : Record). r.own.inbox.dropped) now
        ≡ option_map (λ (dropped : ℕ). dropped + n) (option_map (λ (r : Record). r.own.inbox.dropped) before)
        → IfSome now (λ r. r.own.inbox.dropped ≡ n)
    from_none n before None none sum = tt
    from_none n None (Some s) none sum = absurd (cc)
    from_none n (Some r) (Some s) none sum =
        let same : s.own.inbox.dropped ≡ r.own.inbox.dropped + n = cc in
        omega (arith, same, none)

asks_none : (queue : QueueName) (o : Option Record) → IfSome o AsksNothing → 0 ≡ once_if (asks_at queue o)
asks_none queue None nothing = refl
asks_none queue (Some r) nothing = ap once_if (sym (nothing queue))

pub opens_with_lists : (script : Script) (flash : List ℕ) → ListsAreOfRequests (opening script flash)
unfolding opening
opens_with_lists script flash = record {
  each = λ queue slot. ap (times_in slot) (none_wait queue)
      ∙ asks_none queue _ (opens_asking_nothing script flash slot);
  lives = opens_living script flash;
}
