-- With time partitions each block starts where its slot's share of RAM does.
use Rattle.std.proofs.Common.{◌≡◌, ◌≤◌, ℕ, zero, suc, ◌+◌, ◌==◌, ◌∷◌, nat_le, nat_lt, not, Bool, true, false, cond}
use Rattle.std.proofs.Common.{List, [], slice_get, Option, None, Some, IfSome, Result, Ok, Err, refl, sym, ap, subst}
use Rattle.std.proofs.Common.{◌∙◌, arith, eqb-true}
use Rattle.std.specs.List.{AllByRecursion, cons_option, filter_map}
use Rattle.std.specs.Option.{option_map}
use Rattle.std.proofs.lemmas.Bool.{false≢true}
use Rattle.tk_base.specs.declared.access.TheConstants.{RAM_START}
use Rattle.tk_base.specs.declared.limits.TheConstants.{OBJECT_LIMIT, SLOT_COUNT}
use Rattle.tk_base.specs.declared.process.PlaceFault.{PlaceFault}
use Rattle.tk_base.specs.declared.process.PlaceFault.TheVariants.{FixedTaken, NoRoom, NoSlot}
use Rattle.tbf_headers.specs.declared.fault.HeaderFault.{HeaderFault}
use Rattle.tbf_headers.specs.declared.program.Main.{Main}
use Rattle.tbf_headers.specs.Meaning.{Meaning, header_reading}
use Rattle.flash_walk.specs.Image.{object_bytes}
use Rattle.app_placement.specs.Applications.{application, applications}
use Rattle.app_placement.specs.Parts.{application_in}
use Rattle.app_placement.specs.Placement.{block_length, extents, filled_after, is_start_taken}
use Rattle.app_placement.specs.Parts.{Place, block_start}
use Rattle.app_placement.specs.Placement.{place_of, places_from, share_start}
use Rattle.app_placement.specs.declared.application.Application.{Application}
use Rattle.app_placement.specs.declared.placed.Filled.{Filled}
use Rattle.script_text.specs.Settings.{ScriptSettings as Script}
use Rattle.kernel_model.specs.Record.{Record}
use Rattle.board_opening.specs.Opening.{opening, opening_record, record_placed}
use Rattle.board_opening.specs.Parts.{opened_by, record_with_place}
use Rattle.board_opening.specs.Settings.{is_partitioned}
use Rattle.board_opening.proofs.Asked.{IsAsked, asked_from}
use Rattle.board_partitions.specs.Boot.{BlocksStartWithTheirShares}

module _ (flash : List ℕ) where
  module _ (storage ram : ℕ) where
    -- one that is placed starts with the share of the next slot
    fixed_there : (from : ℕ) (fixed : Option ℕ) → is_start_taken true from fixed ≡ false → block_start from fixed ≡ from
    fixed_there from None free = refl
    fixed_there from (Some fixed) free = by_test (fixed == from) refl free
      where
        by_test : (b : Bool) → (fixed == from) ≡ b → not b ≡ false → fixed ≡ from
        by_test true is free = eqb-true fixed from is
        by_test false is free = absurd (false≢true (sym free))

    starts_there : (filled : Filled) (app : Application) (place : Place) → place_of true ram filled app ≡ Ok place
        → place.1.start ≡ share_start ram filled.count
    unfolding place_of
    starts_there filled app place is =
        let from = share_start ram filled.count in
        let start = block_start from app.fixed_start in
        by_conditions (nat_le SLOT_COUNT filled.count) (is_start_taken true from app.fixed_start) refl
        (nat_lt (share_start ram (filled.count + 1)) (start + block_length app.minimum_ram)) is
      where
        by_conditions : (b c : Bool) → is_start_taken true (share_start ram filled.count) app.fixed_start ≡ c
            → (d : Bool)
            → ◌≡◌ {A = Result Place PlaceFault} (cond b (Err NoSlot) (cond c (Err FixedTaken) (cond d (Err NoRoom)
            (Ok (filled.count, extents app (block_start (share_start ram filled.count) app.fixed_start)))))) (Ok place)
            → place.1.start ≡ share_start ram filled.count
        by_conditions true c free d e = cc
        by_conditions false true free d e = cc
        by_conditions false false free true e = cc
        by_conditions false false free false e =
            let start = block_start (share_start ram filled.count) app.fixed_start in
            let same : ◌≡◌ {A = Place} (filled.count, extents app start) place = cc in
            sym (ap (λ (q : Place). q.1.start) same) ∙ fixed_there (share_start ram filled.count) app.fixed_start free

    -- its record is there, and starts where its place does
    record Opens (place : Place) (o : Option Record) : Type 0 where
      first : Record
      is : o ≡ Some first
      start : first.own.layout.start ≡ place.1.start

    opens_there : (app : Application) (place : Place) → IsAsked flash app
        → Opens place (record_with_place storage flash app.offset (Ok place))
    unfolding opening_record
    opens_there app place asked = by_reading (header_reading (object_bytes flash app.offset)) asked
      where
        by_main : (h : Meaning) (o : Option Main) → option_map (application app.offset h) o ≡ Some app
            → Opens place (option_map (opening_record storage flash app.offset place.1 h) o)
        by_main h None e = absurd (cc)
        by_main h (Some m) e = record { first = _; is = refl; start = refl }

        by_reading : (r : Result Meaning HeaderFault) → application_in app.offset r ≡ Some app
            → Opens place (opened_by storage flash app.offset place.1 r)
        by_reading (Err fault) e = absurd (cc)
        by_reading (Ok h) e = by_main h h.main e

    all_start : (apps : List Application) (filled : Filled) → AllByRecursion (IsAsked flash) apps → (i : ℕ)
        → IfSome (slice_get (filter_map (record_placed storage flash) (places_from true ram filled apps)) i)
        (λ r. r.own.layout.start ≡ share_start ram (filled.count + i))
    unfolding places_from
    all_start [] filled asked i = tt
    all_start (app ∷ apps) filled asked i =
        by_place (place_of true ram filled app) refl
        (λ later. all_start apps later asked.1)
      where
        rest : Filled → List Record
        rest later = filter_map (record_placed storage flash) (places_from true ram later apps)

        by_index : (place : Place) → place.1.start ≡ share_start ram filled.count → (r : Record)
            → r.own.layout.start ≡ place.1.start
            → ((j : ℕ) → IfSome (slice_get (rest (filled_after filled (Ok place))) j)
            (λ r. r.own.layout.start ≡ share_start ram (filled.count + 1 + j)))
            → (i : ℕ) → IfSome (slice_get (r ∷ rest (filled_after filled (Ok place))) i)
            (λ r. r.own.layout.start ≡ share_start ram (filled.count + i))
        by_index place there r start later zero =
            let none : filled.count ≡ filled.count + 0 = omega arith in
            start ∙ there ∙ ap (share_start ram) none
        by_index place there r start later (suc j) =
            let same : filled.count + 1 + j ≡ filled.count + suc j = omega arith in
            subst (λ (slot : ℕ). IfSome (slice_get (rest (filled_after filled (Ok place))) j)
            (λ r. r.own.layout.start ≡ share_start ram slot)) same (later j)

        by_place : (place : Result Place PlaceFault) → place_of true ram filled app ≡ place
            → ((later : Filled) (j : ℕ) → IfSome (slice_get (rest later) j)
            (λ r. r.own.layout.start ≡ share_start ram (later.count + j)))
            → IfSome (slice_get (cons_option (record_with_place storage flash app.offset place)
            (rest (filled_after filled place))) i) (λ r. r.own.layout.start ≡ share_start ram (filled.count + i))
        by_place (Err fault) is later = later filled i
        by_place (Ok place) is later =
            let opens = opens_there app place asked.0 in
            subst (λ (o : Option Record). IfSome (slice_get (cons_option o (rest (filled_after filled (Ok place)))) i)
            (λ r. r.own.layout.start ≡ share_start ram (filled.count + i))) (sym opens.is)
            (by_index place (starts_there filled app place is) opens.first opens.start
            (later (filled_after filled (Ok place))) i)

-- a script with time partitions divides RAM, too
divides : (script : Script) → 1 ≤ script.partition → is_partitioned script ≡ true
divides script some = by_test (script.partition == 0) refl
  where
    by_test : (b : Bool) → (script.partition == 0) ≡ b → not b ≡ true
    by_test true is = let none = eqb-true script.partition 0 is in absurd (omega (arith, none, some))
    by_test false is = refl

pub blocks_start_with_their_shares : BlocksStartWithTheirShares
unfolding opening
blocks_start_with_their_shares script flash slot some =
    let first : 0 + slot ≡ slot = omega arith in
    subst (λ (partition : Bool). IfSome (slice_get (filter_map (record_placed script.storage flash)
    (places_from partition script.ram (record { last_end = RAM_START; count = 0 }) (applications flash))) slot)
    (λ r. r.own.layout.start ≡ share_start script.ram slot)) (sym (divides script some))
    (subst (λ (at : ℕ). IfSome (slice_get (filter_map (record_placed script.storage flash)
    (places_from true script.ram (record { last_end = RAM_START; count = 0 }) (applications flash))) slot)
    (λ r. r.own.layout.start ≡ share_start script.ram at)) first
    (all_start flash script.storage script.ram (applications flash) (record { last_end = RAM_START; count = 0 })
    (asked_from flash OBJECT_LIMIT 0) slot))
