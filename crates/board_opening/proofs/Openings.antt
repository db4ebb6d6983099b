-- How many processes an opening world has, and its slices and windows.
use Rattle.std.proofs.Common.{◌≡◌, ◌≤◌, ◌<◌, ℕ, ◌+◌, nat_le, Bool, true, false, cond, length, arith, List}
use Rattle.std.proofs.Common.{[], ◌∷◌, Option, None, Some, Result, Ok, Err, refl}
use Rattle.std.specs.List.{cons_option, filter_map}
use Rattle.tk_base.specs.declared.limits.TheConstants.{SLOT_COUNT}
use Rattle.tk_base.specs.declared.process.PlaceFault.{PlaceFault}
use Rattle.std.proofs.lemmas.Bool.Decides.{nat_tests}
use Rattle.tk_base.specs.declared.access.TheConstants.{RAM_START}
use Rattle.tk_base.specs.declared.process.PlaceFault.TheVariants.{NoSlot}
use Rattle.script_text.specs.Settings.{ScriptSettings as Script}
use Rattle.app_placement.specs.Applications.{applications}
use Rattle.app_placement.specs.Placement.{filled_after, place_of, places_from}
use Rattle.app_placement.specs.Parts.{Place}
use Rattle.app_placement.specs.declared.application.Application.{Application}
use Rattle.app_placement.specs.declared.placed.Filled.{Filled}
use Rattle.kernel_model.specs.Record.{Record}
use Rattle.board_opening.specs.Settings.{is_partitioned}
use Rattle.board_opening.specs.Opening.{opening, record_placed}
use Rattle.board_opening.specs.Parts.{record_with_place}

-- of the applications that are left no more get a place than there are slots left
module _ (partition : Bool) (storage ram : ℕ) (flash : List ℕ) where
  one_more : (o : Option Record) (records : List Record) → length (cons_option o records) ≤ length records + 1
  one_more None records = omega arith
  one_more (Some r) records = omega arith

  slot_left : (filled : Filled) (app : Application) (place : Place) → place_of partition ram filled app ≡ Ok place
      → filled.count < SLOT_COUNT
  unfolding place_of
  slot_left filled app place is = by_count (nat_le SLOT_COUNT filled.count) _ refl is
    where
      by_count : (b : Bool) (rest : Result Place PlaceFault) → nat_le SLOT_COUNT filled.count ≡ b
          → cond b (Err NoSlot) rest ≡ Ok place → filled.count < SLOT_COUNT
      by_count true rest e f = absurd (cc)
      by_count false rest e f = grind (arith, nat_tests)

  few_placed : (apps : List Application) (filled : Filled) → filled.count ≤ SLOT_COUNT
      → length (filter_map (record_placed storage flash) (places_from partition ram filled
      apps)) + filled.count ≤ SLOT_COUNT
  unfolding places_from
  few_placed [] filled few = omega (arith, few)
  few_placed (app ∷ apps) filled few = by_place (place_of partition ram filled app) refl (few_placed apps)
    where
      by_place : (place : Result Place PlaceFault) → place_of partition ram filled app ≡ place
          → ((filled : Filled) → filled.count ≤ SLOT_COUNT
          → length (filter_map (record_placed storage flash) (places_from partition ram filled apps)) + filled.count
          ≤ SLOT_COUNT)
          → length (cons_option (record_with_place storage flash app.offset place)
          (filter_map (record_placed storage flash) (places_from partition ram (filled_after filled place) apps)))
          + filled.count ≤ SLOT_COUNT
      by_place (Err fault) is later = later filled few
      by_place (Ok place) is later =
          let left = slot_left filled app place is in
          let rest = later (filled_after filled (Ok place)) (omega (arith, left)) in
          let more = one_more (record_with_place storage flash app.offset (Ok place))
          (filter_map (record_placed storage flash) (places_from partition ram (filled_after filled (Ok place))
          apps)) in
          omega (arith, rest, more)

pub opens_no_more_than_slots : (script : Script) (flash : List ℕ) → length (opening script flash).records ≤ SLOT_COUNT
unfolding opening
opens_no_more_than_slots script flash =
    let few = few_placed (is_partitioned script) script.storage script.ram flash (applications flash)
    (record { last_end = RAM_START; count = 0 }) (omega arith) in
    omega (arith, few)

pub opens_with_slice : (script : Script) (flash : List ℕ) → 1 ≤ script.slice → 1 ≤ (opening script flash).pace.slice
unfolding opening
opens_with_slice script flash one = one

pub opens_without_windows : (script : Script) (flash : List ℕ) → script.partition ≡ 0
    → (opening script flash).pace.window ≡ 0
unfolding opening
opens_without_windows script flash none = none
