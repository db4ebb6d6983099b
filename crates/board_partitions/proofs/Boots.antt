-- The opening worlds of two flash images with the same object in the same place of a slot are alike in that slot.
use Rattle.std.proofs.Common.{◌≡◌, ◌≤◌, ℕ, List, slice_get, Option, Some, IfSome, refl, sym, ap, subst, ◌∙◌}
use Rattle.script_text.specs.Settings.{ScriptSettings as Script}
use Rattle.app_placement.specs.Placement.{share_start}
use Rattle.kernel_model.specs.Record.{Record}
use Rattle.kernel_partitions.specs.Alike.{AreAlikeIn, IsPartitioned}
use Rattle.kernel_model.specs.World.{World}
use Rattle.kernel_model.specs.Run.{round}
use Rattle.kernel_model.specs.Replay.{chosen}
use Rattle.kernel_partitions.specs.Moments.{before, timed_history}
use Rattle.kernel_partitions.specs.Partitions.{ASlotSeesItselfAlone, ReachesFirst, SameRecordAtEachTime, time_after}
use Rattle.board_opening.specs.Alone.{IsFirstAlone, OpeningsAreAlone, first_alone}
use Rattle.board_opening.specs.Opening.{opening}
use Rattle.board_partitions.specs.Boot.{BlocksStartWithTheirShares, DividesTime, OpenSameObject, RunsArePartitioned}
use Rattle.board_partitions.specs.Boot.{SameObjectSameRecord, SameObjectSameTimes, SharesObject}
use Rattle.board_partitions.specs.Scripts.{ScriptsWithPartitionsHaveNoActs}

opens_partitioned : (script : Script) (flash : List ℕ) → DividesTime script → IsPartitioned (opening script flash)
unfolding opening
opens_partitioned script flash divides = record { windows = divides.windows; no_acts = divides.no_acts }

opens_alike : (script : Script) (flash image : List ℕ) (slot : ℕ)
    → slice_get (opening script flash).records slot ≡ slice_get (opening script image).records slot
    → AreAlikeIn slot (opening script flash) (opening script image)
unfolding opening
opens_alike script flash image slot records = record {
  window = refl;
  settings = refl;
  time = refl;
  record_is = records;
  lanes = record {
    arrivals = refl;
    faults = refl;
    line = refl;
    words = refl;
    served = refl;
    waits = λ queue. refl;
  };
}

storage_opened : (script : Script) (flash : List ℕ) → (opening script flash).settings.storage ≡ script.storage
unfolding opening
storage_opened script flash = refl

-- the first record, by the script, the slot, the object and where it stands
first_is : OpeningsAreAlone → BlocksStartWithTheirShares → (script : Script) (flash : List ℕ) (slot : ℕ) (r : Record)
    → 1 ≤ script.partition → slice_get (opening script flash).records slot ≡ Some r
    → Some r ≡ first_alone script.storage r.object r.process.object.address (share_start script.ram slot)
first_is alone starts script flash slot r some first =
    let opens : IsFirstAlone (opening script flash).settings.storage r =
    subst (λ (o : Option Record). IfSome o (IsFirstAlone (opening script flash).settings.storage)) first
    (alone script flash slot) in
    let start : r.own.layout.start ≡ share_start script.ram slot =
    subst (λ (o : Option Record). IfSome o (λ r. r.own.layout.start ≡ share_start script.ram slot)) first
    (starts script flash slot some) in
    opens
    ∙ ap (λ (storage : ℕ). first_alone storage r.object r.process.object.address r.own.layout.start)
    (storage_opened script flash)
    ∙ ap (first_alone script.storage r.object r.process.object.address) start

same_first : OpeningsAreAlone → BlocksStartWithTheirShares → (script : Script) (flash image : List ℕ) (slot : ℕ)
    → OpenSameObject script flash image slot
    → slice_get (opening script flash).records slot ≡ slice_get (opening script image).records slot
same_first alone starts script flash image slot both =
    let some = both.divides.windows in
    let r = both.one in
    let s = both.other in
    let start = share_start script.ram slot in
    both.one_is ∙ first_is alone starts script flash slot r some both.one_is
    ∙ ap (λ (object : List ℕ). first_alone script.storage object r.process.object.address start) both.same.object
    ∙ ap (λ (address : ℕ). first_alone script.storage s.object address start) both.same.address
    ∙ sym (first_is alone starts script image slot s some both.other_is) ∙ sym both.other_is

pub same_object_same_times : OpeningsAreAlone → BlocksStartWithTheirShares → ASlotSeesItselfAlone → SameObjectSameTimes
same_object_same_times alone starts law script flash image slot both n m time first second =
    law slot (opening script flash) (opening script image) (opens_partitioned script flash both.divides)
    (opens_alike script flash image slot (same_first alone starts script flash image slot both)) n m time first second

pub same_object_same_record : OpeningsAreAlone → BlocksStartWithTheirShares → SameRecordAtEachTime
    → SameObjectSameRecord
same_object_same_record alone starts law script flash image slot both n m time here there =
    law slot (opening script flash) (opening script image) (opens_partitioned script flash both.divides)
    (opens_alike script flash image slot (same_first alone starts script flash image slot both)) n m time here there

-- the two images of a world whose object another image opens too
two_images : ScriptsWithPartitionsHaveNoActs → (w : World) (script : Script) (image : List ℕ) (slot : ℕ)
    → (shares : SharesObject w script image slot) → OpenSameObject script shares.flash image slot
two_images law w script image slot shares = record {
  divides = record { windows = shares.windows; no_acts = law shares.text script shares.is_read shares.windows };
  one = shares.one;
  one_is = subst (λ (v : World). slice_get v.records slot ≡ Some shares.one) shares.opens shares.one_is;
  other = shares.other;
  other_is = shares.other_is;
  same = record { object = shares.object; address = shares.address };
}

pub runs_are_partitioned : ScriptsWithPartitionsHaveNoActs → SameObjectSameTimes → SameObjectSameRecord
    → RunsArePartitioned
runs_are_partitioned acts times records w n = record {
  told = λ script image slot shares m time.
      let there = opening script image in
      subst (λ (v : World). time ≤ time_after n v → time ≤ time_after m there
      → before time (timed_history slot v (chosen n v)) ≡ before time (timed_history slot there (chosen m there)))
      (sym shares.opens) (times script shares.flash image slot (two_images acts w script image slot shares) n m time);
  record_is = λ script image slot shares m time.
      let there = opening script image in
      subst (λ (v : World). ReachesFirst time n v → ReachesFirst time m there
      → slice_get (round n v).world.records slot ≡ slice_get (round m there).world.records slot)
      (sym shares.opens) (records script shares.flash image slot (two_images acts w script image slot shares) n m time);
}
