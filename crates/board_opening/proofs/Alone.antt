-- The first record of each process in an opening world is a function of its own object and place: it is an opening
-- record (`IsOpened`), in which nothing else occurs. With the law of replays it is the law over two boards.
use Rattle.std.proofs.Common.{◌≡◌, ℕ, ◌+◌, List, [], ◌∷◌, slice_get}
use Rattle.std.proofs.Common.{Option, Some, IfSome, Result, Ok, Err, OnOk, sym, ap, subst, ◌∙◌}
use Rattle.std.specs.Option.{option_map}
use Rattle.tk_base.specs.declared.access.TheConstants.{FLASH_START}
use Rattle.tk_base.specs.declared.process.Choice.{Choice}
use Rattle.tbf_headers.specs.declared.program.Main.{Main}
use Rattle.flash_walk.specs.Image.{object_bytes}
use Rattle.kernel_model.specs.Record.{Record}
use Rattle.kernel_model.specs.Replay.{RecordIsReplay, RoundFollowsChoices, SameHistorySameRecord, chosen, history}
use Rattle.kernel_model.specs.Replay.{replay}
use Rattle.kernel_model.specs.World.{World, after}
use Rattle.board_opening.specs.Alone.{IsFirstAlone, IsReplayed, OpeningsAreAlone, RunsAreAlone, SameViewSameRecord}
use Rattle.board_opening.specs.Alone.{extents_of, first_alone}
use Rattle.board_opening.specs.Parts.{first_by}
use Rattle.board_opening.specs.Opening.{first_record, opening_record, opening}
use Rattle.board_opening.proofs.Boots.{opens}

-- the first record of each is a function of its own object and place, whatever lies beside it
pub openings_are_alone : OpeningsAreAlone
unfolding opening opening_record
openings_are_alone script flash = opens script flash (IsFirstAlone script.storage) (λ low r o. rw o.is
    (let object = object_bytes flash o.offset in
    let address = FLASH_START + o.offset in
    sym (ap (first_by script.storage object address o.start) o.read
    ∙ ap (option_map (λ (m : Main). first_record script.storage object address
    (extents_of address o.start o.header m) o.header m)) o.has)))

pub same_view_same_record : SameHistorySameRecord → SameViewSameRecord
same_view_same_record law script other flash image choices others slot place r s settings first second alike histories =
    let v = opening script flash in
    let w = opening other image in
    let opens : Some r ≡ first_alone v.settings.storage r.object r.process.object.address r.own.layout.start =
    subst (λ (o : Option Record). IfSome o (IsFirstAlone v.settings.storage)) first
    (openings_are_alone script flash slot) in
    let other_opens : Some s ≡ first_alone w.settings.storage s.object s.process.object.address s.own.layout.start =
    subst (λ (o : Option Record). IfSome o (IsFirstAlone w.settings.storage)) second
    (openings_are_alone other image place) in
    let records : slice_get v.records slot ≡ slice_get w.records place =
    first ∙ opens
    ∙ ap (λ (x : _). first_alone x.storage r.object r.process.object.address r.own.layout.start) settings
    ∙ ap (λ (o : List ℕ). first_alone w.settings.storage o r.process.object.address r.own.layout.start) alike.object
    ∙ ap (λ (k : ℕ). first_alone w.settings.storage s.object k r.own.layout.start) alike.address
    ∙ ap (first_alone w.settings.storage s.object s.process.object.address) alike.start
    ∙ sym other_opens ∙ sym second in
    law v w choices others slot place settings records histories

pub runs_are_alone : RecordIsReplay → RoundFollowsChoices → RunsAreAlone
runs_are_alone law follows script flash n slot r first =
    let w = opening script flash in
    let opens : Some r ≡ first_alone w.settings.storage r.object r.process.object.address r.own.layout.start =
    subst (λ (o : Option Record). IfSome o (IsFirstAlone w.settings.storage)) first
    (openings_are_alone script flash slot) in
    ap (λ (v : World). slice_get v.records slot) (follows n w) ∙ law w (chosen n w) slot
    ∙ ap (option_map (replay w.settings (history slot w (chosen n w)))) (first ∙ opens)

-- a step that was made is the replay of it
pub step_replayed : {E : Type 0} (old new : World) (choice known : Choice) (result : Result Unit E) → RecordIsReplay
    → choice ≡ known → OnOk result (new ≡ after old known) → OnOk result (IsReplayed old new (choice ∷ []))
step_replayed old new choice known (Err e) law same is = tt
step_replayed old new choice known (Ok made) law same is =
    λ slot. ap (λ (w : World). slice_get w.records slot) (is ∙ ap (after old) (sym same)) ∙ law old (choice ∷ []) slot
