-- After any choices each process has followed its own events.
use Rattle.std.proofs.Common.{◌≡◌, ℕ, List, slice_get, Option, Some, IfSome, sym, ap, subst, ◌∙◌}
use Rattle.std.specs.Option.{option_map}
use Rattle.tk_base.specs.declared.process.Choice.{Choice}
use Rattle.kernel_model.specs.Record.{Record}
use Rattle.kernel_model.specs.Replay.{RecordIsReplay, RoundFollowsChoices, SameHistorySameRecord, after_all, history}
use Rattle.kernel_model.specs.Replay.{replay}
use Rattle.kernel_model.specs.World.{World}
use Rattle.kernel_histories.specs.Edges.{EachEdgeComesOnce}
use Rattle.kernel_partitions.specs.Moments.{before, timed_history}
use Rattle.kernel_partitions.specs.Partitions.{ASlotSeesItselfAlone, SameRecordAtEachTime}
use Rattle.board_opening.specs.Alone.{IsFirstAlone, IsReplayed, first_alone}
use Rattle.board_core.specs.Following.{ProcessesFollowTheirOwnEvents}

-- what is known of each process wherever choices lead, by the laws of replays, of edges and of time partitions
pub follow_events : RecordIsReplay → SameHistorySameRecord → RoundFollowsChoices → EachEdgeComesOnce
    → ASlotSeesItselfAlone → SameRecordAtEachTime → ProcessesFollowTheirOwnEvents
follow_events replays alike rounds edges alone_told alone_recorded old new choices world =
    record {
      records = replayed;
      edges = λ slot. edges old slot choices;
      same = λ other others slot place settings first histories.
          alike other old others choices place slot settings first histories ∙ sym (there slot);
      alone = λ opens slot r is.
          let first : Some r ≡ first_alone old.settings.storage r.object r.process.object.address r.own.layout.start =
          subst (λ (o : Option Record). IfSome o (IsFirstAlone old.settings.storage)) is (opens slot) in
          replayed slot ∙ ap (option_map (replay old.settings (history slot old choices))) (is ∙ first);
      partitioned = λ windows n is slot other alike m time reached later.
          ap (λ (ds : List Choice). before time (timed_history slot old ds)) is
          ∙ alone_told slot old other windows alike n m time reached later;
      record_is = λ windows n is slot other alike m time first later.
          ap (λ (w : World). slice_get w.records slot) (world ∙ ap (after_all old) is ∙ sym (rounds n old))
          ∙ alone_recorded slot old other windows alike n m time first later;
    }
  where
    there : (slot : ℕ) → slice_get new.records slot ≡ slice_get (after_all old choices).records slot
    there slot = ap (λ (w : World). slice_get w.records slot) world

    replayed : IsReplayed old new choices
    replayed slot = there slot ∙ replays old choices slot
