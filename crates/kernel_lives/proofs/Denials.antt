-- A denial that a turn tells stands in its process's record after the step, whatever the fault policy decides.
use Rattle.std.proofs.Common.{◌≡◌, inl, inr, ℕ, Option, Some, refl, sym, subst}
use Rattle.std.specs.Prelude.{All, IsSomeAnd}
use Rattle.tk_base.specs.declared.access.Denial.{Denial}
use Rattle.tk_base.specs.declared.process.Choice.{Choice}
use Rattle.process_record.specs.Parts.{after_fault}
use Rattle.kernel_model.specs.Record.{Record, with_effect}
use Rattle.kernel_model.specs.declared.settings.Settings.{Settings}
use Rattle.kernel_model.specs.Turn.{faulted, turn_counted, turned}
use Rattle.kernel_model.specs.Parts.{with_process}
use Rattle.kernel_model.specs.World.{World, after, labels}
use Rattle.kernel_model.specs.Accounts.{IsRecordedIn, RecordsDenial}
use Rattle.kernel_model.proofs.Labels.{of_labels}
use Rattle.kernel_model.proofs.Places.{set_own}
use Rattle.kernel_model.proofs.Restarts.{restart_by}
use Rattle.kernel_model.proofs.Turning.{of_denial, of_each_end}

-- a fault records its denial, and the process has ended, or starts again
of_fault : (settings : Settings) (r : Record) (denial d : Denial) → Some denial ≡ Some d
    → RecordsDenial d (faulted settings r denial).after
of_fault settings r denial d is =
    of_denial (RecordsDenial d) settings r denial (record { last = is; state = inl refl })
    (restart_by (RecordsDenial d) (with_process r (after_fault r.process denial))
    (record { last = is; state = inl refl }) (λ h m read main. record { last = is; state = inr refl }))

-- nothing else that a turn comes to tells of one
turn_records : (settings : Settings) (time : ℕ) (r : Record) (d : Denial)
    → let t = turned settings time r in t.told.denial ≡ Some d → RecordsDenial d t.after
turn_records settings time r d =
    of_each_end settings time r (λ t. t.told.denial ≡ Some d → RecordsDenial d t.after) (record {
      nothing = λ none is. absurd (cc);
      went = λ t same is. absurd (cc);
      faults = λ t denial same runs is. of_fault settings (with_effect (turn_counted r) t) denial d is;
      makes = λ t form same calls runs made is. absurd (cc);
      delivers = λ next some yielded is. absurd (cc);
    })

-- so it is with the labels of a step
pub denials_are_recorded : (w : World) (choice : Choice) → All (IsRecordedIn (after w choice)) (labels w choice)
denials_are_recorded w =
    of_labels (λ s. IsRecordedIn s.after) w
    (λ slot r is may d denied.
    let t = turned w.settings w.clock.time r in
    subst (λ (o : Option Record). IsSomeAnd o (RecordsDenial d)) (sym (set_own w.records slot t.after r is))
    (turn_records w.settings w.clock.time r d denied))
    (λ deed slot r a is told no_turn d denied. absurd (cc))
