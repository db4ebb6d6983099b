-- That no process is held which has ended: an operator holds only one that lives, and each end lets it go.
use Rattle.std.proofs.Common.{refl, sym, ◌∙◌}
use Rattle.tk_base.specs.declared.process.Verb.{Verb}
use Rattle.tk_base.specs.declared.process.Verb.TheVariants as verbs
use Rattle.process_record.specs.Parts.{after_fault}
use Rattle.process_record.specs.Process.{is_alive}
use Rattle.driver_model.specs.Keeping.{DriversKeep}
use Rattle.driver_model.specs.Laws.{StaysInPlace}
use Rattle.kernel_model.specs.Record.{Record}
use Rattle.kernel_model.specs.Calls.{restart}
use Rattle.kernel_model.specs.Lives.{HoldsThroughout}
use Rattle.kernel_model.specs.Parts.{with_process}
use Rattle.kernel_model.specs.Turn.{operated}
use Rattle.kernel_lives.proofs.Changes.{IsKept, after_answer, after_turn, over_choices}
use Rattle.kernel_model.proofs.Restarts.{restart_by}
use Rattle.kernel_lives.specs.Ended.{IsFreeOnceEnded}
use Rattle.std.proofs.Common.{inl, inr}
use Rattle.std.proofs.lemmas.Bool.{cases_Bool}

-- a start leaves it running
started_free : (r : Record) → IsFreeOnceEnded r → IsFreeOnceEnded (restart r)
started_free r h = restart_by IsFreeOnceEnded r h (λ header m read main e. absurd (cc))

free_kept : IsKept StaysInPlace IsFreeOnceEnded IsFreeOnceEnded
free_kept = record {
  done = λ r h. h;
  goes = λ r regs state refusal same h e. h (sym same ∙ e);
  serves = λ r o storage pressed s h. h;
  hands = λ r swap may h. h;
  moves = λ r new may h. h;
  bytes = λ r ram inbox as_many takes h. h;
  ends = λ r state denial over h e. refl;
  again = started_free;
  faults_again = λ r denial h. started_free (with_process r (after_fault r.process denial)) (λ e. refl);
}

acted_free : (verb : Verb) (r : Record) → IsFreeOnceEnded r → IsFreeOnceEnded (operated verb r)
acted_free verbs.List r h = h
acted_free verbs.Restart r h = started_free r h
acted_free verbs.Start r h = elim (cases_Bool r.process.held) [
  | inl e ↦ rw e (λ over. refl)
  | inr e ↦ rw e
      (λ over. refl)
]
acted_free verb r h =
    elim (cases_Bool (is_alive r.process.state)) [
      | inl e ↦ rw e (λ over. cc)
      | inr e ↦ rw e (λ over. h e)
    ]

pub free_stays : DriversKeep → HoldsThroughout IsFreeOnceEnded
free_stays law =
    over_choices IsFreeOnceEnded
    (λ settings time r h.
    after_turn StaysInPlace law.places IsFreeOnceEnded IsFreeOnceEnded free_kept settings time r (λ none. h) h h)
    (λ settings event r is h.
    after_answer StaysInPlace law.places IsFreeOnceEnded IsFreeOnceEnded free_kept settings event r is h) acted_free
