-- What a turn that shows a denial leaves: no alarm of its process, which leaves all queues. By what a turn may come to
-- (`of_each_end`), of which a denial alone shows one: an application that starts again has no grants.
use Rattle.std.proofs.Common.{◌≡◌, ℕ, true, cond, is_some, None, refl}
use Rattle.tbf_headers.specs.Meaning.{header_reading, main_by}
use Rattle.process_model.specs.Own.{Own}
use Rattle.driver_model.specs.Alarm.{alarm_in}
use Rattle.driver_model.specs.Commands.{leaving_all}
use Rattle.kernel_model.specs.Record.{Record, with_effect}
use Rattle.kernel_model.specs.declared.settings.Settings.{Settings}
use Rattle.kernel_model.specs.Parts.{with_process}
use Rattle.kernel_model.specs.Turn.{Turned, turn_counted, turned}
use Rattle.kernel_model.proofs.Restarts.{restarts}
use Rattle.kernel_model.proofs.Turning.{of_denial, of_each_end}
use Rattle.process_record.specs.Parts.{after_fault}

-- a process has no alarm armed, or lives no more
abbrev pub HasNoneArmed : Own → Type 0
HasNoneArmed own = cond own.lives (alarm_in own) None ≡ None

-- what a turn that shows a denial leaves
abbrev pub LeavesNothing : Turned → Type 0
LeavesNothing t = is_some t.told.denial ≡ true → HasNoneArmed t.after.own × (t.acts ≡ leaving_all)

-- the turn of an application that can start again
pub denied_none : (settings : Settings) (time : ℕ) (r : Record) → is_some (main_by (header_reading r.object)) ≡ true
    → LeavesNothing (turned settings time r)
denied_none settings time r can = of_each_end settings time r LeavesNothing (record {
  nothing = λ none denied. absurd (cc);
  went = λ t is denied. absurd (cc);
  faults = λ t denial is runs denied.
      let s = with_effect (turn_counted r) t in
      let again = restarts (λ s. HasNoneArmed s.own) (with_process s (after_fault s.process denial)) can in
      (of_denial (λ s. HasNoneArmed s.own) settings s denial refl (again (λ h m. refl)), refl);
  makes = λ t form is calls runs some denied. absurd (cc);
  delivers = λ next is yielded denied. absurd (cc);
})
