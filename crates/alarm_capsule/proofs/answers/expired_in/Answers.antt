use Rattle.std.proofs.Common.{ap, sym, ◌∙◌}
use Rattle.std.specs.Prelude.{is_some}
use Rattle.alarm_capsule.proofs.Living.{due_of_it, due_there, lives_in, none_due, present}
use Rattle.alarm_capsule.proofs.answers.expired_in.Goals as goal

pub returns-in_err-id-clause-is : goal.returns-in_err-id-clause-is
returns-in_err-id-clause-is c =
    ap is_some c.from_residual.ensures ∙ none_due c.args.now c.args.slot _ (sym c.id.ensures ∙ c.in_err-id.was)

pub expired_alarm-requires : goal.expired_alarm-requires
expired_alarm-requires c = present c.args.slot c.args.home.now c.in_ok-id.id (sym c.id.ensures ∙ c.in_ok-id.was)

pub returns-in-Some-clause-is : goal.returns-in-Some-clause-is
returns-in-Some-clause-is c =
    due_of_it c.args.now c.args.slot c.args.home.now c.in_ok-id.id _ (sym c.id.ensures ∙ c.in_ok-id.was)
    (sym c.in-Some.is ∙ c.expired_alarm.ensures)

pub returns-in-Some-clause-due : goal.returns-in-Some-clause-due
returns-in-Some-clause-due c =
    let here = sym c.id.ensures ∙ c.in_ok-id.was in
    let is = sym c.in-Some.is ∙ c.expired_alarm.ensures in record {
      is_slot = (lives_in c.args.slot c.args.slot c.args.home.now.owns c.in_ok-id.id here).is_slot;
      there = present c.args.slot c.args.home.now c.in_ok-id.id here;
      alarm = due_there c.args.now c.args.slot c.args.home.now c.in_ok-id.id _ here is;
    }

pub returns-in-None-clause-is : goal.returns-in-None-clause-is
returns-in-None-clause-is c =
    due_of_it c.args.now c.args.slot c.args.home.now c.in_ok-id.id _ (sym c.id.ensures ∙ c.in_ok-id.was)
    (sym c.in-None.is ∙ c.expired_alarm.ensures)
