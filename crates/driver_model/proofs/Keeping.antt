-- What is asked for stays where no driver acts.
use Rattle.std.proofs.Common.{◌≡◌, refl, ap, ◌∙◌}
use Rattle.process_model.specs.Own.{Own}
use Rattle.process_model.specs.Handed.{own_entering, handing}
use Rattle.driver_model.specs.Commands.{QueueName}
use Rattle.driver_model.specs.Lines.{AsksTheSame, OnlyDriversMoveLines}
use Rattle.driver_model.proofs.Waits.{each_waits}
use Rattle.std.proofs.Common.{is_some}
use Rattle.driver_model.proofs.Asked.{asked, asked_handed, asked_still}

asks_the_same : (own o : Own) → o.lives ≡ own.lives
    → ((queue : QueueName) → asked queue o.grants ≡ asked queue own.grants) → AsksTheSame own o
asks_the_same own o lives same = record {
  requests = same;
  waiting = each_waits (λ queue waits. waits) own o lives (λ queue ended. refl) (λ queue. ap is_some (same queue));
}

pub only_drivers_move_lines : OnlyDriversMoveLines
only_drivers_move_lines = record {
  handing = λ kind driver number pair own.
      asks_the_same own (handing kind driver number pair own) refl
      (λ queue. asked_handed queue kind driver number pair (own_entering driver own).grants
      ∙ asked_still queue driver own.grants);
  entering = λ driver own.
      asks_the_same own (own_entering driver own) refl (λ queue. asked_still queue driver own.grants);
  restarted = λ brk own queue. refl;
  ended = λ own queue. refl;
}
