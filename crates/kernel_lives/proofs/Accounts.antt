-- Each step is accounted for, by its laws.
use Rattle.std.proofs.Common.{List, [], ◌∷◌, refl, sym, ◌∙◌}
use Rattle.std.specs.Prelude.{All}
use Rattle.std.proofs.lemmas.Bool.{false≢true}
use Rattle.tk_base.specs.declared.process.Choice.{Choice}
use Rattle.tk_base.specs.declared.process.Choice.TheVariants.{Run}
use Rattle.kernel_model.specs.World.{World, after, labels}
use Rattle.kernel_model.specs.Shown.{IsShownIn, shown_by}
use Rattle.kernel_model.proofs.Labels.{of_labels}
use Rattle.kernel_model.specs.Accesses.{StepsAreGuarded}
use Rattle.kernel_model.specs.Accounts.{IsAccountedFor, StepsAreAccountedFor}
use Rattle.kernel_model.specs.Causes.{EachChangeHasACause, StepsHaveCauses}
use Rattle.kernel_model.specs.Choices.{Throughout}
use Rattle.kernel_model.specs.Console.{StepsOperateOne}
use Rattle.kernel_model.specs.Edges.{StepsServeEdges}
use Rattle.kernel_model.specs.Prints.{PrintsAreOfBuffers}
use Rattle.kernel_model.specs.Refused.{RefusalsChangeLittle}
use Rattle.kernel_model.specs.Replay.{chosen}
use Rattle.kernel_lives.proofs.Denials.{denials_are_recorded}

-- the turn of a step is shown
step_shown : (w : World) (choice : Choice) → All (IsShownIn (shown_by (labels w choice))) (labels w choice)
unfolding shown_by
step_shown w =
    of_labels (λ s. IsShownIn (shown_by s.labels)) w (λ slot r is may turn. (refl, refl, refl))
    (λ deed slot r a is told no_turn turn. absurd (false≢true (sym no_turn ∙ turn)))

-- what follows of each step follows of all
follows_throughout : (P Q : World → Choice → Type 0) → ((w : World) (choice : Choice) → P w choice → Q w choice)
    → (w : World) (choices : List Choice) → Throughout P w choices → Throughout Q w choices
follows_throughout P Q each w [] all = tt
follows_throughout P Q each w (choice ∷ choices) all =
    (each w choice all.0, follows_throughout P Q each (after w choice) choices all.1)

pub steps_are_accounted_for : StepsHaveCauses → StepsAreGuarded → RefusalsChangeLittle → PrintsAreOfBuffers
    → StepsServeEdges → StepsOperateOne → StepsAreAccountedFor
steps_are_accounted_for causes guarded refused prints edges operates = record {
  any = λ w choice whole. with_causes w choice (causes.any w choice whole);
  turn = λ w slot whole. with_causes w (Run slot) (causes.turn w slot whole);
  stretch = λ k w later is. follows_throughout EachChangeHasACause IsAccountedFor with_causes w (chosen k w)
      (causes.stretch k w later is);
  all = follows_throughout EachChangeHasACause IsAccountedFor with_causes;
}
  where
    with_causes : (w : World) (choice : Choice) → EachChangeHasACause w choice → IsAccountedFor w choice
    with_causes w choice one = record {
      causes = one;
      accesses = (guarded w choice).accesses;
      denials = (guarded w choice).denials;
      recorded = denials_are_recorded w choice;
      shown = step_shown w choice;
      refused = refused w choice;
      prints = prints w [] choice;
      edges = edges w choice;
      operated = operates w choice;
    }
