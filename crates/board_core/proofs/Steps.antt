-- A step of a board is accounted for, whatever the choice is.
use Rattle.std.proofs.Common.{◌≡◌, ◌≤◌, ◌&&◌, Bool, false, Result, Err, refl, ap, subst, sym}
use Rattle.std.proofs.lemmas.Bool.{le-ltb}
use Rattle.tk_base.specs.declared.limits.TheConstants.{STEP_LIMIT}
use Rattle.tk_base.specs.declared.process.Choice.{Choice}
use Rattle.tk_base.specs.declared.process.NotReady.{NotReady}
use Rattle.process_record.specs.declared.emit.Emit.{Emit}
use Rattle.kernel_model.specs.Accounts.{IsAccountedFor}
use Rattle.kernel_model.specs.Replay.{RecordIsReplay}
use Rattle.kernel_model.specs.World.{World, is_ready, may_be_made}
use Rattle.board_opening.proofs.Alone.{step_replayed}
use Rattle.board_core.specs.Makes.{MakesStep, Showing, Steps, showing}
use Rattle.board_core.proofs.Devices.{refused_so}

-- of a choice that is known, which a board makes or refuses
pub steps_so : {old new : Showing} {choice known : Choice} {result : Result Unit NotReady} → RecordIsReplay
    → IsAccountedFor old.world choice → choice ≡ known → MakesStep known old new result → Steps choice old new result
steps_so {old} {new} {choice} {known} {result} law accounted is makes = record {
  makes = subst (λ (c : Choice). MakesStep c old new result) (sym is) makes;
  accounted = accounted;
  records = step_replayed old.world new.world choice known result law is makes.ok;
}

-- at the limit of steps none is ready
at_limit : (w : World) (choice : Choice) → STEP_LIMIT ≤ w.clock.steps → is_ready w choice ≡ false
at_limit w choice h = ap (λ (b : Bool). b && may_be_made w choice) (le-ltb w.clock.steps STEP_LIMIT h)

-- so each is refused there
pub refused_at_limit : {u w : World} {choice : Choice} {emit : Emit} → RecordIsReplay → IsAccountedFor w choice → u ≡ w
    → STEP_LIMIT ≤ u.clock.steps → Steps choice (showing w emit) (showing w emit) (Err (record {}))
refused_at_limit {u} {w} {choice} {emit} law accounted is h =
    steps_so law accounted refl (refused_so refl refl (at_limit w choice (rw is at h)))
