-- An event that is added later than all that was made. Each step made begins before its time and ends at it or before,
-- since time never goes back; so the scripts with the event and without it make the same steps.
use Rattle.std.proofs.Common.{◌≡◌, ℕ, zero, suc, ◌<◌, true}
use Rattle.std.proofs.Common.{Some, inl, inr, ap, arith}
use Rattle.tk_base.specs.declared.limits.TheConstants.{STEP_LIMIT}
use Rattle.tk_base.specs.declared.process.Choice.{Choice}
use Rattle.kernel_model.specs.Laws.{NextIsReady}
use Rattle.kernel_model.specs.World.{World, after}
use Rattle.kernel_model.specs.Run.{Ran, next, round}
use Rattle.board_opening.specs.Opening.{opening}
use Rattle.board_views.specs.Agreeing.{AddedIsScripted, AreMade, AreWithin, IsLater}
use Rattle.board_views.specs.Searches.{choice_in}
use Rattle.board_views.specs.Times.{is_within}
use Rattle.board_views.proofs.Agreeing.{one_more, scripts_agree, some_of}
use Rattle.board_views.proofs.Seeking.{chosen_is_next, few_where}
use Rattle.std.proofs.lemmas.Bool.{and_from, le-leb, lt-ltb}
use Rattle.board_views.proofs.Stretches.{lead-step, lead-zero}
use Rattle.board_views.proofs.Timing.{one-within, run_on, step_on}

-- steps that were made, and led to an earlier time, are within a time
made_within : (time n : ℕ) (w : World) → AreMade n w → (round n w).world.clock.time < time → AreWithin time n w
made_within time zero w made later = λ i h. absurd (omega (arith, h))
made_within time (suc n) w made later =
    one_more time n w c.0 (one-within time w c.0 is few within) is (made_within time n (after w c.0) others last)
  where
    c : (c : Choice) × (choice_in w ≡ Some c)
    c = some_of (choice_in w) (rw (lead-zero w) at (made 0 (omega arith)))

    is : next w ≡ Some c.0
    is = chosen_is_next w c.0 c.1

    few : w.clock.steps < STEP_LIMIT
    few = few_where w c.0 c.1

    last : (round n (after w c.0)).world.clock.time < time
    last = rw (lead-step n w c.0 is) at later

    others : AreMade n (after w c.0)
    others i h = rw (lead-step i w c.0 is) at (made (suc i) (omega (arith, h)))

    within : is_within time w c.0 ≡ true
    within =
        let ends : (after w c.0).clock.time < time = omega (arith, (run_on n (after w c.0)).time, last) in
        and_from _ _ (lt-ltb w.clock.time time (omega (arith, (step_on w c.0).time, ends)))
        (le-leb (after w c.0).clock.time time (omega (arith, ends)))

pub added_is_scripted : NextIsReady → AddedIsScripted
added_is_scripted ready script flash event n made later =
    ap (λ (r : Ran). r.world) (scripts_agree ready script flash event n (within later))
  where
    within : IsLater event n (round n (opening script flash)).world → AreWithin event.time n (opening script flash)
    within (inl none) = λ i h. absurd (omega (arith, none, h))
    within (inr late) = made_within event.time n (opening script flash) made late
