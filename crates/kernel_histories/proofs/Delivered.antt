-- A turn that delivers an upcall which waits goes on with it.
use Rattle.std.proofs.Common.{◌≡◌, ℕ, Option, Some, slice_get}
use Rattle.std.specs.Prelude.{All}
use Rattle.std.proofs.Common.{refl}
use Rattle.tk_base.specs.declared.process.Choice.{Choice}
use Rattle.tk_base.specs.declared.upcall.Upcall.{Upcall as Scheduled}
use Rattle.rv32_model.specs.Laws.{CallsAreOfEcall}
use Rattle.upcall_queue.specs.Pending.{place_of}
use Rattle.process_record.specs.Process.{delivered}
use Rattle.kernel_model.specs.Record.{Record}
use Rattle.kernel_model.specs.World.{World, after}
use Rattle.kernel_histories.specs.Deliveries.{Takes, before_delivery, delivery_of, place_taken, takes}
use Rattle.kernel_histories.specs.Deliveries.{told_in}
use Rattle.kernel_histories.specs.Deliveries.{wait_of}
use Rattle.kernel_histories.proofs.Takings.{OfTakings, step_takes}

-- an upcall at a place of what waits for one process is delivered to it, as another record says, if it is taken there
abbrev pub LeavesTaken : Takes → Record → Record → Type 0
LeavesTaken taking r s =
    (place : ℕ) (u : Scheduled) → place_taken taking r.own.inbox.pending ≡ Some place
    → slice_get r.own.inbox.pending place ≡ Some u
    → s.process ≡ delivered (delivery_of taking u) (before_delivery r.process)

-- the upcall at the place that is taken
at_place : (r : Record) (from place : ℕ) (u : Scheduled) → ◌≡◌ {A = Option ℕ} (Some from) (Some place)
    → slice_get r.own.inbox.pending place ≡ Some u → slice_get r.own.inbox.pending from ≡ Some u
at_place r from place u e there = let same : from ≡ place = cc in rw same there

delivers_taken : OfTakings LeavesTaken
delivers_taken = record {
  nothing = λ r s place u e there. absurd (cc);
  now = λ r at runs place u e there. rw (at_place r 0 place u e there, runs) refl;
  asks = λ r driver number runs place u e there.
      rw (at_place r (place_of driver number r.own.inbox.pending) place u e there, runs) refl;
  woken = λ r yielded place u e there. rw (at_place r 0 place u e there, yielded) refl;
}

-- so does the turn in a step, if it has one
pub step_delivers : CallsAreOfEcall
    → (w : World) (slot : ℕ) (choice : Choice) (r s : Record)
    → slice_get w.records slot ≡ Some r → slice_get (after w choice).records slot ≡ Some s
    → All (λ told. LeavesTaken (takes (wait_of r) told.call) r s) (told_in slot w choice)
step_delivers = step_takes LeavesTaken delivers_taken
