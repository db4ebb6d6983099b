-- That only such processes have turns as may have one, and that a turn of any other would do nothing.
use Rattle.std.proofs.lemmas.List.Elements.{All-weaker}
use Rattle.std.proofs.Common.{◌≡◌, ◌⊎◌, inl, inr, ◌<◌, ◌&&◌, Bool, true, false, cond, not, List, [], ◌∷◌, length}
use Rattle.std.proofs.Common.{Option, None, Some, is_some, slice_get, refl, sym, ◌∙◌, arith}
use Rattle.std.specs.Prelude.{IsSomeAnd}
use Rattle.std.proofs.lemmas.Bool.{false≢true}
use Rattle.upcall_queue.specs.declared.inbox.Delivery.{Delivery}
use Rattle.tk_base.specs.declared.upcall.Upcall.{Upcall as Scheduled}
use Rattle.tk_base.specs.declared.upcall.Wait.{Wait}
use Rattle.tk_base.specs.declared.upcall.Wait.TheVariants.{No, For, Given}
use Rattle.upcall_queue.specs.Pending.{due, due_by}
use Rattle.process_record.specs.declared.process.State.{State}
use Rattle.process_record.specs.declared.process.State.TheVariants.{Running, Yielded}
use Rattle.kernel_model.specs.Record.{Record}
use Rattle.kernel_model.specs.Parts.{delivery}
use Rattle.kernel_model.specs.Turn.{has_turn, idle, is_turn, may_turn, turn_in, turned}
use Rattle.kernel_model.specs.World.{Label, World, labels}
use Rattle.kernel_model.proofs.Labels.{of_labels}
use Rattle.kernel_model.proofs.Places.{free_where_may}
use Rattle.kernel_laws.specs.Ready.{HasDue, IsOfReady, MayHaveTurn, TurnsAreOfReadyProcesses, TurnsAreOfThose}
use Rattle.kernel_laws.specs.Ready.{UnreadyTurnsDoNothing}

pub turns_are_of_ready_processes : TurnsAreOfReadyProcesses
turns_are_of_ready_processes w =
    of_labels (λ s. IsOfReady w) w
    (λ slot r is may turn. rw is may)
    (λ deed slot r a is told no_turn turn. absurd (false≢true (sym no_turn ∙ turn)))

pub unready_turns_do_nothing : UnreadyTurnsDoNothing
unfolding turned
unready_turns_do_nothing settings time r = by_held r.process.held
  where
    by_due : (next : Option Delivery) → is_some next ≡ false → delivery r next ≡ idle r
    by_due None e = refl
    by_due (Some next) e = absurd (false≢true (sym e))

    by_state : (state : State) → has_turn state (due r.own.inbox) ≡ false → turn_in settings time state r ≡ idle r
    by_state Running e = absurd (false≢true (sym e))
    by_state Yielded e = by_due (due r.own.inbox) e
    by_state state e = refl

    by_held : (held : Bool) → (not held && has_turn r.process.state (due r.own.inbox)) ≡ false
        → cond held (idle r) (turn_in settings time r.process.state r) ≡ idle r
    by_held true e = refl
    by_held false e = by_state r.process.state e

-- one that may have a turn, written out
may_have : (r : Record) → may_turn r ≡ true → MayHaveTurn r
may_have r may = record {
  free = free_where_may r may;
  state = by_state r.process.state refl (rw (free_where_may r may) at may);
}
  where
    by_pending : (pending : List Scheduled) → is_some (due_by No pending) ≡ true → 0 < length pending
    by_pending [] e = absurd (false≢true e)
    by_pending (upcall ∷ rest) e = omega arith

    by_wait : (wait : Wait) → r.own.inbox.wait ≡ wait → is_some (due_by wait r.own.inbox.pending) ≡ true
        → HasDue r.own.inbox
    by_wait No is e = inl (is, by_pending r.own.inbox.pending e)
    by_wait (For driver number) is e = absurd (false≢true e)
    by_wait (Given args) is e = inr (args, is)

    by_state : (state : State) → r.process.state ≡ state → has_turn state (due r.own.inbox) ≡ true
        → (r.process.state ≡ Running) ⊎ ((r.process.state ≡ Yielded) × HasDue r.own.inbox)
    by_state Running is e = inl is
    by_state Yielded is e = inr (is, by_wait r.own.inbox.wait refl e)
    by_state state is e = absurd (false≢true e)

module _ (w : World) where
  abbrev IsOfThose : Label → Type 0
  IsOfThose label = is_turn label.event ≡ true → IsSomeAnd (slice_get w.records label.slot) MayHaveTurn

  by_there : (o : Option Record) → IsSomeAnd o (λ r. may_turn r ≡ true) → IsSomeAnd o MayHaveTurn
  by_there None may = absurd may
  by_there (Some r) may = may_have r may

pub turns_are_of_those : TurnsAreOfThose
turns_are_of_those w choice =
    All-weaker (IsOfReady w) (IsOfThose w)
    (λ label ready turn. by_there w (slice_get w.records label.slot) (ready turn)) (labels w choice)
    (turns_are_of_ready_processes w choice)
