-- Where it is calm no device step is ready, and so the slot that goes on has the next turn.
use Rattle.std.proofs.Common.{◌≡◌, ℕ, Option, None, Some, ap, sym, arith, ◌∙◌}
use Rattle.std.specs.Prelude.{IfSome}
use Rattle.tk_base.specs.declared.process.Choice.TheVariants.{Run}
use Rattle.kernel_model.specs.Run.{next, ready_devices}
use Rattle.board_core.proofs.Boards.{none_in_calm}
use Rattle.board_core.proofs.Ready.{calm_shown}
use Rattle.board_core.proofs.board.Board.slot_going_on.Goals as goal

chosen : (P : ℕ → Type 0) (slot : Option ℕ) {D : Type 0} → IfSome slot (λ (s : ℕ). D → P s) → D → IfSome slot P
chosen P None tells none = tells
chosen P (Some s) tells none = tells none

pub returns-then-self : goal.returns-then-self
unfolding next
returns-then-self c =
    let b = c.self.inside.state in
    chosen (λ (slot : ℕ). next c.args.self.now ≡ Some (Run slot)) c.slot_going_on.result c.slot_going_on.ensures.chosen
    (none_in_calm c.args.self.now (ap ready_devices (sym c.self.view_is)
    ∙ calm_shown c.self.invariant
    (c.self.invariant.machine.calm.none b.machine.moment.time (omega arith) (omega (arith, c.if-self.true)))))
