use Rattle.std.proofs.Common.{◌&&◌, Bool, Option, ap, slice_get, sym, ◌∙◌, ℕ}
use Rattle.turn_scheduler.specs.Parts.{place_is_ready}
use Rattle.kernel_model.specs.Run.{ready_slots}
use Rattle.kernel_model.specs.World.{World, is_let}
use Rattle.kernel_calls.specs.Residents.{can_turn_in}
use Rattle.board_core.specs.Shows.{residents}
use Rattle.board_core.proofs.Boards.{slot_shown}
use Rattle.board_core.proofs.board.BoardSituated.slot_is_ready.Goals as goal

pub returns-then-serves : goal.returns-then-serves
returns-then-serves c =
    let b = c.self.inside.state in
    let slot = c.args.slot in
    let can = can_turn_in (slice_get (residents b) slot) in
    let served = ap (λ (only : Option ℕ). is_let only slot) (sym c.served.ensures.only) ∙ sym c.serves.ensures
    ∙ c.if-serves.true in
    c.has.ensures ∙ c.self.invariant.ready slot
    ∙ ap (λ (flag : Bool). flag && can) (sym served)
    ∙ sym (slot_shown c.self.invariant slot)
    ∙ ap (λ (w : World). place_is_ready (ready_slots w) slot) c.self.view_is

pub returns-else-serves : goal.returns-else-serves
returns-else-serves c =
    let b = c.self.inside.state in
    let slot = c.args.slot in
    let can = can_turn_in (slice_get (residents b) slot) in
    let served = ap (λ (only : Option ℕ). is_let only slot) (sym c.served.ensures.only) ∙ sym c.serves.ensures
    ∙ c.if-serves.false in
    c.if-serves.false ∙ ap (λ (flag : Bool). flag && can) (sym served)
    ∙ sym (slot_shown c.self.invariant slot)
    ∙ ap (λ (w : World). place_is_ready (ready_slots w) slot) c.self.view_is
