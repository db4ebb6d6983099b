use Rattle.std.proofs.Common.{◌≡◌, ◌&&◌, ℕ, Bool, false, slice_get, ap, sym, arith, ◌∙◌}
use Rattle.std.proofs.lemmas.Option.{slice_get_past}
use Rattle.turn_scheduler.specs.Parts.{place_is_ready}
use Rattle.kernel_model.specs.Run.{ready_slots}
use Rattle.kernel_model.specs.World.{World, is_let}
use Rattle.board_drivers.specs.Calm.{only_of}
use Rattle.kernel_calls.specs.Residents.{can_turn_in}
use Rattle.board_core.specs.declared.state.BoardState.{BoardState}
use Rattle.board_core.specs.Shows.{IsBoard, residents, world_of}
use Rattle.board_core.proofs.Boards.{and_false, slot_shown}
use Rattle.board_turns.proofs.Counted.{none_counted}
use Rattle.kernel_calls.proofs.Pairs.{length-firsts}
use Rattle.board_core.proofs.board.BoardSituated.slots.Goals as goal

-- a slot is not ready whose process cannot have a turn
not_ready : (b : BoardState) → IsBoard b → (w : World) → world_of b ≡ w → (slot : ℕ)
    → can_turn_in (slice_get (residents b) slot) ≡ false → place_is_ready (ready_slots w) slot ≡ false
not_ready b board w shown slot cannot =
    ap (λ (w : World). place_is_ready (ready_slots w) slot) (sym shown)
    ∙ slot_shown board slot
    ∙ ap (λ (flag : Bool). is_let (only_of b.machine.moment) slot && flag) cannot
    ∙ and_false (is_let (only_of b.machine.moment) slot)

pub returns-then-has_any-clause-within : goal.returns-then-has_any-clause-within
returns-then-has_any-clause-within c = omega (arith, c.len.ensures, c.self.invariant.few)

pub returns-then-has_any-clause-none : goal.returns-then-has_any-clause-none
returns-then-has_any-clause-none c slot past =
    let b = c.self.inside.state in
    not_ready b c.self.invariant c.args.self.now c.self.view_is slot
    (ap can_turn_in (slice_get_past (residents b) slot (omega (
      arith,
      past,
      c.len.ensures,
      length-firsts b.processes.items b.machine.home.owns c.self.invariant.owns,
    ))))

pub returns-else-has_any-clause-none : goal.returns-else-has_any-clause-none
returns-else-has_any-clause-none c slot past =
    let b = c.self.inside.state in
    not_ready b c.self.invariant c.args.self.now c.self.view_is slot
    (sym (c.self.invariant.ready slot)
    ∙ none_counted b.machine.ready (sym c.has_any.ensures ∙ c.if-has_any.false) slot past)
