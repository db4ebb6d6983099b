use Rattle.std.proofs.Common.{◌<◌, ℕ, Bool, List, length, slice_get, ap, subst, ◌∙◌}
use Rattle.std.specs.List.{zip}
use Rattle.kernel_calls.specs.Residents.{can_turn_in}
use Rattle.board_turns.proofs.TurnsKept.{all_ready, one_more_ready}
use Rattle.board_turns.proofs.ready_slots.ReadySlots.look_at_all.Goals as goal

pub loop-slot-preserved : goal.loop-slot-preserved
loop-slot-preserved c =
    let rs = zip c.args.processes.now c.args.home.now.owns in
    let count = length c.args.processes.now in
    let ready : List Bool = c.loop-slot.self in
    let can : Bool = c.can_run.result in
    let slot : ℕ = c.loop-slot.slot in
    let there = subst (λ (n : ℕ). n < length ready) c.new-slot.ensures c.note.ensures.there in
    rw (c.note.ensures.noted, c.new-slot.ensures)
    (one_more_ready slot count ready rs can there c.loop-slot-test.true
    (c.can_run.ensures ∙ ap (λ (n : ℕ). can_turn_in (slice_get rs n)) c.new-slot.ensures) c.loop-slot.invariant)

pub returns : goal.returns
returns c =
    all_ready c.loop-slot.slot c.loop-slot.self c.args.processes.now c.args.home.now.owns c.loop-slot-test.false
    c.loop-slot.invariant
