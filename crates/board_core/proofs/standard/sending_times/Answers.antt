use Rattle.std.proofs.Common.{Some, length, ap, arith, ◌∙◌, ◌≡◌, ℕ}
use Rattle.std.proofs.lemmas.List.FromFn.{length-map-range_with_len}
use Rattle.kernel_model.specs.World.{sending_time}
use Rattle.board_core.proofs.Tables.{slot_more}
use Rattle.board_core.specs.Shows.{world_of}
use Rattle.board_core.proofs.standard.sending_times.Goals as goal

pub push-requires : goal.push-requires
push-requires c =
    let so_far : length c.loop-slot.times.items ≡ c.loop-slot.slot =
    ap length c.loop-slot.invariant
    ∙ length-map-range_with_len (λ (slot : ℕ). sending_time (Some slot) (world_of c.args.state.now).devices) 0
    c.loop-slot.slot in
    omega (arith, so_far, c.loop-slot-test.true)

pub loop-slot-preserved : goal.loop-slot-preserved
loop-slot-preserved c =
    slot_more (λ (slot : ℕ). sending_time (Some slot) (world_of c.args.state.now).devices) c.loop-slot.slot c.new.result
    c.sending_time.result c.loop-slot.times.items c.push.new.self.items c.new.ensures
    c.sending_time.ensures
    c.loop-slot.invariant c.push.ensures.items
