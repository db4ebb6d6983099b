use Rattle.std.proofs.Common.{◌∷◌, [], length, map, ap, sym, arith, ◌∙◌, ◌≡◌, ℕ}
use Rattle.std.specs.List.{range_with_len}
use Rattle.std.proofs.lemmas.List.{length-map, map-append}
use Rattle.tk_base.specs.declared.limits.TheConstants.{SLOT_COUNT}
use Rattle.std.proofs.lemmas.List.FromFn.{length-map-range_with_len}
use Rattle.kernel_laws.specs.Windows.{lane_order}
use Rattle.kernel_model.specs.Parts.{work_for}
use Rattle.board_core.proofs.Tables.{slot_more}
use Rattle.board_core.specs.Shows.{world_of}
use Rattle.board_core.proofs.standard.lane_flags.Goals as goal

pub push-requires : goal.push-requires
push-requires c =
    let f = λ (slot : ℕ). map (work_for (world_of c.args.state.now) slot).ready lane_order in
    let so_far : length c.loop-slot.lanes.items ≡ c.loop-slot.slot =
    sym (length-map c.loop-slot.lanes.items (λ flags. flags.items)) ∙ ap length c.loop-slot.invariant
    ∙ length-map-range_with_len f 0 c.loop-slot.slot in
    omega (arith, so_far, c.loop-slot-test.true)

pub loop-slot-preserved : goal.loop-slot-preserved
loop-slot-preserved c =
    let f = λ (slot : ℕ). map (work_for (world_of c.args.state.now) slot).ready lane_order in
    slot_more f c.loop-slot.slot c.new.result c.lane.result.items
    (map (λ flags. flags.items) c.loop-slot.lanes.items) (map (λ flags. flags.items) c.push.new.self.items)
    c.new.ensures c.lane.ensures c.loop-slot.invariant
    (ap (map (λ flags. flags.items)) c.push.ensures.items
    ∙ map-append (λ flags. flags.items) c.loop-slot.lanes.items (c.lane.result ∷ []))

pub returns : goal.returns
returns c =
    let f = λ (slot : ℕ). map (work_for (world_of c.args.state.now) slot).ready lane_order in
    let all : c.loop-slot.slot ≡ SLOT_COUNT = omega (arith, c.loop-slot-test.false, c.loop-slot.auto.slot-end) in
    c.loop-slot.invariant ∙ ap (λ n. map f (range_with_len 0 n)) all
