use Rattle.std.proofs.Common.{ap, arith, length, map, slice_get, sym, ◌∙◌, ◌≡◌}
use Rattle.kernel_model.specs.Turn.{may_turn}
use Rattle.kernel_model.specs.Named.{can_run}
use Rattle.board_core.proofs.Boards.{turns_long}
use Rattle.board_core.proofs.Tables.{all_flags, flag_more, turn_flag}
use Rattle.board_core.specs.Shows.{world_of}
use Rattle.board_core.proofs.standard.turns_ready.Goals as goal

pub loop-slot-preserved : goal.loop-slot-preserved
loop-slot-preserved c =
    let records = (world_of c.args.state.now).records in
    let long : length (map may_turn records) ≡ length c.args.state.now.processes.items =
    turns_long c.requires in
    flag_more (map may_turn records) c.loop-slot.slot c.can_run_alone.result c.loop-slot.ready.items
    c.push.new.self.items (omega (arith, long, c.len-slot-end.ensures, c.loop-slot-test.true))
    (c.can_run_alone.ensures ∙ ap (λ slot. can_run (slice_get records slot)) c.new.ensures
    ∙ sym (turn_flag records c.loop-slot.slot))
    c.loop-slot.invariant c.push.ensures.items

pub returns : goal.returns
returns c =
    let records = (world_of c.args.state.now).records in
    let long : length (map may_turn records) ≡ length c.args.state.now.processes.items =
    turns_long c.requires in
    all_flags (map may_turn records) c.loop-slot.slot c.loop-slot.ready.items
    (omega (arith, long, c.len-slot-end.ensures, c.loop-slot-test.false)) c.loop-slot.invariant
