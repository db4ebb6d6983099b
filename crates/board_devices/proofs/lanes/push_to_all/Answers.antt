use Rattle.std.proofs.Common.{List, ap, slice_index_or, slice_set, ◌∙◌}
use Rattle.board_devices.specs.SerialLine.{SerialLine, with_input}
use Rattle.board_devices.proofs.Copies.{changed_up_to}
use Rattle.board_devices.proofs.lanes.push_to_all.Goals as goal

pub loop-uart-preserved : goal.loop-uart-preserved
loop-uart-preserved c =
    let i = c.loop-uart.uart-index in
    let f = with_input c.args.bytes.now in
    let first = c.uart-item.result in
    ap (slice_set c.loop-uart.uarts i) c.push.ensures
    ∙ ap (λ (lines : List SerialLine). slice_set lines i (f (slice_index_or lines i first))) c.loop-uart.invariant
    ∙ changed_up_to f c.args.uarts.now i first c.loop-uart-test.true
