use Rattle.std.proofs.Common.{List, ap, slice_get, sym, ◌∙◌}
use Rattle.std.specs.List.{zip}
use Rattle.process_record.specs.declared.process.Process.{Process}
use Rattle.kernel_calls.specs.Residents.{can_turn_in}
use Rattle.board_core.proofs.Boards.{run_shown}
use Rattle.board_core.proofs.left.can_run_alone.Goals as goal

pub returns : goal.returns
returns c =
    let b = c.args.state.now in
    c.can_run.ensures
    ∙ ap (λ (ps : List Process). can_turn_in (slice_get (zip ps b.machine.home.owns) c.args.slot)) c.deref.ensures.value
    ∙ sym (run_shown c.requires c.args.slot)
