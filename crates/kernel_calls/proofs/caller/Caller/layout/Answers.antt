use Rattle.std.proofs.Common.{ap, sym, ◌∙◌}
use Rattle.process_model.specs.Own.{layout_of}
use Rattle.process_seat.proofs.Reseated.{own_layout}
use Rattle.kernel_calls.specs.Called.{Called}
use Rattle.kernel_calls.proofs.caller.Caller.layout.Goals as goal

pub returns : goal.returns
returns c =
    sym (own_layout c.self.inside.memory.now c.self.inside.seat.now c.self.invariant.seat.sits)
    ∙ ap (λ (k : Called). layout_of k.own) c.self.view_is
