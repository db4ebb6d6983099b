use Rattle.std.proofs.Common.{◌||◌, Bool, ap, sym, ◌∙◌}
use Rattle.tk_base.specs.declared.process.Dev.TheVariants.{Receive, Random, Store}
use Rattle.kernel_model.specs.Parts.{work_for}
use Rattle.board_core.proofs.AnyReady.{one_is_ready}
use Rattle.board_core.specs.Shows.{world_of}
use Rattle.board_core.proofs.left.has_ready_alone.Goals as goal

pub returns-then-is_time_alone : goal.returns-then-is_time_alone
returns-then-is_time_alone c =
    let ready = (work_for (world_of c.args.state.now) c.args.slot).ready in
    c.if-is_time_alone.true ∙ sym (one_is_ready ready
    ∙ ap (λ (b : Bool). b || (ready Receive || (ready Random || ready Store)))
    (sym c.is_time_alone.ensures ∙ c.if-is_time_alone.true))

pub returns-else-is_time_alone : goal.returns-else-is_time_alone
returns-else-is_time_alone c =
    let ready = (work_for (world_of c.args.state.now) c.args.slot).ready in
    c.is_busy_alone.ensures ∙ sym (one_is_ready ready
    ∙ ap (λ (b : Bool). b || (ready Receive || (ready Random || ready Store)))
    (sym c.is_time_alone.ensures ∙ c.if-is_time_alone.false))
