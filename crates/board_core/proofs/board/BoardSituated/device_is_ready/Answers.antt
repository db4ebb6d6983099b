use Rattle.std.proofs.Common.{Bool, List, ap, ◌∙◌}
use Rattle.turn_scheduler.specs.RoundRobin.{device_place}
use Rattle.turn_scheduler.specs.Parts.{place_is_ready}
use Rattle.kernel_model.specs.Run.{ready_devices}
use Rattle.kernel_model.specs.World.{Work, World}
use Rattle.board_drivers.specs.Calm.{work_then}
use Rattle.board_drivers.proofs.Calm.{served_now}
use Rattle.board_core.proofs.Ready.{devices_shown, ready_at}
use Rattle.board_core.proofs.board.BoardSituated.device_is_ready.Goals as goal

pub returns : goal.returns
returns c =
    let b = c.self.inside.state in
    let at = device_place c.args.device in
    c.is_ready.ensures
    ∙ ap (λ (work : Work). work.ready c.args.device)
    (served_now b.machine.moment c.served.result b.machine.home.owns b.machine.drivers c.served.ensures.only)
    ∙ ready_at (work_then b.machine.moment b.machine.home.owns b.machine.drivers).ready c.args.device
    ∙ ap (λ (table : List Bool). place_is_ready table at) (devices_shown c.self.invariant)
    ∙ ap (λ (w : World). place_is_ready (ready_devices w) at) c.self.view_is
