use Rattle.std.proofs.Common.{◌≡◌, true}
use Rattle.process_record.specs.Operator.{ends_by}
use Rattle.board_turns.proofs.machine.Machine.let_go.Goals as goal

pub returns-then-ends-clause-drives : goal.returns-then-ends-clause-drives
returns-then-ends-clause-drives c = λ life.
    let ends : true ≡ ends_by c.args.verb c.args.process.now = cc in
    rw (← ends) (c.gone.ensures life)
