use Rattle.board_turns.proofs.Tables.{holds_here, steps_there}
use Rattle.board_turns.proofs.machine.Machine.operate_at.Goals as goal

pub operate-requires : goal.operate-requires
operate-requires c =
    holds_here _ _ c.args.self.now _ _ c.index.ensures.value c.index_mut-process.ensures.value c.requires

pub returns : goal.returns
returns c =
    steps_there _ _ _ _ _ c.index.ensures.value c.index_mut-process.ensures.value c.requires 1 _ _
    c.operate.ensures.leaves c.operate.ensures.operates
