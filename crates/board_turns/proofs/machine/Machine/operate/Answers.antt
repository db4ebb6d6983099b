use Rattle.std.proofs.Common.{ap}
use Rattle.grant_enter.specs.Homes.{own_of}
use Rattle.board_turns.specs.declared.machine.Machine.{Machine}
use Rattle.board_turns.proofs.Acting.{operates}
use Rattle.board_turns.proofs.machine.Machine.operate.Goals as goal

pub returns-clause-operates : goal.returns-clause-operates
returns-clause-operates c =
    let before = c.let_go.new.self.home in
    let slot = c.args.slot in
    let p = c.args.process.now in
    let q = c.act.new.process in
    let own_after = own_of c.act.new.home slot in
    record {
      operates = rw (ap (λ (x : Machine). x.home) c.let_go.ensures.rest) at
          (operates c.args.verb before.flash p q (own_of before slot) own_after c.act.ensures.stays
          c.act.ensures.leaves);
      drives = c.let_go.ensures.drives (own_of c.args.self.now.home slot).life;
    }
