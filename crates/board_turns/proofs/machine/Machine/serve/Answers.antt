use Rattle.std.proofs.Common.{ap}
use Rattle.syscall_abi.specs.Forms.{form_of}
use Rattle.board_turns.specs.declared.machine.Machine.{Machine}
use Rattle.board_turns.proofs.Staying.{finished_in_place, protects_still}
use Rattle.board_turns.proofs.machine.Machine.serve.Goals as goal

-- a call that is neither a memop nor an exit has left what the process may access
pub refresh_after-requires-clause-stays : goal.refresh_after-requires-clause-stays
refresh_after-requires-clause-stays c = λ none.
    let x = c.args.self.now in
    let f = c.finish_call-outcome in
    rw (ap (λ (m : Machine). m.guard) f.ensures.rest)
    (protects_still x.guard.pmp _ _ (finished_in_place c.commands_stay_in_place.ensures c.args.slot x f.new.self
    (form_of c.args.call.now) f.result c.args.process.now f.new.process none f.ensures.serves)
    c.requires.turn.set.protects)
