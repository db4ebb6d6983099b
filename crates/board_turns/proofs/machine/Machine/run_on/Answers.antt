use Rattle.std.proofs.Common.{sym, ◌∙◌}
use Rattle.board_turns.proofs.Turns.{all_left, makes_call, may_serve_still, then_left, trapped, went}
use Rattle.board_turns.proofs.machine.Machine.run_on.Goals as goal

pub returns-in-Went-clause-turns : goal.returns-in-Went-clause-turns
returns-in-Went-clause-turns c =
    let i = c.end_instruction-end in
    rw c.requires.quiet (went c.args.slot c.args.self.now i.new.self c.args.process.now i.new.process i.ensures.made
    i.ensures.rest c.requires.runs c.requires.free (sym i.ensures.end ∙ c.in-Went.is))

pub returns-in-Went-clause-leaves : goal.returns-in-Went-clause-leaves
returns-in-Went-clause-leaves c =
    let e = c.end_instruction-end.ensures in all_left _ _ _ _ _ e.made e.rest c.requires.turn e.turn.set

-- what drivers ask of the process stays
pub serve_call-requires-clause-may : goal.serve_call-requires-clause-may
serve_call-requires-clause-may c =
    let i = c.end_instruction-end in
    may_serve_still _ c.args.self.now i.new.self _ _ i.ensures.made i.ensures.rest c.requires.may

pub returns-in-Call-clause-turns : goal.returns-in-Call-clause-turns
returns-in-Call-clause-turns c =
    let i = c.end_instruction-end in
    makes_call _ c.args.self.now i.new.self _ _ i.ensures.made i.ensures.rest c.requires.runs c.requires.free
    c.serve_call.new.self _ _ (sym i.ensures.end ∙ c.in-Call.is) c.serve_call.ensures.serves

pub returns-in-Call-clause-leaves : goal.returns-in-Call-clause-leaves
returns-in-Call-clause-leaves c =
    let e = c.end_instruction-end.ensures in then_left _ _ _ _ _ e.made e.rest _ _ c.serve_call.ensures.leaves

pub returns-in-Trap-clause-turns : goal.returns-in-Trap-clause-turns
returns-in-Trap-clause-turns c =
    let i = c.end_instruction-end in
    let f = c.fault_at.ensures in
    trapped _ c.args.self.now i.new.self _ _ i.ensures.made i.ensures.rest c.requires.runs c.requires.free
    c.fault_at.new.self _ _ _ (sym i.ensures.end ∙ c.in-Trap.is) f.shown f.settles f.gone

pub returns-in-Trap-clause-leaves : goal.returns-in-Trap-clause-leaves
returns-in-Trap-clause-leaves c =
    let e = c.end_instruction-end.ensures in then_left _ _ _ _ _ e.made e.rest _ _ c.fault_at.ensures.leaves
