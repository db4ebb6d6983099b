-- Quiet turns in a slot: the registers are brought in, and what `instruct_quietly` promised of the slot's own bytes
-- (`MakesAll`) is so many instructions of its record. They changed RAM, registers and the count of turns alone, so the
-- process is seated, so many steps later, and the machine's rest is as it was.
use Rattle.std.proofs.Common.{arith, refl}
use Rattle.grant_enter.specs.Homes.{own_of}
use Rattle.board_turns.proofs.Quiet.{later_process, later_seated, left_own, quietly}
use Rattle.board_turns.proofs.Tables.{holds_here, steps_there}
use Rattle.board_turns.proofs.Turns.{guards_only}
use Rattle.board_turns.proofs.machine.Machine.turns_at.Goals as goal

pub bring_in-requires-clause-guards : goal.bring_in-requires-clause-guards
bring_in-requires-clause-guards c =
    (holds_here _ _ c.args.self.now _ _ c.index.ensures.value c.index_mut-process.ensures.value c.requires).guard

pub overflow_add-process : goal.overflow_add-process
overflow_add-process c =
    let may = holds_here _ _ c.args.self.now _ _ c.index.ensures.value c.index_mut-process.ensures.value c.requires in
    omega (arith, may.seated.turns, may.limit, c.instruct_quietly-made.ensures.most)

pub returns-clause-quiet : goal.returns-clause-quiet
returns-clause-quiet c =
    let x = c.args.self.now in
    let p = c.index_mut-process.result.now in
    let may = holds_here _ _ c.args.self.now _ _ c.index.ensures.value c.index_mut-process.ensures.value c.requires in
    let home = c.bring_in.ensures.home in
    let e = c.instruct_quietly-made.ensures in
    let k = c.instruct_quietly-made.result.went in
    let regs = c.instruct_quietly-made.new.regs in
    let own = own_of x.home c.args.slot in
    let own_after = own_of c.instruct_quietly-made.new.self c.args.slot in
    let made = rw home at e.made in
    let same = left_own k x.home.flash p own own_after regs may.seated.own.object made in
    steps_there _ _ _ _ _ c.index.ensures.value c.index_mut-process.ensures.value c.requires k
    (record x { home = c.instruct_quietly-made.new.self; guard = c.bring_in.new.self }) (later_process p k regs)
    (record {
      seated = later_seated x.home.flash x.moment.steps k p own own_after regs same may.seated;
      only = rw home at e.rest;
      guard = guards_only c.args.slot c.bring_in.new.self c.instruct_quietly-made.new.self (record {
        slot_is = c.bring_in.ensures.set.slot_is;
        protects = rw same (rw home at c.bring_in.ensures.set.protects);
      });
      rest = refl;
    })
    (quietly k c.args.most c.instruct_quietly-made.result.end x.home.flash p own own_after regs
    may.seated.own.object made (rw home at e.stops) e.most e.all)
