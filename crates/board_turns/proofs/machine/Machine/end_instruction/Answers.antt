-- How an instruction ends: what `Home::instruct` promised of the slot's own bytes is the instruction of the record
-- (`IsMade`), and the machine is as before but for that own and the registers. One that is known not to go is not
-- executed; it is the one that counts the turn, and changes nothing else.
use Rattle.std.proofs.Common.{ap, sym, ◌∙◌}
use Rattle.grant_enter.specs.Homes.{ChangesOnly, Homes, own_of}
use Rattle.kernel_calls.specs.Own.{record_in}
use Rattle.kernel_model.specs.Record.{byte_at}
use Rattle.kernel_calls.specs.Residents.{resident}
use Rattle.board_turns.specs.Turning.{IsMade, nothing_beside}
use Rattle.board_turns.proofs.Sight.{sees_record}
use Rattle.board_turns.proofs.Stopped.{is_counted, is_stopped, same_home}
use Rattle.board_turns.proofs.Turns.{in_turn}
use Rattle.board_turns.proofs.machine.Machine.end_instruction.Goals as goal

pub returns-in-Went : goal.returns-in-Went
returns-in-Went c =
    let x = c.args.self.now in
    let before = resident x.home c.args.slot c.args.process.now in
    let home = c.bring_in.ensures.home in
    let m = (rw home at c.instruct.ensures.made)
    (byte_at (record_in x.home.flash c.args.process.now before.1 nothing_beside))
    (sees_record x.home.flash before c.requires.turn.seated.own.object (rw home at c.instruct.ensures.place)) in
    let made = rw c.count_turn.ensures at m in
    let process = record c.count_turn.new.self { regs = c.instruct.new.regs } in
    let is : IsMade x.home.flash before (process, own_of c.instruct.new.self c.args.slot) =
    rw (made.0, made.1, c.count_turn.ensures) in
    let rest = ap (λ (h : Homes). record x { home = h; guard = c.bring_in.new.self })
    (rw home at c.instruct.ensures.rest) in
    record {
      end = made.2;
      made = is;
      turn = in_turn _ _ _ _ _ is rest c.requires.turn c.requires.runs (record {
        slot_is = c.bring_in.ensures.set.slot_is;
        protects = rw made.0 (rw home at c.bring_in.ensures.set.protects);
      });
      rest = rest;
    }

-- one that is known not to go only counts
pub returns-in-Call : goal.returns-in-Call
returns-in-Call c =
    let x = c.args.self.now in
    let slot = c.args.slot in
    let home = c.bring_in.ensures.home in
    let stops = is_stopped c.args.known c.in-Call.is in
    let end = c.requires.known stops in
    let made : IsMade x.home.flash (resident x.home slot c.args.process.now)
    (resident c.bring_in.new.home slot c.count_turn.new.self) =
    rw home (is_counted slot x.home c.args.process.now c.count_turn.new.self c.count_turn.ensures
    c.stopped_turns_change_nothing.ensures c.writes_are_listed.ensures (λ went. stops (sym end ∙ went))) in
    let left = record x { home = c.bring_in.new.home; guard = c.bring_in.new.self } in
    let only : ChangesOnly slot x.home left.home = rw home (same_home slot x.home) in
    let rest = ap (λ (h : Homes). record x { home = h; guard = left.guard }) only in
    record {
      end = sym end;
      made = made;
      turn = in_turn slot x left _ _ made rest c.requires.turn c.requires.runs c.bring_in.ensures.set;
      rest = rest;
    }
