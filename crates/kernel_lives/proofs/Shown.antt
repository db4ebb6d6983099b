-- That a process's own calls write the bytes that they promise: the clock, and the flag of a yield. What an accepted
-- call leaves is known by its class (`Accepts`); bytes that are written over others stand at their own places and leave
-- all others. That they lie in the process's bytes is so since its own is whole.
use Rattle.std.proofs.Common.{◌≡◌, ◌⊎◌, ◌<◌, ◌≤◌, ℕ, ◌+◌, ◌-◌, true, min, List}
use Rattle.std.proofs.Common.{length, take, Option, None, Some, IfSome, slice_get, slice_index, refl, sym}
use Rattle.std.proofs.Common.{ap, subst, ◌∙◌, arith}
use Rattle.std.specs.Int.{w32, to_le_bytes}
use Rattle.std.proofs.lemmas.Bool.Decides.{nat_tests}
use Rattle.std.proofs.lemmas.List.{get_or-set_same, length-take, places}
use Rattle.tk_base.specs.Bytes.{over}
use Rattle.tk_base.specs.declared.kinds.PairKind.TheVariants.{Readable}
use Rattle.tk_base.specs.declared.upcall.Upcall.{Upcall as Scheduled}
use Rattle.grant_values.specs.Drivers.{drivers}
use Rattle.grant_values.specs.declared.drivers.Driver.TheVariants.{Alarm}
use Rattle.rv32_model.specs.Laws.{CallsAreOfEcall}
use Rattle.process_layout.specs.Interval.{lies_within}
use Rattle.process_model.specs.Changes.{own_byte}
use Rattle.process_model.specs.Flag.{with_flag}
use Rattle.process_model.specs.Own.{Own}
use Rattle.process_model.specs.Served.{fitting}
use Rattle.process_record.specs.declared.emit.CallMade.{CallMade}
use Rattle.driver_model.specs.Alarm as alarm
use Rattle.driver_model.specs.Bytes.{clock_buffer}
use Rattle.driver_model.specs.Commands.{BoardRequest, by_number}
use Rattle.driver_model.specs.Drivers.{CommandContext, CommandHandler, handler_by, handler_of}
use Rattle.driver_model.specs.Steps.{own_after}
use Rattle.kernel_model.specs.Calls.{yield_now, yielding}
use Rattle.kernel_model.specs.Record.{Record}
use Rattle.kernel_model.specs.Turn.{surroundings, turn_counted, turned}
use Rattle.kernel_model.specs.Wholes.{HasWholeOwn}
use Rattle.kernel_model.specs.World.{now_in}
use Rattle.kernel_laws.specs.Arming.{IsAccepted}
use Rattle.kernel_laws.proofs.Accepted.{Accepts, HasCome, accepted_yield, comes_of, if_called, of_accepted, yields}
use Rattle.kernel_laws.proofs.Between.{of_each_turn, of_turns_at}
use Rattle.kernel_lives.specs.Given.{ClockIsShown, ClocksAreShown, FlagTells, FlagsTell, HasFlag}
use Rattle.kernel_lives.proofs.OwnBuffers.{writable_lies}
use Rattle.kernel_model.proofs.Places.{same_some}

-- Four bytes that are written to the start of a buffer, as many as fit.
module _ (ram le : List ℕ) (four : length le ≡ 4) (buffer : ℕ × ℕ) (start : ℕ) where
  abbrev written : List ℕ
  written = over ram (buffer.0 - start + 0) (fitting buffer 0 le)

  stands : (k : ℕ) → start ≤ buffer.0 → buffer.0 + buffer.1 ≤ start + length ram → k < length (take buffer.1 le)
      → slice_index written (buffer.0 + 0 + k - start) ≡ slice_index (take buffer.1 le) k
  stands k above below less = grind (arith, places)

  beside : (at : ℕ) → (1 ≤ buffer.1 → start ≤ buffer.0) → start ≤ at → at - start < length ram
      → (at < buffer.0) ⊎ (buffer.0 + min 4 buffer.1 ≤ at)
      → slice_index written (at - start) ≡ slice_index ram (at - start)
  beside at lies low within out = grind (arith, places)

-- the clock, where each byte of the process is as it is once it was shown
pub clock_shown : (now : ℕ) (r s : Record)
    → ((at : ℕ) → own_byte s.own at ≡ own_byte (alarm.showing now r.own) at)
    → ClockIsShown now r s
clock_shown now r s same = record {
  stand = λ whole k less.
      let size = length-take (clock_buffer r.own).1 (to_le_bytes w32 now) in
      let lies = writable_lies Readable refl r whole alarm.alarm_driver 0 (omega (arith, size, less)) in
      same _
      ∙ stands r.own.ram (to_le_bytes w32 now) refl (clock_buffer r.own) r.own.layout.start k lies.low lies.fits less;
  others = λ whole at inside out.
      same at
      ∙ beside r.own.ram (to_le_bytes w32 now) refl (clock_buffer r.own) r.own.layout.start at
      (λ some. (writable_lies Readable refl r whole alarm.alarm_driver 0 some).low) inside.0
      (omega (arith, inside.0, inside.1, whole.1.bytes)) out;
}

-- the command that shows it
shows_so : (around : CommandContext) (own o : Own) (acts : List BoardRequest) (call : CallMade)
    → Accepts around own o acts call → slice_index call.args 0 ≡ 0x0 → slice_index call.args 1 ≡ 2
    → o ≡ alarm.showing around.now own
unfolding drivers alarm.commands
shows_so around own o acts call takes zero two =
    takes.own
    ∙ ap (λ (t : CommandHandler). own_after (comes_of around own t call).step) (sym (same_some (handler_by Alarm)
    takes.taker (subst (λ (d : ℕ). handler_of d ≡ Some takes.taker) zero takes.there)))
    ∙ ap (λ (n : ℕ). own_after (by_number (alarm.commands around.now (slice_index call.args 2)
    (slice_index call.args 3)) n own).step) two

pub clocks_are_shown : CallsAreOfEcall → ClocksAreShown
clocks_are_shown of_ecall w choice =
    of_turns_at (λ r s told. IfSome told.call (λ call.
    IsAccepted 0x0 call → slice_index call.args 1 ≡ 2 → ClockIsShown (now_in w) r s)) w (λ r.
    let t = turned w.settings w.clock.time r in
    let around = surroundings w.settings w.clock.time r in
    if_called t.told.call (λ call. call.class ≡ 2 → call.rule ≡ None → Accepts around r.own t.after.own t.acts call)
    (λ call. IsAccepted 0x0 call → slice_index call.args 1 ≡ 2 → ClockIsShown (now_in w) r t.after)
    (λ call accepts is two.
    let shown = shows_so around r.own t.after.own t.acts call (accepts is.class is.accepted) is.of_driver two in
    clock_shown (now_in w) r t.after (λ at. ap (λ (o : Own). own_byte o at) shown))
    (of_accepted of_ecall w.settings w.clock.time r)) choice

-- A flag that lies in accessible RAM has the byte that was written.
in_place : (low high at : ℕ) → low ≤ at → at < high → lies_within low high at 1 ≡ true
in_place low high at from below = grind (arith, nat_tests)

flag_byte : (at byte : ℕ) (own : Own) → own.layout.start ≤ at → at < own.layout.brk
    → at - own.layout.start < length own.ram → own_byte (with_flag at byte own) at ≡ byte
flag_byte at byte own from below within =
    rw (in_place own.layout.start own.layout.brk at from below)
    (get_or-set_same own.ram (at - own.layout.start) byte 0 within)

module _ (r s : Record) (call : CallMade)
    (comes : call.class ≡ 0 → call.rule ≡ None → HasCome yields r s call) where
  -- by the first that waits
  yielded_now : HasFlag r call → (first : Option Scheduled) → slice_get r.own.inbox.pending 0 ≡ first
      → s ≡ (yield_now (turn_counted r) (slice_index call.args 1) first).after
  unfolding yielding
  yielded_now has first is =
      (comes has.yield.class has.yield.accepted).after ∙ rw (has.yield.number, is)

  written_there : HasFlag r call → HasWholeOwn r → (byte : ℕ)
      → own_byte (with_flag (slice_index call.args 1) byte r.own) (slice_index call.args 1) ≡ byte
  written_there has whole byte =
      let order = whole.0.places in
      flag_byte (slice_index call.args 1) byte r.own has.from has.below
      (omega (arith, has.from, has.below, order.mark, order.brk, order.grants, whole.1.bytes))

  flag_tells : FlagTells r s call
  flag_tells = record {
    delivered = λ has whole u rest pending.
        rw (yielded_now has (Some u) (rw pending)) (written_there has whole 1);
    none = λ has whole pending. rw (yielded_now has None (rw pending)) (written_there has whole 0);
  }

pub flags_tell : CallsAreOfEcall → FlagsTell
flags_tell of_ecall =
    of_each_turn (λ r s told. IfSome told.call (FlagTells r s)) (λ settings time r.
    let t = turned settings time r in
    if_called t.told.call (λ call. call.class ≡ 0 → call.rule ≡ None → HasCome yields r t.after call)
    (FlagTells r t.after)
    (λ call comes. flag_tells r t.after call comes) (accepted_yield of_ecall settings time r))
