-- That an accepted brk or sbrk moves the break, by the rows of memop.
use Rattle.std.proofs.lemmas.Bool.{cond_both}
use Rattle.std.proofs.lemmas.Option.{cond_some}
use Rattle.std.proofs.Common.{◌≡◌, ◌<◌, ◌≤◌, ℕ, ◌+◌, ◌-◌, ◌^◌, true, false, nat_le, nat_lt, Option}
use Rattle.std.proofs.Common.{None, Some}
use Rattle.std.proofs.Common.{IfSome, slice_index, refl, sym, ap, ◌∙◌, arith}
use Rattle.std.proofs.lemmas.Bool.Decides.{nat_tests}
use Rattle.rv32_model.specs.Laws.{CallsAreOfEcall}
use Rattle.process_layout.specs.Bounds.{permits_break}
use Rattle.process_model.specs.Own.{kernel_break_of, with_moved_break}
use Rattle.syscall_abi.specs.declared.reply.Reply.{Reply}
use Rattle.syscall_abi.specs.declared.reply.Reply.TheVariants.{Success, SuccessU32}
use Rattle.process_record.specs.declared.emit.CallMade.{CallMade}
use Rattle.kernel_model.specs.Calls.{Served, break_moved, memop, memops as memop_rows, moved_by}
use Rattle.kernel_model.specs.Record.{Record}
use Rattle.kernel_model.specs.Turn.{rule_shown, turn_counted, turned}
use Rattle.kernel_laws.specs.Breaks.{BreaksAreMoved, MovesBreak}
use Rattle.kernel_laws.proofs.Accepted.{HasCome, accepted_memop, if_called, memops}
use Rattle.kernel_laws.proofs.Between.{of_each_turn}

-- a break that is moved, where no rule was broken
record IsMoved (r : Record) (o : Option ℕ) (after : Record) : Type 0 where
  new : ℕ
  is : o ≡ Some new
  own : after.own ≡ with_moved_break new r.own

moved : (r : Record) (o : Option ℕ) (reply : Reply) → rule_shown (break_moved r o reply).outcome ≡ None
    → IsMoved r o (break_moved r o reply).after
moved r None reply none = absurd (cc)
moved r (Some new) reply none = record {
  new = new;
  is = refl;
  own = cond_both (permits_break r.own.layout (kernel_break_of r.own) new) _ _
      (λ (s : Served). rule_shown s.outcome ≡ None → s.after.own ≡ with_moved_break new r.own) (λ e none. refl)
      (λ e none. absurd (cc)) none;
}

-- by how much sbrk moves it
up_by : (brk by new : ℕ) → by < 2 ^ 31 → moved_by brk by ≡ Some new → new ≡ brk + by
up_by brk by new small is =
    let below : nat_lt by (2 ^ 31) ≡ true = grind (arith, nat_tests) in
    let moved = rw below at is in
    cc

down_by : (brk by new : ℕ) → 2 ^ 31 ≤ by → moved_by brk by ≡ Some new → new ≡ brk + by - 2 ^ 32
down_by brk by new large is =
    let above : nat_lt by (2 ^ 31) ≡ false = grind (arith, nat_tests) in
    sym (cond_some (nat_le (2 ^ 32) (brk + by)) (brk + by - 2 ^ 32) new (rw above at is)).1

module _ (r s : Record) (call : CallMade) (comes : call.class ≡ 5 → call.rule ≡ None → HasCome memops r s call) where
  -- what a row comes to, by its number
  by_row : (n : ℕ) (o : Option ℕ) (reply : Reply) → call.class ≡ 5 → slice_index call.args 0 ≡ n → call.rule ≡ None
      → memop (turn_counted r) n (slice_index call.args 1) ≡ break_moved (turn_counted r) o reply
      → IsMoved (turn_counted r) o s
  by_row n o reply class is accepted row =
      let here = comes class accepted in
      let same : memops (turn_counted r) call.args ≡ break_moved (turn_counted r) o reply =
      ap (λ (k : ℕ). memop (turn_counted r) k (slice_index call.args 1)) is ∙ row in
      let m = moved (turn_counted r) o reply (sym (ap (λ (x : Served). rule_shown x.outcome) same) ∙ here.keeps) in
      record {
        new = m.new;
        is = m.is;
        own = ap (λ (x : Record). x.own) here.after ∙ ap (λ (x : Served). x.after.own) same ∙ m.own;
      }

  moves : MovesBreak r s call
  unfolding memop memop_rows
  moves = record {
    to = λ is.
        let m = by_row 0 (Some (slice_index call.args 1)) Success is.class is.asks is.accepted refl in
        let new : m.new ≡ slice_index call.args 1 = cc (m.is) in
        m.own ∙ ap (λ (n : ℕ). with_moved_break n r.own) new;
    up = λ is small.
        let brk = r.own.layout.brk in
        let m = by_row 1 (moved_by brk (slice_index call.args 1)) (SuccessU32 brk) is.class is.asks is.accepted refl in
        m.own ∙ ap (λ (n : ℕ). with_moved_break n r.own) (up_by brk (slice_index call.args 1) m.new small m.is);
    down = λ is large.
        let brk = r.own.layout.brk in
        let m = by_row 1 (moved_by brk (slice_index call.args 1)) (SuccessU32 brk) is.class is.asks is.accepted refl in
        m.own ∙ ap (λ (n : ℕ). with_moved_break n r.own) (down_by brk (slice_index call.args 1) m.new large m.is);
  }

pub breaks_are_moved : CallsAreOfEcall → BreaksAreMoved
breaks_are_moved of_ecall =
    of_each_turn (λ r s told. IfSome told.call (MovesBreak r s)) (λ settings time r.
    let t = turned settings time r in
    if_called t.told.call (λ call. call.class ≡ 5 → call.rule ≡ None → HasCome memops r t.after call)
    (MovesBreak r t.after) (λ call comes. moves r t.after call comes) (accepted_memop of_ecall settings time r))
