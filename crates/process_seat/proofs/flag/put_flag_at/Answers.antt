use Rattle.std.proofs.Common.{◌≡◌, ◌≤◌, ◌+◌, ◌-◌, ℕ, List, ap, ap₂, sym, subst, ◌∙◌, arith}
use Rattle.std.specs.Prelude.{slice_set}
use Rattle.std.proofs.lemmas.Bool.Decides.{nat_tests}
use Rattle.process_layout.specs.LayoutView.{LayoutView}
use Rattle.board_memory.specs.Memory.{ram_between, with_run}
use Rattle.process_seat.specs.Seats.{Reseats, own_in}
use Rattle.process_seat.proofs.Flags.{flag_own, flag_reseats}
use Rattle.process_seat.proofs.flag.put_flag_at.Goals as goal
use Rattle.process_seat.proofs.flag.put_flag_at.Goals.{After-lend_block-bytes}

low : (c : After-lend_block-bytes) → c.args.seat.now.layout.start ≤ c.args.at
low c = grind (arith, nat_tests, c.in_ram.ensures, c.if-not-in_ram.false)

high : (c : After-lend_block-bytes) → c.args.at + 1 ≤ c.args.seat.now.layout.brk
high c = grind (arith, nat_tests, c.in_ram.ensures, c.if-not-in_ram.false)

-- the bytes of the block afterwards
left : (c : After-lend_block-bytes)
    → slice_set c.lend_block-bytes.result.bytes.now (c.args.at - c.layout.inside.start) c.args.flag
    ≡ slice_set (ram_between c.args.memory.now.ram c.args.seat.now.layout.start c.args.seat.now.layout.end)
    (c.args.at - c.args.seat.now.layout.start) c.args.flag
left c = ap₂ (λ (xs : List ℕ) (start : ℕ). slice_set xs (c.args.at - start) c.args.flag)
    c.lend_block-bytes.ensures.bytes (ap (λ (e : LayoutView). e.start) c.layout.view_is)

pub returns-clause-own : goal.returns-clause-own
returns-clause-own c =
    let a = (goal.at.returns-clause-own c).After-lend_block-bytes in
    ap (λ (xs : List ℕ). own_in (with_run c.args.memory.now c.args.seat.now.layout.start xs).ram c.args.seat.now)
    (left a)
    ∙ flag_own c.args.memory.now c.args.seat.now c.requires c.args.at c.args.flag (low a) (high a)

pub returns-clause-reseats : goal.returns-clause-reseats
returns-clause-reseats c =
    let a = (goal.at.returns-clause-reseats c).After-lend_block-bytes in
    subst (λ (xs : List ℕ). Reseats c.args.memory.now c.args.seat.now
    (with_run c.args.memory.now c.args.seat.now.layout.start xs) c.args.seat.now) (sym (left a))
    (flag_reseats c.args.memory.now c.args.seat.now c.requires c.args.at c.args.flag (low a) (high a))
