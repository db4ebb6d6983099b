use Rattle.std.proofs.Common.{ap, ◌∙◌, rules}
use Rattle.process_seat.specs.Seats.{Reseats}
use Rattle.kernel_calls.specs.Called.{Called, Loan}
use Rattle.kernel_calls.proofs.Lending.{comes_back}
use Rattle.kernel_calls.proofs.lent.LentVisitSeatProcess.run.Goals as goal

-- what the act left stands in its place, and is what comes back
pub returns-clause-reseats : goal.returns-clause-reseats
returns-clause-reseats g c =
    let k = c.caller.inside in
    let back : Reseats c.args.memory.now c.args.seat.now k.memory.now k.seat.now =
    comes_back c.args.memory.now c.args.seat.now k.memory.now k.seat.now
    (ap (λ (o : Called). o.flash) c.caller.view_is ∙ c.run-answer.ensures.keeps.flash)
    (ap (λ (o : Called). o.loan.place) c.caller.view_is
    ∙ ap (λ (l : Loan). l.place) c.run-answer.ensures.keeps.loan) c.caller.invariant.seat.sits in
    search (rules, back)
