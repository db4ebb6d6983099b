use Rattle.std.proofs.Common.{ap, sym, ◌∙◌}
use Rattle.process_layout.specs.LayoutView.{LayoutView}
use Rattle.process_layout.specs.Bounds.{bounds_of, permits_break}
use Rattle.process_model.specs.Own.{layout_of}
use Rattle.process_seat.proofs.Breaks.{break_reseats}
use Rattle.process_seat.proofs.Reseated.{own_layout}
use Rattle.kernel_calls.specs.Called.{Called}
use Rattle.kernel_calls.proofs.Lending.{break_owned, still_lent}
use Rattle.kernel_calls.proofs.caller.Caller.set_break.Goals as goal

pub invariant_of-self : goal.invariant_of-self
invariant_of-self c =
    let m = c.self.inside.memory.now in
    let seat = c.self.inside.seat.now in
    record {
      seat = still_lent m seat m (record seat { layout = c.set_break.new.self })
          (break_reseats m seat c.args.new c.set_break.new.self c.set_break.result c.self.invariant.seat.sits
          c.set_break.ensures.answer c.set_break.ensures.moved c.set_break.ensures.refused) c.self.invariant.seat;
      own = break_owned m.flash c.self.inside.process.now m.ram seat c.args.new c.set_break.new.self c.set_break.result
          c.set_break.ensures.moved c.set_break.ensures.refused c.self.invariant.own;
    }

pub returns-clause-answer : goal.returns-clause-answer
returns-clause-answer c =
    c.set_break.ensures.answer
    ∙ ap (λ (e : LayoutView). permits_break (bounds_of e) e.kernel_break c.args.new)
    (sym (own_layout c.self.inside.memory.now c.self.inside.seat.now c.self.invariant.seat.sits)
    ∙ ap (λ (k : Called). layout_of k.own) c.self.view_is)
