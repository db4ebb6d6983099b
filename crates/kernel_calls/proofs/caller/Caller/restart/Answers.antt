use Rattle.std.proofs.Common.{ℕ, List, ap, sym, subst, ◌∙◌}
use Rattle.process_model.specs.Flash.{object_in}
use Rattle.process_model.specs.Own.{own_restarted}
use Rattle.process_layout.specs.LayoutView.{LayoutView, first_break}
use Rattle.process_restart.specs.Own.{StartsAs}
use Rattle.process_restart.proofs.Starts.{starts_again as starts}
use Rattle.process_seat.proofs.Reseated.{own_layout}
use Rattle.process_seat.specs.Seats.{own_in}
use Rattle.kernel_model.specs.Calls.{restart}
use Rattle.kernel_calls.specs.Own.{record_in}
use Rattle.kernel_calls.specs.Called.{Called, record_of}
use Rattle.kernel_calls.proofs.Lending.{shows_both}
use Rattle.kernel_calls.proofs.Starts.{keeps_restarted, starts_again}
use Rattle.kernel_calls.proofs.caller.Caller.restart.Goals as goal

pub returns-clause-restarted : goal.returns-clause-restarted
returns-clause-restarted c = λ beside.
    let m = c.self.inside.memory.now in
    let seat = c.self.inside.seat.now in
    let p = c.self.inside.process.now in
    let q = c.restart.new.self in
    let after = own_in c.restart_seat.new.memory.ram c.restart_seat.new.seat in
    let start = subst (λ (f : List ℕ). StartsAs (object_in f p.object) p.object.address c.start_of-start.result)
    c.flash.ensures c.start_of-start.ensures in
    ap (λ (f : List ℕ). record_in f q after beside) c.restart_seat.ensures.reseats.flash
    ∙ starts_again m.flash p q (own_in m.ram seat) after beside
    (starts (object_in m.flash p.object) p q (own_in m.ram seat) after c.start_of-start.result _
    c.first_break-brk.result start (c.layout.view_is ∙ sym (own_layout m seat c.self.invariant.seat.sits))
    (c.first_break-brk.ensures
    ∙ ap (λ (e : LayoutView). first_break e.start c.start_of-start.result.minimum_ram) (sym c.layout.view_is))
    c.restart.ensures c.restart_seat.ensures.own)
    ∙ ap (λ (o : Called). restart (record_of o beside)) c.self.view_is

pub returns-clause-keeps : goal.returns-clause-keeps
returns-clause-keeps c =
    let q = c.restart.new.self in
    let brk = c.first_break-brk.result in
    keeps_restarted c.args.self.now _ c.self.inside.process.now q _ brk
    (ap (λ (o : Called). o.process) c.self.view_is) c.restart.ensures
    (shows_both c.self.inside c.args.self.now c.restart_seat.new.memory c.restart_seat.new.seat q (own_restarted brk)
    c.self.view_is c.restart_seat.ensures.reseats c.restart_seat.ensures.own)
