use Rattle.std.proofs.Common.{List, ℕ, ap, sym, subst, ◌∙◌}
use Rattle.process_layout.specs.LayoutView.{LayoutView, first_break}
use Rattle.process_model.specs.Flash.{object_in}
use Rattle.grant_enter.specs.Homes.{own_of}
use Rattle.process_restart.specs.Own.{StartsAs}
use Rattle.process_restart.proofs.Starts.{starts_again}
use Rattle.process_restart.proofs.restart.restart_process.Goals as goal

pub returns-clause-restarted : goal.returns-clause-restarted
returns-clause-restarted c =
    let home = c.args.home.now in
    let p = c.args.process.now in
    let start = subst (λ (f : List ℕ). StartsAs (object_in f p.object) p.object.address c.start_of-start.result)
    c.flash.ensures c.start_of-start.ensures in
    starts_again (object_in home.flash p.object) p c.restart.new.self (own_of home c.args.slot)
    (own_of c.restart-2.new.self c.args.slot) c.start_of-start.result _ c.first_break-brk.result start
    (c.layout.view_is ∙ c.layout-layout.ensures)
    (c.first_break-brk.ensures
    ∙ ap (λ (e : LayoutView). first_break e.start c.start_of-start.result.minimum_ram) (sym c.layout.view_is))
    c.restart.ensures c.restart-2.ensures.own
