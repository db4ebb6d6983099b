use Rattle.std.proofs.Common.{Option, List, ℕ, inl, subst, sym}
use Rattle.kernel_model.specs.World.{World}
use Rattle.tool_tasks.specs.Comes.{Task, Listing, Making}
use Rattle.tool_tasks.specs.declared.prepare.Ready.{Ready}
use Rattle.tool_tasks.specs.Ready.{task_of}
use Rattle.tool_answers.specs.Parts.{TaskIs}
use Rattle.tool_answers.specs.Served.{sink_account}
use Rattle.tock_cli.proofs.serve.finish.Goals as goal

pub returns-in-List : goal.returns-in-List
returns-in-List g c =
    let sent = sink_account g.K.Sink.tells c.args.out.now c.finish_list.new.out in
    let Is = λ (task : Task) (last : Option World). TaskIs sent task last c.finish_list.result in
    let listed = subst (λ (flash : List ℕ). Is (Listing flash) _) c.deref.ensures.value c.finish_list.ensures in
    let left = subst (λ (last : Option World). Is (Listing c.in-List.flash.items) last) (sym c.requires.none) listed in
    inl (subst (λ (ready : Ready). Is (task_of ready) c.args.last.now) (sym c.in-List.is) left)

pub returns-in-Image : goal.returns-in-Image
returns-in-Image g c =
    let sent = sink_account g.K.Sink.tells c.args.out.now c.finish_image.new.out in
    let Is = λ (task : Task) (last : Option World). TaskIs sent task last c.finish_image.result in
    let made = subst (λ (flash : List ℕ). Is (Making flash) _) c.deref-in-Image.ensures.value c.finish_image.ensures in
    let left = subst (λ (last : Option World). Is (Making c.in-Image.flash.items) last) (sym c.requires.none) made in
    inl (subst (λ (ready : Ready). Is (task_of ready) c.args.last.now) (sym c.in-Image.is) left)
