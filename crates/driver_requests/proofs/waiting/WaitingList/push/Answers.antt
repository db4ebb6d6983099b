use Rattle.std.proofs.Common.{rules, ap, sym, ◌∙◌, subst}
use Rattle.driver_requests.specs.Waiting.{OnceEach, waits}
use Rattle.driver_requests.proofs.Room.{has_room, pushed_once}
use Rattle.driver_requests.proofs.waiting.WaitingList.push.Goals as goal

pub push-requires : goal.push-requires
push-requires c = (
  search rules,
  has_room c.self.inside.ids.items c.args.id c.self.invariant (search rules)
      (ap (waits c.args.id.slot) c.self.view_is ∙ c.requires),
)

pub invariant_of-self : goal.invariant_of-self
invariant_of-self c =
    subst OnceEach (sym c.push.ensures.items)
    (pushed_once c.self.inside.ids.items c.args.id c.self.invariant (search rules)
    (ap (waits c.args.id.slot) c.self.view_is ∙ c.requires))
