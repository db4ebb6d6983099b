use Rattle.std.proofs.Common.{rules, ap, sym, ◌∙◌, subst}
use Rattle.arrayvec.proofs.ArrayVecLemmas.{filter-from_retain}
use Rattle.driver_requests.specs.Waiting.{OnceEach, without}
use Rattle.driver_requests.proofs.Room.{removed_once}
use Rattle.driver_requests.proofs.waiting.WaitingList.take_out.Goals as goal

pub invariant_of-self : goal.invariant_of-self
invariant_of-self c =
    subst OnceEach (sym (filter-from_retain _ _ _ (λ x b f' y called. search rules) _ _ c.retain.ensures.filtered))
    (removed_once c.args.slot c.self.inside.ids.items c.self.invariant)

pub returns : goal.returns
returns c =
    filter-from_retain _ _ _ (λ x b f' y called. search rules) _ _ c.retain.ensures.filtered
    ∙ ap (without c.args.slot) c.self.view_is
