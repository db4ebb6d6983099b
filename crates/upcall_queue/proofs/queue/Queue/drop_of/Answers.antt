use Rattle.std.proofs.Common.{rules, ap, ◌∙◌}
use Rattle.arrayvec.proofs.ArrayVecLemmas.{filter-from_retain}
use Rattle.upcall_queue.specs.Pending.{without_key}
use Rattle.upcall_queue.proofs.queue.Queue.drop_of.Goals as goal

pub returns : goal.returns
returns c =
    filter-from_retain _ _ _ (λ x b f' y called. search rules) _ _ c.retain.ensures.filtered
    ∙ ap (without_key c.args.driver c.args.number) c.self.view_is
