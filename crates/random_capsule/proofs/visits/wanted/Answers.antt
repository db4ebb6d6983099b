use Rattle.std.proofs.Common.{length, refl, ap, ◌∙◌}
use Rattle.tk_base.specs.declared.kinds.PairKind.TheVariants.{ReadWrite}
use Rattle.process_model.specs.Handed.{held}
use Rattle.process_model.specs.Served.{with_written}
use Rattle.process_seat.specs.Seen.{own_entered}
use Rattle.random_capsule.proofs.visits.wanted.Goals as goal

pub returns-clause-own : goal.returns-clause-own
returns-clause-own c =
    let e = c.args.entered.now in
    let own = own_entered e in
    let bytes = c.read_write-length.ensures.bytes in
    (c.a_buffer_is_written.ensures ReadWrite 0 e c.read_write-length.result.now refl c.requires.lent
    (ap length bytes)).own
    ∙ (ap (λ bs. with_written ReadWrite e.driver 0 0 bs own) bytes
    ∙ c.buffers_are_whole.ensures.same own (held ReadWrite e.driver 0 own))
