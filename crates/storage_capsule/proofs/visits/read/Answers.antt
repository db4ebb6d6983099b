use Rattle.std.proofs.Common.{ℕ, ◌≤◌, List, length, refl, ap, subst, ◌∙◌}
use Rattle.tk_base.specs.declared.kinds.PairKind.TheVariants.{ReadWrite}
use Rattle.board_devices.specs.Storage.{bytes_from}
use Rattle.process_model.specs.Handed.{held}
use Rattle.process_model.specs.Served.{with_written}
use Rattle.tk_base.specs.Bytes.{over}
use Rattle.process_seat.specs.Seen.{own_entered}
use Rattle.storage_capsule.proofs.visits.read.Goals as goal

pub returns-clause-own : goal.returns-clause-own
returns-clause-own c =
    let e = c.args.entered.now in
    let own = own_entered e in
    let bs = bytes_from c.args.stores.now c.args.slot c.args.request.now.offset c.fill.result in
    let bytes = c.read_write.ensures.bytes in
    let fits = subst (λ (xs : List ℕ). length bs ≤ length xs) bytes c.fill.ensures.fits in
    (c.a_buffer_is_written.ensures ReadWrite 0 e c.fill.new.buffer refl c.requires.lent
    (c.fill.ensures.long ∙ ap length bytes)).own
    ∙ (ap (λ xs. with_written ReadWrite e.driver 0 0 xs own) (c.fill.ensures.buffer ∙ ap (λ xs. over xs 0 bs) bytes)
    ∙ (c.buffers_are_whole.ensures.front own (held ReadWrite e.driver 0 own) bs fits
    ∙ ap (λ d. with_written ReadWrite d 0 0 bs own) c.requires.driver))
