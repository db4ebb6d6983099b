use Rattle.std.proofs.Common.{ℕ, ◌≤◌, min, List, length, take, refl, ap, arith, ◌∙◌}
use Rattle.std.proofs.lemmas.List.{length-take}
use Rattle.tk_base.specs.declared.kinds.PairKind.TheVariants.{ReadWrite}
use Rattle.process_model.specs.Handed.{held}
use Rattle.process_model.specs.Served.{ram_at, with_written}
use Rattle.tk_base.specs.Bytes.{over}
use Rattle.process_seat.specs.Seen.{own_entered}
use Rattle.console_capsule.proofs.reads.fill_buffer.Goals as goal

fits : (most : ℕ) (xs ring : List ℕ) → length (take (min most (length xs)) ring) ≤ length xs
fits most xs ring = simp length-take (omega arith)

pub returns-clause-own : goal.returns-clause-own
returns-clause-own c =
    let e = c.args.entered.now in
    let own = own_entered e in
    let ring = c.args.uart.now.ring in
    let most = c.args.read.now.length in
    let buffer = held ReadWrite e.driver 1 own in
    let room = ram_at own buffer in
    let bytes = c.read_write.ensures.bytes in
    (c.a_buffer_is_written.ensures ReadWrite 1 e c.fill.new.buffer refl c.requires.lent
    (c.fill.ensures.long ∙ ap length bytes)).own
    ∙ (ap (λ xs. with_written ReadWrite e.driver 1 0 xs own)
    (c.fill.ensures.buffer ∙ ap (λ xs. over xs 0 (take (min most (length xs)) ring)) bytes)
    ∙ (c.buffers_are_whole.ensures.front own buffer (take (min most (length room)) ring) (fits most room ring)
    ∙ (ap (λ n. with_written ReadWrite e.driver 1 0 (take (min most n) ring) own)
    (c.buffers_are_whole.ensures.writable ReadWrite 1 e refl c.requires.lent)
    ∙ ap (λ d. with_written ReadWrite d 1 0 (take (min most (held ReadWrite d 1 own).1) ring) own) c.requires.driver)))
