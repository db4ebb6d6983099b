use Rattle.std.proofs.Common.{ℕ, ◌-◌, ◌≤◌, List, length, take, refl, ap, arith, ◌∙◌}
use Rattle.std.specs.Int.{w32, to_le_bytes}
use Rattle.std.proofs.lemmas.List.{length-take}
use Rattle.tk_base.specs.Bytes.{over}
use Rattle.tk_base.specs.declared.kinds.PairKind.TheVariants.{Readable}
use Rattle.process_model.specs.Handed.{held}
use Rattle.process_model.specs.Served.{ram_at, with_written}
use Rattle.process_seat.specs.Seen.{own_entered}
use Rattle.alarm_capsule.proofs.Showing.{front_is_written}
use Rattle.alarm_capsule.proofs.visits.show_clock.Goals as goal

fits : (room bytes : List ℕ) → length (take (length room - 0) bytes) ≤ length room
fits room bytes = simp length-take (omega arith)

pub returns-clause-own : goal.returns-clause-own
returns-clause-own c =
    let e = c.args.entered.now in
    let own = own_entered e in
    let bytes = to_le_bytes w32 c.args.now in
    let buffer = held Readable e.driver 0 own in
    let room = ram_at own buffer in
    let lent = c.readable.result.now in
    let whole = c.buffers_are_whole.ensures.writable Readable 0 e refl c.requires.lent in
    (c.a_buffer_is_written.ensures Readable 0 e c.put_from.new.buffer refl c.requires.lent
    (c.put_from.ensures.long ∙ ap length c.readable.ensures.bytes)).own
    ∙ (ap (λ xs. with_written Readable e.driver 0 0 xs own)
    (c.put_from.ensures.buffer ∙ ap (λ ys. over lent 0 (take (length lent - 0) ys)) c.to_le_bytes.ensures
    ∙ ap (λ xs. over xs 0 (take (length xs - 0) bytes)) c.readable.ensures.bytes)
    ∙ (c.buffers_are_whole.ensures.front own buffer (take (length room - 0) bytes) (fits room bytes)
    ∙ (front_is_written own buffer bytes (length room) whole
    ∙ ap (λ d. with_written Readable d 0 0 bytes own) c.requires.driver)))
