use Rattle.std.proofs.Common.{subst, sym, ap, ◌∙◌}
use Rattle.tk_base.specs.declared.kinds.PairKind.TheVariants.{ReadOnly}
use Rattle.process_model.specs.Flash.{flash_byte}
use Rattle.process_model.specs.Served.{bytes_at}
use Rattle.process_layout.specs.Bounds.{bounds_of}
use Rattle.process_seat.specs.Seats.{MayBeRead}
use Rattle.process_seat.specs.Seen.{own_entered}
use Rattle.process_seat.proofs.Buffers.{lies_held, read_is}
use Rattle.process_seat.proofs.entered.Entered.read_only.Goals as goal
use Rattle.process_seat.proofs.entered.Entered.read_only.Goals.{After-held-at}

may : (c : After-held-at) → MayBeRead (bounds_of c.args.self.now.seat.now.layout) c.held-at.result
may c =
    let e = c.args.self.now in
    subst (MayBeRead (bounds_of e.seat.now.layout)) (sym c.held-at.ensures)
    (lies_held e.memory.now e.seat.now c.requires.lent.sits ReadOnly e.driver c.args.n)

pub buffer_at-requires-clause-may : goal.buffer_at-requires-clause-may
buffer_at-requires-clause-may c = may (goal.at.buffer_at-requires-clause-may c).After-held-at

pub returns : goal.returns
returns c =
    let e = c.args.self.now in
    let at = (goal.at.returns c).After-held-at in
    c.buffer_at.ensures
    ∙ read_is e.memory.now e.seat.now c.requires.lent.sits.settled c.held-at.result (may at)
    ∙ ap (bytes_at (flash_byte e.memory.now.flash) (own_entered e)) c.held-at.ensures
