use Rattle.std.proofs.Common.{◌≡◌, ℕ, subst, sym, ap, ◌∙◌, rules}
use Rattle.process_seat.specs.Buffers.{buffer_held, buffer_start, last_of}
use Rattle.process_layout.specs.Bounds.{bounds_of}
use Rattle.process_seat.specs.Seats.{LiesBelowMark}
use Rattle.process_seat.proofs.Buffers.{EndsAt, below_held, ends_at, small}
use Rattle.process_seat.proofs.entered.Entered.ends.Goals as goal
use Rattle.process_seat.proofs.entered.Entered.ends.Goals.{After-held-buffer}

lies : (c : After-held-buffer)
    → LiesBelowMark (bounds_of c.args.self.now.seat.now.layout) (buffer_held c.args.kind c.args.n c.args.self.now)
lies c = let e = c.args.self.now in
    below_held e.memory.now e.seat.now c.requires.lent.sits c.args.kind e.driver c.args.n c.requires.writable

pub ends_of-requires : goal.ends_of-requires
ends_of-requires c =
    let at = (goal.at.ends_of-requires c).After-held-buffer in
    let e = c.args.self.now in
    small e.memory.now e.seat.now c.requires.lent.sits.settled c.held-buffer.result
    (subst (LiesBelowMark (bounds_of e.seat.now.layout)) (sym c.held-buffer.ensures) (lies at)) (search rules)

pub returns : goal.returns
returns c =
    let at = (goal.at.returns c).After-held-buffer in
    let m = c.args.self.now.memory.now in
    let seat = c.args.self.now.seat.now in
    let buffer = buffer_held c.args.kind c.args.n c.args.self.now in
    let is : c.ends_of.result ≡ (buffer_start seat.layout buffer, last_of seat.layout buffer) =
    c.ends_of.ensures ∙ ap (λ (b : ℕ × ℕ). (buffer_start seat.layout b, last_of seat.layout b)) c.held-buffer.ensures in
    let e : EndsAt m seat c.requires.lent.sits.settled buffer c.ends_of.result.0 c.ends_of.result.1 =
    subst (λ (x : ℕ × ℕ). EndsAt m seat c.requires.lent.sits.settled buffer x.0 x.1) (sym is)
    (ends_at m seat c.requires.lent.sits.settled buffer (lies at)) in
    record { ends = is; from = e.from_low; order = e.order; to = e.to_high; bytes = e.bytes }
