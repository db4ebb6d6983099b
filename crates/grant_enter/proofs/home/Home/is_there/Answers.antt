use Rattle.std.proofs.Common.{◌≡◌, ◌==◌, ◌&&◌, Bool, slice_get, sym, ap, ◌∙◌}
use Rattle.grant_enter.specs.Homes.{is_life}
use Rattle.grant_enter.proofs.Living.{is_life_found, is_life_none}
use Rattle.grant_enter.proofs.home.Home.is_there.Goals as goal
use Rattle.grant_enter.proofs.home.Home.is_there.Goals.{In-Some}

-- what is found there tells of its process
found : (c : In-Some)
    → (c.in-Some.seat.now.lives && c.in-Some.seat.now.life == c.args.id.now.life)
    ≡ is_life c.args.id.now.life (slice_get c.args.self.now.owns c.args.id.now.slot)
found c =
    let l = c.in-Some.ensures.lookup in
    is_life_found c.self.inside c.args.self.now c.args.id.now.slot c.index.result c.self.view_is c.index.ensures.value
    c.deref.result.now c.deref.ensures.value c.args.id.now.life c.in-Some.seat.now l.0 l.1

pub returns-then-seat : goal.returns-then-seat
returns-then-seat c =
    ap (λ (b : Bool). b && c.in-Some.seat.now.life == c.args.id.now.life) (sym c.if-seat.true)
    ∙ found (goal.at.returns-then-seat c).In-Some

pub returns-else-seat : goal.returns-else-seat
returns-else-seat c =
    c.if-seat.false
    ∙ ap (λ (b : Bool). b && c.in-Some.seat.now.life == c.args.id.now.life) (sym c.if-seat.false)
    ∙ found (goal.at.returns-else-seat c).In-Some

pub returns-in-None : goal.returns-in-None
returns-in-None c =
    is_life_none c.self.inside c.args.self.now c.args.id.now.slot c.index.result c.self.view_is c.index.ensures.value
    c.deref.result.now c.deref.ensures.value c.args.id.now.life c.in-None.ensures.lookup.3
