use Rattle.grant_enter.specs.Homes.{own_of}
use Rattle.driver_requests.proofs.Busy.{is_busy, obeys_busy}
use Rattle.driver_requests.proofs.queue.RequestQueue.ask.Goals as goal

pub returns-then-not-begins : goal.returns-then-not-begins
returns-then-not-begins g c =
    let kind = g.R.Request.request_kind in
    let own = own_of c.args.home.now c.args.id.slot in
    let place = c.owns_lie_in_place.ensures c.args.id.slot c.requires.may.there.slot in
    obeys_busy kind c.args.request c.args.id c.args.self.now c.args.home.now c.enter.new.home
    (is_busy kind c.args.request _ own (own_of c.enter.new.home c.args.id.slot) c.in-Ok.begins
    c.in-Ok.ensures.enters.2 c.if-not-begins.true (λ value seen begun value' own left. left) c.requires.driver
    c.are_counted.ensures.known.driver_is g.met.R.Request.none_at_first place)
    c.enter.ensures.rest
