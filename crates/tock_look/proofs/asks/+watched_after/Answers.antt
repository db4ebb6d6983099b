use Rattle.std.proofs.Common.{◌≡◌, ◌∙◌, ap, not, true}
use Rattle.std.specs.Prelude.{is_ok}
use Rattle.tock_look.proofs.WatchedPlaces.{made, next_place}
use Rattle.tock_look.proofs.asks.+watched_after.Goals as goal

pub returns-else-is_err : goal.returns-else-is_err
returns-else-is_err t c =
    let ok : is_ok c.try_push.result ≡ true = c.is_err.ensures.negation ∙ ap not c.if-is_err.false in
    next_place c.args.places.items _ c.args.numbers.now _ c.in-len3-up.len_at_least (c.try_push.ensures.variant.0 ok)
    (made c.try_push.result ok c.try_push.ensures.ok) c.watched_after.ensures
