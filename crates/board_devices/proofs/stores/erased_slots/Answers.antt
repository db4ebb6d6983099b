use Rattle.std.proofs.Common.{◌≡◌, ℕ, [], ◌∷◌, ◌++◌, ap, ◌∙◌, replicate, rules, arith}
use Rattle.tk_base.specs.declared.limits.TheConstants.{SLOT_COUNT}
use Rattle.board_devices.proofs.Copies.{replicate-push}
use Rattle.board_devices.proofs.stores.erased_slots.Goals as goal

pub loop-init : goal.loop-init
loop-init c = search rules

pub loop-preserved : goal.loop-preserved
loop-preserved c =
    let erased = replicate c.args.size 255 in
    let more : c.push.new.self.items ≡ replicate c.loop.counter erased ++ erased ∷ [] =
    cc (c.in_ok-push.ensures.items, c.in_ok-new.ensures) in
    more ∙ replicate-push c.loop.counter erased

pub returns : goal.returns
returns c =
    let all : c.loop.counter ≡ SLOT_COUNT = omega arith in
    c.loop.invariant ∙ ap (λ (n : ℕ). replicate n (replicate c.args.size 255)) all
