use Rattle.std.proofs.Common.{◌≡◌, ◌<◌, ℕ, None, sym, ap, subst, ◌∙◌}
use Rattle.partition_turns.specs.Lanes.{lanes_shown}
use Rattle.partition_turns.specs.Windows.{device_in_window, passes_to, window_slot}
use Rattle.partition_turns.proofs.Passing.{passes_ahead}
use Rattle.partition_turns.proofs.choice.next_in_window.Goals as goal

pub pass_in-requires-clause-ahead : goal.pass_in-requires-clause-ahead
pass_in-requires-clause-ahead c =
    let l = lanes_shown c.args.lanes.now in
    let slot = c.window_slot-slot.ensures in
    let none : device_in_window l (window_slot l.time l.n) ≡ None =
    ap (device_in_window l) (sym slot) ∙ sym c.device_in_window.ensures ∙ c.in_default.is in
    subst (λ (s : ℕ). l.time < passes_to l s) (sym slot) (passes_ahead l c.requires.some c.requires.ahead none)
