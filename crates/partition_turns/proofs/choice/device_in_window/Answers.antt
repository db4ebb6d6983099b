use Rattle.std.proofs.Common.{◌∙◌, rules, tests}
use Rattle.std.proofs.lemmas.Iterator.{YieldsList-from_slice}
use Rattle.std.proofs.lemmas.Iterator.Search.{find_from_yields_List}
use Rattle.partition_turns.specs.Lanes.{lanes_shown}
use Rattle.partition_turns.specs.Windows.{device_is_ready, device_order, device_in_window}
use Rattle.partition_turns.proofs.choice.device_in_window.Goals as goal

pub returns : goal.returns
unfolding device_in_window
returns c =
    let is_first = find_from_yields_List (device_is_ready (lanes_shown c.args.lanes.now) c.args.slot) _ _
    c.find.result c.find.ensures.ran (YieldsList-from_slice device_order cc) (λ x b q k. search (rules, tests)) in
    c.copied.ensures ∙ is_first
