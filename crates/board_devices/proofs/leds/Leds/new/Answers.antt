use Rattle.std.proofs.Common.{List, Bool, false, ap, take, ◌∙◌}
use Rattle.std.proofs.lemmas.List.{take-replicate}
use Rattle.board_devices.proofs.leds.Leds.new.Goals as goal

pub returns : goal.returns
returns c =
    c.truncate.ensures.items
    ∙ ap (λ (lit : List Bool). take c.args.n lit) c.from-lit.ensures.0
    ∙ take-replicate c.args.n 16 false c.requires
