use Rattle.std.proofs.Common.{◌≡◌, ◌+◌, Some, ap, rules, sym, ◌∙◌}
use Rattle.std.specs.Option.{option_map}
use Rattle.board_core.proofs.Ready.{due_by}
use Rattle.board_core.proofs.standard.due_time.Goals as goal

pub returns-in-Some : goal.returns-in-Some
returns-in-Some c =
    let b = c.args.state.now in
    let ticks : c.from.result ≡ c.in-Some.ticks = search rules in
    ap (λ n. Some (b.machine.moment.time + n)) ticks
    ∙ ap (option_map (λ n. b.machine.moment.time + n)) (sym c.in-Some.is)
    ∙ due_by c.requires c.args.slot c.tick-tick.result c.next_due.result c.tick-tick.ensures c.next_due.ensures

pub returns-in-None : goal.returns-in-None
returns-in-None c =
    let b = c.args.state.now in
    ap (option_map (λ n. b.machine.moment.time + n)) (sym c.in-None.is)
    ∙ due_by c.requires c.args.slot c.tick-tick.result c.next_due.result c.tick-tick.ensures c.next_due.ensures
