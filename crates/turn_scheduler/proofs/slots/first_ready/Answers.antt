use Rattle.std.proofs.Common.{sym, ap, ◌∙◌}
use Rattle.turn_scheduler.specs.Parts.{place_is_ready}
use Rattle.partition_turns.proofs.Found.{find-pass}
use Rattle.turn_scheduler.proofs.slots.first_ready.Goals as goal

pub loop-slot-preserved : goal.loop-slot-preserved
loop-slot-preserved g c =
    find-pass (place_is_ready (g.S.Situated.situation c.args.situated.now).ready) c.loop-slot.slot c.args.to
    c.loop-slot-test.true
    (ap (place_is_ready (g.S.Situated.situation c.args.situated.now).ready) (sym c.new.ensures)
    ∙ sym c.slot_is_ready.ensures ∙ c.if-slot_is_ready.false) ∙ c.loop-slot.invariant
