use Rattle.script_text.proofs.Steps.{dropped_more}
use Rattle.script_text.proofs.text.words_from.Goals as goal

pub loop-preserved : goal.loop-preserved
loop-preserved c = dropped_more _ c.loop.counter c.next.result c.next.ensures.steps c.loop.invariant
