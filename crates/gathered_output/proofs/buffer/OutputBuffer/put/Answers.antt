use Rattle.std.proofs.Common.{[], ◌≡◌, rules}
use Rattle.gathered_output.proofs.Composing.{puts_straight}
use Rattle.gathered_output.proofs.buffer.OutputBuffer.put.Goals as goal

pub returns : goal.returns
returns g c =
    let law = c.writes_compose.ensures in
    let flushed = c.in_ok-flush.ensures in
    let none : c.gather-2.new.self ≡ [] = search rules in
    puts_straight _ _ _ _ _ _ _ none (law.all_then_writes _ _ _ (search rules) c.write_to.ensures)
