use Rattle.std.proofs.Common.{◌≡◌, ◌<◌, ◌≤◌, ℕ, true, false, length, slice_index_or, rules}
use Rattle.std.proofs.Common.{arith}
use Rattle.board_turns.proofs.Counted.{at_most_all, one_less_set, one_more_set}
use Rattle.board_turns.proofs.ready_slots.ReadySlots.note.Goals as goal

pub overflow_add-self : goal.overflow_add-self
overflow_add-self c =
    let flags = c.self.inside.ready in
    let few : length flags ≤ 16 = search rules in
    omega (arith, few, at_most_all flags, c.self.invariant)

pub invariant_of-self : goal.invariant_of-self
invariant_of-self c =
    let flags = c.self.inside.ready in
    let place : ℕ = c.index-place.result in
    let was : slice_index_or flags place false ≡ false = search rules in
    let there : place < length flags = search rules in
    let can : c.args.can ≡ true = search rules in
    rw can (omega (arith, c.self.invariant, one_more_set flags place there was))

pub overflow_sub-self : goal.overflow_sub-self
overflow_sub-self c =
    let flags = c.self.inside.ready in
    let place : ℕ = c.index-place.result in
    let was : slice_index_or flags place false ≡ true = search rules in
    omega (arith, one_less_set flags place was, c.self.invariant)

pub invariant_of-self-else-can : goal.invariant_of-self-else-can
invariant_of-self-else-can c =
    let flags = c.self.inside.ready in
    let place : ℕ = c.index-place.result in
    let was : slice_index_or flags place false ≡ true = search rules in
    let can : c.args.can ≡ false = search rules in
    rw can (omega (arith, c.self.invariant, one_less_set flags place was))
