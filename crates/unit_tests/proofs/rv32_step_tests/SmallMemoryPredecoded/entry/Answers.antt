use Rattle.std.proofs.Common.{◌≡◌, ℕ, ◌+◌, ◌*◌, slice_index, subst, arith}
use Rattle.rv32_entries.specs.Fetched.{TellsFetched}
use Rattle.unit_tests.specs.SmallMemory.{small_denies}
use Rattle.unit_tests.proofs.SmallMemory.{below, is_known}
use Rattle.unit_tests.proofs.rv32_step_tests.SmallMemoryPredecoded.entry.Goals as goal

pub returns-clause-tells : goal.returns-clause-tells
returns-clause-tells c =
    let lies = below c.args.self.now.is_known c.args.place c.requires in
    let reach = c.reach.ensures in
    let from = c.from.ensures in
    let fits = c.if-from-place.false in
    let entry = c.entry_in-entry.result in
    let bytes = c.args.self.now.bytes in
    let first : 2 * c.args.place ≡ 0 + 2 * c.args.place = omega (arith) in
    subst (λ (at : ℕ). TellsFetched small_denies (slice_index bytes) at entry) first
    (is_known bytes c.args.place entry c.entry_in-entry.ensures (omega (arith, lies, reach, from, fits)))
