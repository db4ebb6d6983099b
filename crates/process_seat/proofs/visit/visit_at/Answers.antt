-- A visitor is run on a value that stands at a place. What was read there is the value in the grant (`IsValue`), the
-- visitor is run on it and on what is lent, and what it leaves is put at the same place; `Keeping` makes the own and
-- the seat of these two steps.
use Rattle.std.proofs.Common.{◌≡◌, ℕ, List, length, take, drop, sym, ap, subst, ◌∙◌, arith}
use Rattle.grant_values.specs.Values.{value_by, value_told}
use Rattle.grant_values.specs.Words.{words_of}
use Rattle.grant_model.specs.Encoding.{CanBeKept}
use Rattle.grant_model.specs.Laws.{IsValue}
use Rattle.board_memory.specs.Memory.{MemoryBytes}
use Rattle.process_seat.specs.Seats.{Reseats, kernel_in, own_in}
use Rattle.process_seat.specs.Seen.{IsLentTo}
use Rattle.process_seat.specs.Visits.{Visited, found_in, grants_of}
use Rattle.process_seat.proofs.Keeping.{asks_by, can_be_kept, size_of, told_is, value_again, visited_by, visit_reseats}
use Rattle.process_seat.proofs.Outcomes.{visit_by}
use Rattle.process_seat.proofs.visit.visit_at.Goals as goal
use Rattle.process_seat.proofs.visit.visit_at.Given.{Over}
use Rattle.process_seat.proofs.visit.visit_at.Goals.{After-kernel_of, After-value_at-value}
use Rattle.process_seat.proofs.visit.visit_at.Goals.{After-keep_value}

pub value_at-value-requires : goal.value_at-value-requires
value_at-value-requires g c =
    let size = size_of g.T.GrantValue.driver c.args.place.driver g.T.GrantValue.SIZE g.T.GrantValue.count
    c.args.place.counts c.requires.counted g.met.T.GrantValue.whole in
    omega (
      arith,
      c.requires.stands.within,
      size,
      ap length c.kernel_of.ensures.bytes,
    )

lent : (g : Over) (c : After-kernel_of
    g) → IsLentTo c.args.place.driver c.args.place.counts c.args.memory.now c.args.seat.now
lent g c = record { sits = c.requires.sits; counts_are = c.requires.counted.counts_are }

stands : (g : Over) (c : After-kernel_of g)
    → IsValue (kernel_in c.args.memory.now.ram
    c.args.seat.now.layout) c.args.place.at g.T.GrantValue.SIZE c.args.place.driver
stands g c =
    subst (λ (n : ℕ). IsValue (kernel_in c.args.memory.now.ram c.args.seat.now.layout) c.args.place.at n
    c.args.place.driver)
    (size_of g.T.GrantValue.driver c.args.place.driver g.T.GrantValue.SIZE g.T.GrantValue.count c.args.place.counts
    c.requires.counted g.met.T.GrantValue.whole)
    c.requires.stands

is : (g : Over) (c : After-value_at-value g)
    → g.T.GrantValue.kept c.value_at-value.result
    ≡ value_told c.args.place.driver (words_of (take g.T.GrantValue.SIZE
    (drop c.args.place.at (kernel_in c.args.memory.now.ram c.args.seat.now.layout))))
is g c =
    let words = words_of (take g.T.GrantValue.SIZE
    (drop c.args.place.at (kernel_in c.args.memory.now.ram c.args.seat.now.layout))) in
    c.value_at-value.ensures
    ∙ ap (λ (xs : List ℕ). value_by (words_of (take g.T.GrantValue.SIZE (drop c.args.place.at xs)))
    g.T.GrantValue.driver)
    c.kernel_of.ensures.bytes
    ∙ sym (told_is g.T.GrantValue.driver c.args.place.driver words c.requires.counted.driver_is)

can : (g : Over) (c : After-keep_value g)
    → CanBeKept c.args.place.driver (g.T.GrantValue.kept c.run_visit-answer.new.value)
can g c =
    let k = c.keep_value.ensures in
    can_be_kept g.T.GrantValue.driver c.args.place.driver g.T.GrantValue.SIZE g.T.GrantValue.count c.args.place.counts
    c.requires.counted g.met.T.GrantValue.whole (g.T.GrantValue.kept c.run_visit-answer.new.value) k.size k.fits k.back

pub run_visit-answer-requires-clause-asks : goal.run_visit-answer-requires-clause-asks
run_visit-answer-requires-clause-asks g c =
    let at = goal.at.run_visit-answer-requires-clause-asks g c in
    asks_by (visit_by (grants_of c.args.place.driver c.args.place.counts) g.T.GrantValue.kept c.args.visitor
    g.V.Visit.leaves) c.args.memory.now c.args.seat.now (lent g at.After-kernel_of) c.args.place.at g.T.GrantValue.SIZE
    (stands g at.After-kernel_of) c.value_at-value.result (is g at.After-value_at-value)
    (g.V.Visit.asks c.args.visitor) c.requires.asks

pub keep_value-requires-clause-within : goal.keep_value-requires-clause-within
keep_value-requires-clause-within g c =
    let at = goal.at.keep_value-requires-clause-within g c in
    (value_again c.args.place.driver c.args.place.counts c.args.memory.now c.args.seat.now (lent g at.After-kernel_of)
    c.args.place.at g.T.GrantValue.SIZE (stands g at.After-kernel_of) c.run_visit-answer.new.memory
    c.run_visit-answer.new.seat c.run_visit-answer.ensures.serves).within

pub returns-clause-visited : goal.returns-clause-visited
returns-clause-visited g c =
    let at = goal.at.returns-clause-visited g c in
    let r = c.run_visit-answer in
    let k = c.keep_value.ensures in
    let visit = visit_by (grants_of c.args.place.driver c.args.place.counts) g.T.GrantValue.kept c.args.visitor
    g.V.Visit.leaves in
    subst (λ (x : MemoryBytes). Visited visit (found_in c.args.memory.now c.args.seat.now) r.result
    (own_in x.ram r.new.seat)) (sym k.kept)
    (visited_by visit c.args.memory.now c.args.seat.now (lent g at.After-kernel_of) c.args.place.at
    g.T.GrantValue.SIZE (stands g at.After-kernel_of) c.value_at-value.result (is g at.After-value_at-value)
    r.new.memory r.new.seat r.ensures.serves r.new.value (can g at.After-keep_value) k.long r.result r.ensures.left)

pub returns-clause-reseats : goal.returns-clause-reseats
returns-clause-reseats g c =
    let at = goal.at.returns-clause-reseats g c in
    let r = c.run_visit-answer in
    let k = c.keep_value.ensures in
    subst (λ (x : MemoryBytes). Reseats c.args.memory.now c.args.seat.now x r.new.seat) (sym k.kept)
    (visit_reseats (visit_by (grants_of c.args.place.driver c.args.place.counts) g.T.GrantValue.kept c.args.visitor
    g.V.Visit.leaves) c.args.memory.now c.args.seat.now (lent g at.After-kernel_of) c.args.place.at g.T.GrantValue.SIZE
    (stands g at.After-kernel_of) c.value_at-value.result (is g at.After-value_at-value) r.new.memory r.new.seat
    r.ensures.serves r.new.value (can g at.After-keep_value) k.long)
