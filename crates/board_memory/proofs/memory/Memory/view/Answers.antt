-- What memory keeps besides its bytes: the entries are those of flash as before, and of the windows those of one slot
-- alone were set, to windows that fit (`All-set`). What is written to RAM through the view leaves its length, and no
-- more of it do windows rest on.
use Rattle.std.proofs.Common.{◌≡◌, ℕ, List, ◌++◌, take, drop, length, length-append, arith, rules, sym, subst, ◌∙◌}
use Rattle.std.proofs.lemmas.List.{length-drop, length-take-le}
use Rattle.std.proofs.lemmas.List.Elements.{All-set}
use Rattle.std.specs.Prelude.{All, slice_set}
use Rattle.board_memory.specs.declared.windows.Windows.{Windows}
use Rattle.board_memory.specs.Windows.{AreWindows}
use Rattle.board_memory.proofs.memory.Memory.view.Goals as goal

pub invariant_of-self-lent : goal.invariant_of-self-lent
invariant_of-self-lent c = λ w.
    let m = c.self.inside in
    let bytes = w ++ drop (length w) m.ram.items in
    let count : m.ram.len ≡ length m.ram.items = search rules in
    let all = length-append w (drop (length w) m.ram.items) in
    let rest = length-drop (length w) m.ram.items in
    let long : length m.ram.items ≡ length (take m.ram.len bytes) =
    sym count ∙ sym (length-take-le m.ram.len bytes (omega (arith, count, all, rest))) in
    let windows : List Windows = slice_set m.windows c.index-place.result c.follow.new.self in
    let found : AreWindows m.flash.items m.entries.items (length m.ram.items) c.follow.new.self = search rules in
    let set : All (AreWindows m.flash.items m.entries.items (length m.ram.items)) windows =
    All-set (AreWindows m.flash.items m.entries.items (length m.ram.items)) _ _ _ found c.self.invariant.1 in
    (c.self.invariant.0, subst (λ (n : ℕ). All (AreWindows m.flash.items m.entries.items n) windows) long set)
