use Rattle.std.proofs.Common.{◌≡◌, ◌-◌, ◌≤◌, ℕ, List, Some, IfSome, vec_len, length}
use Rattle.std.specs.Io.KnownBytes.{Consumes}
use Rattle.tk_intake.proofs.read_whole.Given as goal

abbrev pub invariant-loop-given : goal.invariant-loop-given
invariant-loop-given g l = record {
  same : (g.H.Shelf.tells l.shelf).bytes ≡ (g.H.Shelf.tells l.fn.shelf).bytes;
  so_far : IfSome ((g.H.Shelf.tells l.fn.shelf).bytes l.name)
      (λ b. Consumes (Some b) (g.H.Shelf.rest l.shelf) l.bytes.items);
  within : vec_len l.bytes ≤ l.limit;
  room : length l.buffer ≡ 4096;
  count : (g.H.Shelf.tells l.fn.shelf).faults ≤ (g.H.Shelf.tells l.shelf).faults;
  sound : (g.H.Shelf.tells l.fn.shelf).is_sound l.name → g.H.Shelf.in_sound l.shelf;
  sound_names : (n : List ℕ) → (g.H.Shelf.tells l.fn.shelf).is_sound n → (g.H.Shelf.tells l.shelf).is_sound n;
}

abbrev pub decreases-loop-given : goal.decreases-loop-given
decreases-loop-given g l = l.limit - vec_len l.bytes
