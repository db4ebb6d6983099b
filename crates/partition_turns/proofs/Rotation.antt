-- Windows follow one another.
use Rattle.std.proofs.Common.{◌≡◌, ℕ, ◌+◌, ◌*◌, ◌/◌, ◌%◌, ◌<◌, ◌≤◌, ap, ◌∙◌, arith}
use Rattle.std.proofs.Math.Nat.{div-mul-le_self, lt-div-mul-add, mul-div_cancel}
use Rattle.std.proofs.lemmas.Nat.{div_below, le-div}
use Rattle.tk_base.specs.declared.limits.TheConstants.{SLOT_COUNT}
use Rattle.partition_turns.specs.Windows.{window_end}
use Rattle.partition_turns.specs.Laws.{WindowsAreInTurn}

-- a window's end lies ahead, by the ticks of a window at most
pub end_is_ahead : (time n : ℕ) → 1 ≤ n → time < (time / n + 1) * n
end_is_ahead time n some =
    let more : time < time / n * n + n = lt-div-mul-add some in
    let split : (time / n + 1) * n ≡ time / n * n + n = grind arith in
    omega (arith, more, split)

pub end_is_near : (time n : ℕ) → 1 ≤ n → (time / n + 1) * n ≤ time + n
end_is_near time n some =
    let least : time / n * n ≤ time = div-mul-le_self time n in
    let split : (time / n + 1) * n ≡ time / n * n + n = grind arith in
    omega (arith, least, split)

-- up to there it is the same window
same_window : (time n t : ℕ) → 1 ≤ n → time ≤ t → t < window_end time n → t / n ≡ time / n
same_window time n t some from below =
    let least : time / n ≤ t / n = le-div (time / n) t n some (omega (arith, div-mul-le_self time n, from)) in
    let most : t / n < time / n + 1 = div_below t n (time / n + 1) some below in
    omega (arith, least, most)

next_window : (time n : ℕ) → 1 ≤ n → window_end time n / n ≡ time / n + 1
next_window time n some = mul-div_cancel (time / n + 1) some

turned : (q : ℕ) → (q + 1) % SLOT_COUNT ≡ (q % SLOT_COUNT + 1) % SLOT_COUNT
turned q = omega arith

pub windows_are_in_turn : WindowsAreInTurn
windows_are_in_turn time n some =
    let after = next_window time n some in
    let whole : (time / n + 1 + 1) * n ≡ (time / n + 1) * n + n = grind arith in
    record {
      ahead = end_is_ahead time n some;
      near = end_is_near time n some;
      slot_lasts = λ t from below. ap (λ (q : ℕ). q % SLOT_COUNT) (same_window time n t some from below);
      end_lasts = λ t from below. ap (λ (q : ℕ). (q + 1) * n) (same_window time n t some from below);
      slot_after = ap (λ (q : ℕ). q % SLOT_COUNT) after ∙ turned (time / n);
      end_after = ap (λ (q : ℕ). (q + 1) * n) after ∙ whole;
    }
