use Rattle.std.specs.Prelude.{◌≡◌, ℕ, ◌+◌, ◌-◌, ◌^◌, List, Bool, false, ◌&&◌, ◌==◌, nat_lt}
use Rattle.std.specs.List.{list_any}

-- how many calls and how many faults there were, and the numbers of the calls that are to fail, from 1
pub record CallCounts : Type 0 where
  pub calls : ℕ
  pub failing : List ℕ
  pub faults : ℕ

-- the next call is one of those that are to fail
abbrev pub fails_next : CallCounts → Bool
fails_next s = nat_lt s.calls (2 ^ 64 - 1) && list_any (λ f. f == s.calls + 1) s.failing

-- of the calls that are to fail one comes after so many calls
abbrev pub fails_after : ℕ → List ℕ → Bool
fails_after calls failing = list_any (λ f. nat_lt calls f) failing

-- no failing call is still to come
abbrev pub FailsNoMore : CallCounts → Type 0
FailsNoMore s = fails_after s.calls s.failing ≡ false
