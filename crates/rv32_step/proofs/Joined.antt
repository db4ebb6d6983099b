-- Turns that go after others that went.
use Rattle.std.proofs.Common.{◌≡◌, ◌≢◌, ◌≤◌, ◌<◌, ◌+◌, ◌-◌, ℕ, zero, suc, Bool, true, false, not, Option, None, Some}
use Rattle.std.proofs.Common.{refl, sym, ap, subst, ◌∙◌, arith}
use Rattle.std.proofs.lemmas.Bool.{false≢true}
use Rattle.tk_base.specs.declared.access.Denial.{Denial}
use Rattle.tk_base.specs.Regs.{Registers}
use Rattle.rv32_model.specs.Laws.{Denies}
use Rattle.rv32_model.specs.declared.turn_end.TurnEnd.{TurnEnd}
use Rattle.rv32_model.specs.declared.turn_end.TurnEnd.TheVariants.{Went, Call, Trap}
use Rattle.rv32_model.specs.UserTurn.{user_turn, bytes_after}
use Rattle.rv32_model.specs.Stretch.{Goes, NoneGoes, OneMoreGoes, StoppedTurnsChangeNothing}
use Rattle.rv32_step.specs.Executed.{LeavesTurn, at_pc, turn_end_of}

joined : (denies : Denies) (k n : ℕ) (regs later last : Registers) (bytes left rest : ℕ → ℕ)
    → Goes denies k regs bytes later left → Goes denies n later left last rest
    → Goes denies (k + n) regs bytes last rest
unfolding Goes
joined denies zero n regs later last bytes left rest here there =
    let no : n ≡ zero + n = omega (arith) in
    subst (λ (m : ℕ). Goes denies m regs bytes last rest) no
    (subst (λ (r : Registers). Goes denies n r bytes last rest) here.0
    (subst (λ (b : ℕ → ℕ). Goes denies n later b last rest) here.1 there))
joined denies (suc k) n regs later last bytes left rest here there =
    let more : suc (k + n) ≡ suc k + n = omega (arith) in
    subst (λ (m : ℕ). Goes denies m regs bytes last rest) more (
      here.0,
      joined denies k n (user_turn denies bytes regs).regs later last
          (bytes_after denies bytes regs) left rest here.1 there,
    )

abbrev is_went : TurnEnd → Bool
is_went Went = true
is_went Call = false
is_went (Trap denial) = false

did : (went : Bool) → not went ≡ false → went ≡ true
did true e = refl
did false e = sym e

did_not : (went : Bool) → not went ≡ true → went ≡ false
did_not true e = sym e
did_not false e = refl

-- no turn was made yet, and pc stands apart from the registers
pub none_yet : NoneGoes → (denies : Denies) (regs : Registers) (bytes : ℕ → ℕ) (most pc : ℕ) → pc ≡ regs.pc
    → Goes denies (most - most) regs bytes (at_pc regs pc) bytes
none_yet none denies regs bytes most pc e =
    let no : 0 ≡ most - most = omega (arith) in
    subst (λ (n : ℕ). Goes denies n regs bytes (at_pc regs pc) bytes) no
    (subst (λ (r : Registers). Goes denies 0 regs bytes r bytes) (sym (ap (at_pc regs) e)) (none denies regs bytes))

module _ (denies now : Denies) (most left : ℕ) (regs later : Registers) (bytes kept : ℕ → ℕ) (same : now ≡ denies)
    (few : left ≤ most) (goes : Goes denies (most - left) regs bytes later kept) where
  -- some more went
  pub went_on : (less : ℕ) (last : Registers) (rest : ℕ → ℕ) → less ≤ left → Goes now (left - less) later kept last rest
      → Goes denies (most - less) regs bytes last rest
  went_on less last rest fewer more =
      let all : (most - left) + (left - less) ≡ most - less = omega (arith, few, fewer) in
      subst (λ (n : ℕ). Goes denies n regs bytes last rest) all
      (joined denies (most - left) (left - less) regs later last bytes kept rest goes
      (subst (λ (d : Denies). Goes d (left - less) later kept last rest) same more))

  -- one more went
  pub one_more : OneMoreGoes → (last : Registers) (rest : ℕ → ℕ) (went : Bool) (denial : Option Denial) → 0 < left
      → LeavesTurn (user_turn now kept later) kept last rest (turn_end_of went denial) → not went ≡ false
      → Goes denies (most - (left - 1)) regs bytes last rest
  one_more law last rest went denial some leaves goes_on =
      let turn = subst
      (λ (d : Denies). LeavesTurn (user_turn d kept later) kept last rest (turn_end_of went denial)) same leaves in
      let end = ap (λ (w : Bool). turn_end_of w denial) (sym (did went goes_on)) ∙ turn.end in
      subst (λ (r : Registers). Goes denies (most - (left - 1)) regs bytes r rest) (sym turn.regs)
      (subst (λ (b : ℕ → ℕ). Goes denies (most - (left - 1)) regs bytes (user_turn denies kept later).regs b)
      (sym turn.bytes)
      (law denies (most - left) (most - (left - 1)) regs later bytes kept (omega (arith, some, few)) goes (sym end)))

  -- one did not go
  pub none_more : StoppedTurnsChangeNothing → (last : Registers) (rest : ℕ → ℕ) (went : Bool) (denial : Option Denial)
      → LeavesTurn (user_turn now kept later) kept last rest (turn_end_of went denial) → not went ≡ true
      → Goes denies (most - left) regs bytes last rest
  none_more law last rest went denial leaves stops =
      let turn = subst
      (λ (d : Denies). LeavesTurn (user_turn d kept later) kept last rest (turn_end_of went denial)) same leaves in
      let end = ap (λ (w : Bool). turn_end_of w denial) (sym (did_not went stops)) ∙ turn.end in
      let still = law denies kept later (λ (e : (user_turn denies kept later).end ≡ Went). stopped denial (end ∙ e)) in
      subst (λ (r : Registers). Goes denies (most - left) regs bytes r rest) (sym (turn.regs ∙ still.0))
      (subst (λ (b : ℕ → ℕ). Goes denies (most - left) regs bytes later b) (sym (turn.bytes ∙ still.1)) goes)
    where
      stopped : (denial : Option Denial) → turn_end_of false denial ≢ Went
      stopped None e = false≢true (ap is_went e)
      stopped (Some denial) e = false≢true (ap is_went e)
