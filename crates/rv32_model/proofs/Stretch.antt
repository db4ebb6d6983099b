-- Turns that follow one another.
use Rattle.std.proofs.Common.{◌≡◌, ◌∙◌, ℕ, zero, suc, refl, sym, ap₂, subst, arith}
use Rattle.tk_base.specs.Regs.{Registers}
use Rattle.rv32_model.specs.declared.turn_end.TurnEnd.TheVariants.{Went}
use Rattle.rv32_model.specs.Laws.{Denies}
use Rattle.rv32_model.specs.Stretch.{Goes, NoneGoes, OneMoreGoes, StoppedTurnsStop, OneIsTheTurn}
use Rattle.rv32_model.specs.UserTurn.{user_turn, bytes_after}
use Rattle.rv32_model.proofs.Turns.{stopped_turns_change_nothing}

pub none_goes : NoneGoes
unfolding Goes
none_goes denies regs bytes = (refl, refl)

one_after : (denies : Denies) (k : ℕ) (regs later : Registers) (bytes left : ℕ → ℕ)
    → Goes denies k regs bytes later left → (user_turn denies left later).end ≡ Went
    → Goes denies (suc k) regs bytes (user_turn denies left later).regs (bytes_after denies left later)
unfolding Goes
one_after denies zero regs later bytes left g e =
    let Then : Registers → (ℕ → ℕ)
    → Type 0 = λ r b. ((user_turn denies b r).end ≡ Went)
    × (((user_turn denies left later).regs ≡ (user_turn denies b r).regs)
    × (bytes_after denies left later ≡ bytes_after denies b r)) in
    subst (λ (r : Registers). Then r bytes) g.0 (subst (λ (b : ℕ → ℕ). Then later b) g.1 (e, (refl, refl)))
one_after denies (suc k) regs later bytes left g e =
    (g.0, one_after denies k (user_turn denies bytes regs).regs later (bytes_after denies bytes regs) left g.1 e)

pub one_more_goes : OneMoreGoes
one_more_goes denies k n regs later bytes left s g e =
    subst (λ (m : ℕ). Goes denies m regs bytes (user_turn denies left later).regs (bytes_after denies left later))
    (sym s) (one_after denies k regs later bytes left g e)

pub stopped_turns_stop : StoppedTurnsStop
stopped_turns_stop denies most went regs bytes h stopped =
    let kept = stopped_turns_change_nothing denies bytes regs stopped in
    let again : (user_turn denies bytes regs).end
    ≡ (user_turn denies (bytes_after denies bytes regs) (user_turn denies bytes regs).regs).end
    = sym (ap₂ (λ (b : ℕ → ℕ) (r : Registers). (user_turn denies b r).end) kept.1 kept.0) in
    record {
      all = λ e. absurd (omega (arith, e, h));
      fewer = λ l. (stopped, again);
    }

pub one_is_the_turn : OneIsTheTurn
unfolding Goes
one_is_the_turn denies zero end regs later bytes left h g s =
    let stopped = s.fewer (omega arith) in
    let ended : end ≡ (user_turn denies bytes regs).end =
    stopped.1 ∙ ap₂ (λ (b : ℕ → ℕ) (r : Registers). (user_turn denies b r).end) g.1 g.0 in
    let kept = stopped_turns_change_nothing denies bytes regs (λ w. stopped.0 (ended ∙ w)) in
    (g.0 ∙ sym kept.0, g.1 ∙ sym kept.1, ended)
one_is_the_turn denies (suc zero) end regs later bytes left h g s = (g.1.0, g.1.1, s.all refl ∙ sym g.0)
one_is_the_turn denies (suc (suc k)) end regs later bytes left h g s = absurd (omega (arith, h))
