-- That an accepted exit with 0 ends a process, and that one with 1, and an operator's restart, start it again.
use Rattle.std.proofs.Common.{◌≡◌, ℕ, false, slice_index, None, Some, refl, sym, ap, subst, ◌∙◌}
use Rattle.rv32_model.specs.Laws.{CallsAreOfEcall}
use Rattle.process_record.specs.declared.emit.CallMade.{CallMade}
use Rattle.kernel_model.specs.Record.{Record}
use Rattle.kernel_model.specs.declared.settings.Settings.{Settings}
use Rattle.kernel_model.specs.Calls.{exit, restart}
use Rattle.kernel_model.specs.Laws.{CanStartAgain}
use Rattle.kernel_model.specs.Turn.{Event, apply, is_turn, turn_counted, turned}
use Rattle.kernel_model.proofs.Restarts.{restarts}
use Rattle.kernel_laws.specs.Restarting.{EndsByExit, ExitsEnd, HasStartedAgain, RestartsAreMade}
use Rattle.kernel_laws.specs.Restarting.{StartsAgainByAct, StartsAgainByExit}
use Rattle.kernel_laws.proofs.Accepted.{HasCome, accepted_exit, at_call, exits}
use Rattle.kernel_laws.proofs.Between.{of_each_answer, of_each_turn}

started : (r : Record) → CanStartAgain r → HasStartedAgain r (restart r)
started r can = restarts (HasStartedAgain r) r can (λ h m. record { restarts = refl; life = refl; state = refl })

counted_started : (r s : Record) → HasStartedAgain (turn_counted r) s → HasStartedAgain r s
counted_started r s h = record { restarts = h.restarts; life = h.life; state = h.state }

-- what the turn of an accepted exit of a kind leaves
exited : CallsAreOfEcall → (settings : Settings) (time : ℕ) (r : Record) (call : CallMade) (kind : ℕ)
    → let t = turned settings time r in
    t.told.call ≡ Some call → call.class ≡ 6 → slice_index call.args 0 ≡ kind → call.rule ≡ None
    → t.after ≡ (exit (turn_counted r) kind (slice_index call.args 1)).after
exited of_ecall settings time r call kind told class is accepted =
    let t = turned settings time r in
    let comes = at_call t.told.call (λ call. call.class ≡ 6 → call.rule ≡ None → HasCome exits r t.after call) call
    (accepted_exit of_ecall settings time r) told class accepted in
    comes.after ∙ ap (λ (n : ℕ). (exit (turn_counted r) n (slice_index call.args 1)).after) is

starts_by_act : (settings : Settings) (event : Event) (r : Record) → is_turn event ≡ false
    → StartsAgainByAct event r (apply settings event r)
unfolding apply
starts_by_act settings event r no_turn is can =
    subst (λ (e : Event). HasStartedAgain r (apply settings e r)) (sym is) (started r can)

pub restarts_are_made : CallsAreOfEcall → RestartsAreMade
unfolding exit
restarts_are_made of_ecall = record {
  exits = of_each_turn StartsAgainByExit (λ settings time r call told exit_to can.
      rw (exited of_ecall settings time r call 1 told exit_to.class exit_to.kind exit_to.accepted)
      (counted_started r (restart (turn_counted r)) (started (turn_counted r) can)));
  acts = of_each_answer StartsAgainByAct starts_by_act;
}

pub exits_end : CallsAreOfEcall → ExitsEnd
unfolding exit
exits_end of_ecall =
    of_each_turn EndsByExit (λ settings time r call told exit_to.
    rw (exited of_ecall settings time r call 0 told exit_to.class exit_to.kind exit_to.accepted)
    (record { state = refl; lives = refl; held = refl; pending = refl }))
