-- The commands' rows.
use Rattle.std.proofs.Common.{◌≡◌, ℕ, Bool, List, Result, refl, sym, subst}
use Rattle.tk_base.specs.declared.call.CallRule.{CallRule}
use Rattle.syscall_abi.specs.declared.reply.Reply.{Reply}
use Rattle.process_model.specs.Own.{Own}
use Rattle.driver_model.specs.Commands.{Commanded, On, Off, Toggle, by_number}
use Rattle.driver_model.specs.Leds.{commands, switching}
use Rattle.led_capsule.specs.Obeys.{LedsObey}

pub turns_on : (count number led : ℕ) (own : Own) → number ≡ 1
    → by_number (commands count led) number own ≡ switching count led On own
unfolding commands
turns_on count number led own e = rw (e) refl

pub turns_off : (count number led : ℕ) (own : Own) → number ≡ 2
    → by_number (commands count led) number own ≡ switching count led Off own
unfolding commands
turns_off count number led own e = rw (e) refl

pub toggles : (count number led : ℕ) (own : Own) → number ≡ 3
    → by_number (commands count led) number own ≡ switching count led Toggle own
unfolding commands
toggles count number led own e = rw (e) refl

-- a command is obeyed where its row is
pub obeyed : (old new : List Bool) (answer : Result Reply CallRule) (c row : Commanded) → c ≡ row
    → LedsObey row old answer new → LedsObey c old answer new
obeyed old new answer c row is obeys = subst (λ (k : Commanded). LedsObey k old answer new) (sym is) obeys
