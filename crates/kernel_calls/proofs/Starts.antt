-- A process that starts again, and records that keep their object.
use Rattle.std.proofs.Common.{◌≡◌, ◌≢◌, ℕ, List, refl, subst, ap, sym, ◌∙◌, arith}
use Rattle.std.proofs.lemmas.Bool.Decides.{nat_tests}
use Rattle.tk_base.specs.Regs.{Registers}
use Rattle.tk_base.specs.declared.call.CallRule.TheVariants.{NoOperation}
use Rattle.process_model.specs.Own.{Own, own_restarted}
use Rattle.process_record.specs.Process.{restarted_with_regs}
use Rattle.process_record.specs.declared.outcome.Outcome.{Outcome}
use Rattle.process_record.specs.declared.process.Process.{Process}
use Rattle.kernel_model.specs.Record.{Record}
use Rattle.kernel_model.specs.Parts.{with_process}
use Rattle.kernel_model.specs.Calls.{Served, refused, exit, restart}
use Rattle.kernel_model.specs.Parts.{restarted_by, restarted_main}
use Rattle.process_model.specs.Flash.{object_in}
use Rattle.kernel_calls.specs.Own.{Beside, record_in}
use Rattle.kernel_calls.specs.Called.{Called, Keeps, record_of}
use Rattle.process_restart.specs.Restarts.{StartsAgain}
use Rattle.kernel_calls.specs.Outcomes.{acts_for, ServingComesTo}

-- a record that keeps its object
pub of_object : (flash : List ℕ) (p q : Process) (own : Own) (beside : Beside) → q.object ≡ p.object
    → with_process (record_in flash p own beside) q ≡ record_in flash q own beside
of_object flash p q own beside same =
    rw same refl

-- what a call comes to that changes the process alone, and not its object
pub made_so : (f : Record → Served) (old : Called) (flash : List ℕ) (p q : Process) (own : Own) (beside : Beside)
    (o : Outcome) → record_in flash p own beside ≡ record_of old beside → q.object ≡ p.object
    → ((r : Record) → ServingComesTo (f (with_process r p)) (with_process r q) o)
    → ServingComesTo (f (record_of old beside)) (record_in flash q own beside) o
made_so f old flash p q own beside o is same gives =
    ap f (sym is) ∙ gives (record_in flash p own beside)
    ∙ ap (λ (s : Record). record { after = s; outcome = o; acts = acts_for o }) (of_object flash p q own beside same)

-- a start anew keeps what every call keeps
pub keeps_restarted : (old new : Called) (p q : Process) (regs : Registers) (brk : ℕ) → p ≡ old.process
    → q ≡ restarted_with_regs p regs
    → new ≡ record old { process = q; own = own_restarted brk old.own } → Keeps old new
keeps_restarted old new p q regs brk same again is = subst (Keeps old) (sym is) (record {
  loan = refl;
  flash = refl;
  stays = record {
    object = ap (λ (x : Process). x.object) again ∙ ap (λ (x : Process). x.object) same;
    turns = ap (λ (x : Process). x.turns) again ∙ ap (λ (x : Process). x.turns) same;
    restarts = omega (arith, ap (λ (x : Process). x.restarts) again, ap (λ (x : Process). x.restarts) same);
  };
  lives_on = omega arith;
})

pub no_exit : (r : Record) (kind code : ℕ) → kind ≢ 0 → kind ≢ 1 → exit r kind code ≡ refused r NoOperation
unfolding exit
no_exit r kind code zeroth first = grind (arith, nat_tests)

-- a process that starts again by its header has the record of one that does
pub starts_again : (flash : List ℕ) (p q : Process) (own own_after : Own) (beside : Beside)
    → StartsAgain (object_in flash p.object) (p, own) (q, own_after)
    → record_in flash q own_after beside ≡ restart (record_in flash p own beside)
unfolding restart
starts_again flash p q own own_after beside k =
    let r = record_in flash p own beside in
    rw (k.process, k.own) refl ∙ sym (ap (restarted_by r) k.read ∙ ap (restarted_main r k.h) k.main)
