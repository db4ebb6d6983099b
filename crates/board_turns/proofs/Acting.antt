-- What an operator's act leaves of a machine.
use Rattle.std.proofs.Common.{◌≡◌, ◌≢◌, ℕ, ◌+◌, List}
use Rattle.std.proofs.Common.{rules, sym, ap, ◌∙◌, arith}
use Rattle.std.proofs.lemmas.List.{get_or-set_other}
use Rattle.tk_base.specs.declared.process.Verb.{Verb}
use Rattle.tk_base.specs.declared.process.Verb.TheVariants as verbs
use Rattle.process_model.specs.Own.{Own}
use Rattle.process_model.specs.Flash.{object_in}
use Rattle.process_record.specs.declared.process.Process.{Process}
use Rattle.grant_enter.specs.Homes.{ChangesOnly, Homes, nobody, own_of}
use Rattle.process_restart.specs.Own.{IsOwn, KeepsObject, LivesOn}
use Rattle.process_console.specs.Acts.{Operates as Acts}
use Rattle.kernel_calls.specs.Own.{Beside, record_in}
use Rattle.kernel_calls.proofs.Starts.{of_object, starts_again}
use Rattle.kernel_model.specs.Turn.{operated}
use Rattle.kernel_calls.specs.Residents.{IsResident}
use Rattle.board_turns.specs.declared.guard.ActivePmp.{ActivePmp}
use Rattle.board_turns.specs.Guards.{GuardsOnly, GuardsOthers}

-- a change of one slot leaves what is another's own
other_own : (slot other : ℕ) (a b : Homes) → ChangesOnly slot a b → other ≢ slot → own_of b other ≡ own_of a other
other_own slot other a b only apart =
    ap (λ (h : Homes). own_of h other) only ∙ get_or-set_other a.owns slot other (own_of b slot) nobody apart

-- so registers that are set for another slot still protect its process
pub guards_others : (slot : ℕ) (guard : ActivePmp) (a b : Homes) → ChangesOnly slot a b → GuardsOnly guard a
    → GuardsOthers slot guard b
guards_others slot guard a b only guards = record {
  protects = λ other apart is. rw (other_own slot other a b only apart) (guards.protects other is);
}

-- what the console does to a process is what the act leaves of its record
pub operates : (verb : Verb) (flash : List ℕ) (p q : Process) (own own_after : Own)
    → KeepsObject p q → Acts verb (object_in flash p.object) (p, own) (q, own_after)
    → (beside : Beside) → operated verb (record_in flash p own beside) ≡ record_in flash q own_after beside
operates verbs.Restart flash p q own own_after keeps acts beside =
    sym (starts_again flash p q own own_after beside acts)
operates verb flash p q own own_after keeps acts beside =
    rw (← of_object flash p q own_after beside keeps.object, acts.0, acts.1)

-- it leaves the process as it is to be a step later
pub operated_seated : (flash : List ℕ) (steps : ℕ) (p q : Process) (own own_after : Own)
    → IsResident flash steps (p, own) → IsOwn flash q own_after → KeepsObject p q → LivesOn own own_after
    → IsResident flash (steps + 1) (q, own_after)
operated_seated flash steps p q own own_after seated is keeps lives = search (rules, arith)
