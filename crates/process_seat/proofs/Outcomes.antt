-- What a visit comes to, one case of its outcome after another, over a property of what is the process's own then. The
-- driver's number is taken as it is known, so that nobody carries it through a chain of equations.
use Rattle.std.proofs.Common.{◌≡◌, ℕ, true, false, Bool, None, Some, Result, Ok, Err, sym, subst, ap, ◌∙◌}
use Rattle.grant_values.specs.Values.{KeptValue}
use Rattle.process_model.specs.Own.{Own}
use Rattle.process_model.specs.Served.{kept, with_kept}
use Rattle.process_seat.specs.declared.visit.Unvisited.{Unvisited}
use Rattle.process_seat.specs.declared.visit.Unvisited.TheVariants.{Gone, NotEntered}
use Rattle.process_seat.specs.Seen.{Seen, seen_of}
use Rattle.process_seat.specs.Visits.{FoundProcess, GrantVisit, GrantsOf, Visits, is_stale}

-- a visit, of its parts in order
abbrev pub visit_by : {T V A : Type 0} → GrantsOf → (T → KeptValue) → V → (V → T → Seen → A → T → Own → Type 0)
    → GrantVisit T V A
visit_by grants keeps visitor leaves = record { grants = grants; keeps = keeps; visitor = visitor; leaves = leaves }

-- A visitor left a property, of any value and of the own beside which it is kept.
abbrev pub Leaves : {T V A : Type 0} → GrantVisit T V A → FoundProcess → ℕ → (Own → Type 0) → Type 0
Leaves visit process number P =
    (was value : _) (answer : _) (own : Own) → kept number process.own ≡ Some (visit.keeps was)
    → visit.leaves visit.visitor was (seen_of number visit.grants.counts process.flash process.own) answer value own
    → P (with_kept number (visit.keeps value) own)

-- It was run on the value that is kept; or none is kept; or the process is not there.
pub of_visit : {T V A : Type 0} {new : Own} (visit : GrantVisit T V A) (process : FoundProcess) (number : ℕ)
    (P : Own → Type 0) (r : Result A (Unvisited V)) → Visits visit process r new → visit.grants.driver ≡ number
    → (is_stale process.life process.own ≡ false → Leaves visit process number P)
    → (is_stale process.life process.own ≡ false → kept number process.own ≡ None → P process.own)
    → (is_stale process.life process.own ≡ true → P process.own) → P new
of_visit visit process number P (Ok answer) visits is left none gone =
    let v = visits.1 in
    subst P (sym (v.after ∙ ap (λ (d : ℕ). with_kept d (visit.keeps v.value) v.own) is))
    (left visits.0 v.was v.value answer v.own (ap (λ (d : ℕ). kept d process.own) (sym is) ∙ v.kept)
    (subst (λ (d : ℕ). visit.leaves visit.visitor v.was (seen_of d visit.grants.counts process.flash process.own) answer
    v.value v.own) is v.left))
of_visit visit process number P (Err (NotEntered back)) visits is left none gone =
    subst P (sym visits.3) (none visits.0 (ap (λ (d : ℕ). kept d process.own) (sym is) ∙ visits.1))
of_visit visit process number P (Err (Gone back)) visits is left none gone = subst P (sym visits.2) (gone visits.0)

-- the same of a process that is there
pub of_visit_there : {T V A : Type 0} {new : Own} (visit : GrantVisit T V A) (process : FoundProcess) (number : ℕ)
    (P : Own → Type 0) (r : Result A (Unvisited V)) → Visits visit process r new → visit.grants.driver ≡ number
    → is_stale process.life process.own ≡ false → Leaves visit process number P
    → (kept number process.own ≡ None → P process.own) → P new
of_visit_there visit process number P r visits is there left none =
    of_visit visit process number P r visits is (λ here. left) (λ here. none)
    (λ gone. absurd (not_stale (is_stale process.life process.own) gone there))
  where
    not_stale : (b : Bool) → b ≡ true → b ≡ false → ⊥
    not_stale b e f = cc
