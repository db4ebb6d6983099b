-- A yield that does not wait.
use Rattle.std.proofs.Common.{◌≡◌, ℕ, ◌==◌, true, false, List, [], ◌∷◌, length, slice_get, refl, sym, ap₂}
use Rattle.std.proofs.Common.{arith}
use Rattle.std.proofs.lemmas.Bool.{eqb-true}
use Rattle.tk_base.specs.declared.upcall.Upcall.{Upcall}
use Rattle.process_record.specs.declared.outcome.Outcome.TheVariants.{Delivered, GoesOn}
use Rattle.kernel_model.specs.Record.{Record}
use Rattle.kernel_model.specs.Calls.{comes_to, flag_written, yield_now}
use Rattle.kernel_calls.specs.Outcomes.{ServingComesTo, first_delivered}

pub now_none : (r : Record) (at : ℕ) (pending : List Upcall) → (length pending == 0) ≡ true
    → ServingComesTo (yield_now r at (slice_get pending 0)) (flag_written r at 0) GoesOn
now_none r at [] none = refl
now_none r at (u ∷ us) none =
    absurd (let none_is : length (u ∷ us) ≡ 0 = eqb-true (length (u ∷ us)) 0 none in omega arith)

pub now_some : (r s : Record) (at : ℕ) (pending left : List Upcall) → (length pending == 0) ≡ false
    → s ≡ flag_written r at 1 → left ≡ pending → ServingComesTo (yield_now r at (slice_get pending 0))
    (first_delivered s (slice_get left 0)) Delivered
now_some r s at [] left some is same = absurd (cc)
now_some r s at (u ∷ us) left some is same =
    sym (ap₂ (λ (x : Record) (us : List Upcall). comes_to (first_delivered x (slice_get us 0)) Delivered) is same)
