-- The clock that is shown to a process.
use Rattle.std.proofs.Common.{◌≡◌, ℕ, zero, suc, ◌+◌, ◌-◌, false, List, [], ◌∷◌, take, Option, None, Some, Result}
use Rattle.std.proofs.Common.{refl, ap, sym, ◌∙◌}
use Rattle.std.specs.Option.{option_map}
use Rattle.std.specs.Int.{w32, to_le_bytes}
use Rattle.std.proofs.lemmas.List.{take-append-drop}
use Rattle.tk_base.specs.Bytes.{over}
use Rattle.tk_base.specs.declared.kinds.PairKind.TheVariants.{Readable}
use Rattle.grant_values.specs.declared.alarm.Alarm.{Alarm}
use Rattle.grant_values.specs.Values.{AlarmValue}
use Rattle.grant_model.specs.Grants.{Grant, grant_of, pair_of}
use Rattle.process_model.specs.Own.{Own}
use Rattle.process_model.specs.Served.{kept, own_written, with_kept}
use Rattle.process_seat.specs.declared.visit.Unvisited.{Unvisited}
use Rattle.process_seat.specs.Seen.{Seen}
use Rattle.process_seat.specs.Visits.{FoundProcess, GrantsOf, Visits, is_stale}
use Rattle.process_seat.proofs.Outcomes.{of_visit_there, visit_by}
use Rattle.driver_model.specs.Alarm.{alarm_driver, showing}
use Rattle.driver_requests.proofs.Keeping.{kept_still}

-- of the first so many bytes the first so many are the same ones
pub taken_twice : (n : ℕ) (xs : List ℕ) → take n (take n xs) ≡ take n xs
taken_twice zero xs = refl
taken_twice (suc n) [] = refl
taken_twice (suc n) (x ∷ xs) = ap (λ ys. x ∷ ys) (taken_twice n xs)

-- bytes that fit a buffer are written as those of which they are the front
pub front_is_written : (own : Own) (buffer : ℕ × ℕ) (bytes : List ℕ) (n : ℕ) → n ≡ buffer.1
    → own_written buffer 0 (take (n - 0) bytes) own ≡ own_written buffer 0 bytes own
front_is_written own buffer bytes n same =
    ap (λ k. own_written buffer 0 (take (k - 0) bytes) own) same
    ∙ ap (λ xs. record own { ram = over own.ram (buffer.0 - own.layout.start + 0) xs })
    (taken_twice (buffer.1 - 0) bytes)

-- where no value is kept no buffer is, and nothing is shown
none_shown : (now : ℕ) (own : Own) → kept alarm_driver own ≡ None → own ≡ showing now own
none_shown now own none = by_grant (grant_of alarm_driver own.grants) none
  where
    by_grant : (g : Option Grant) → option_map (λ g. g.value) g ≡ None
        → own ≡ own_written (pair_of Readable 0 g) 0 (to_le_bytes w32 now) own
    by_grant None e = ap (λ xs. record own { ram = xs }) (sym (take-append-drop (0 - own.layout.start + 0) own.ram))
    by_grant (Some g) e = cc

-- what a visitor that shows the clock leaves
abbrev Shows : {A : Type 0} → ℕ → (Alarm → Seen → A → Alarm → Own → Type 0) → Type 0
Shows now leaves = (value : Alarm) (seen : Seen) (answer : _) (value' : Alarm) (own : Own)
    → leaves value seen answer value' own → (value' ≡ value) × (own ≡ showing now seen.own)

pub shown : {V A : Type 0} {new : Own} (grants : GrantsOf) (visitor : V)
    (leaves : V → Alarm → Seen → A → Alarm → Own → Type 0) (process : FoundProcess) (now : ℕ)
    (r : Result A (Unvisited V))
    → Visits (visit_by grants (λ (a : Alarm). AlarmValue a.armed) visitor leaves) process r new
    → Shows now (leaves visitor) → grants.driver ≡ 0 → is_stale process.life process.own ≡ false
    → new ≡ showing now process.own
shown grants visitor leaves process now r visits says is present =
    of_visit_there _ process alarm_driver (λ (o : Own). o ≡ showing now process.own) r visits is present
    (λ was value answer own is_kept left.
    let so = says _ _ _ _ _ left in
    ap (λ (a : Alarm). with_kept alarm_driver (AlarmValue a.armed) own) so.0
    ∙ ap (with_kept alarm_driver (AlarmValue was.armed)) so.1
    ∙ ap (λ gs. record (showing now process.own) { grants = gs })
    (kept_still alarm_driver (AlarmValue was.armed) process.own.grants is_kept))
    (none_shown now process.own)
