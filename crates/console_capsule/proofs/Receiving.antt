-- Bytes that were moved to a read.
use Rattle.std.proofs.Common.{◌≡◌, ℕ, ◌==◌, ◌-◌, min, Bool, true, false, cond, List, [], drop, length, take, Option}
use Rattle.std.proofs.Common.{None, Some, option_map, unwrap_or, ap, arith, ◌∙◌}
use Rattle.std.proofs.lemmas.List.{length-drop, length-take, take_min}
use Rattle.grant_values.specs.declared.console.WaitingRead.{WaitingRead}
use Rattle.process_model.specs.Own.{Own}
use Rattle.driver_model.specs.Requests.{RequestAnswered, request_in, unanswered}
use Rattle.driver_model.specs.Console.{console_reads, received, receiving}
use Rattle.driver_requests.specs.Asking.{in_life}

counted : (k n taken left : ℕ) → taken ≡ min k n → left ≡ n - taken → n - left ≡ min k n
counted k n taken left e f = omega arith

-- bytes that were taken from the front of a ring are those by which it is shorter
taken : (k : ℕ) (ring : List ℕ) → take (length ring - length (drop (length (take k ring)) ring)) ring ≡ take k ring
taken k ring =
    ap (λ n. take n ring)
    (counted k (length ring) _ _ (length-take k ring) (length-drop (length (take k ring)) ring))
    ∙ take_min k ring

-- those of a read are
pub moved : (life : ℕ) (ring : List ℕ) (own : Own)
    → let bytes = (in_life life own (received ring own) (unanswered [] own)).moved in
    take (length ring - length (drop (length bytes) ring)) ring ≡ bytes
unfolding received
moved life ring own = by_tests (own.life == life) own.lives (request_in console_reads own)
  where
    answer : Bool → Bool → Option WaitingRead → RequestAnswered (List ℕ)
    answer same lives request =
        cond same (unwrap_or (option_map (receiving ring own) (cond lives request None)) (unanswered [] own))
        (unanswered [] own)

    by_tests : (same lives : Bool) (request : Option WaitingRead)
        → take (length ring - length (drop (length (answer same lives request).moved) ring)) ring
        ≡ (answer same lives request).moved
    by_tests true true (Some read) = taken _ ring
    by_tests true true None = taken 0 ring
    by_tests true false request = taken 0 ring
    by_tests false lives request = taken 0 ring
