-- Only proofs use this: parts of the texts by name, for the contracts of inner functions.
use Rattle.std.specs.Prelude.{ℕ, List, ◌++◌, codes, decimal}
use Rattle.process_record.specs.declared.process.Process.{Process}

-- what comes before the state in the line of a place
abbrev pub place_head : ℕ → ℕ → ℕ → Process → List ℕ
place_head steps time slot p =
    codes "at " ++ (decimal steps ++ (codes " " ++ (decimal time ++ (codes " " ++ (decimal slot
    ++ (codes " " ++ (decimal p.turns ++ (codes " " ++ (decimal p.restarts ++ codes " ")))))))))
