use Rattle.std.proofs.Common.{◌≡◌, ◌<◌, ◌≤◌, ◌++◌, List, [], ℕ, length, subst, ap, arith}
use Rattle.std.proofs.lemmas.List.{get_or-replicate, length-replicate}
use Rattle.tk_base.specs.declared.limits.TheConstants.{RING_SIZE}
use Rattle.script_text.specs.Settings.{ScriptSettings as Script}
use Rattle.board_devices.specs.SerialLine.{SerialLine}
use Rattle.kernel_model.specs.World.{lane_count}
use Rattle.kernel_laws.specs.Inputs.{IsSubsequence, KeepsInput, ring_in}
use Rattle.board_opening.specs.Opening.{opening}
use Rattle.board_opening.proofs.certified.input_from_boot_is_kept.Goals as goal

-- where nothing stood in the ring at first
from_empty : (before arrived read left : List ℕ) (P Q : Type 0) → before ≡ [] → (Q → P)
    → KeepsInput before arrived read left P → KeepsInput [] arrived read left Q
from_empty before arrived read left P Q empty roomy law = record {
  kept = subst (λ (xs : List ℕ). IsSubsequence (read ++ left) (xs ++ arrived)) empty law.kept;
  whole = λ room. subst (λ (xs : List ℕ). read ++ left ≡ xs ++ arrived) empty (law.whole (roomy room));
}

-- the lines are there, and their rings are empty
record OpensEmpty (script : Script) (flash : List ℕ) (lane : ℕ) : Type 0 where
  there : lane < length (opening script flash).devices.lines
  empty : ring_in lane (opening script flash).devices ≡ []

opens_empty : (script : Script) (flash : List ℕ) (lane : ℕ) → lane < lane_count script.partition
    → OpensEmpty script flash lane
unfolding opening
opens_empty script flash lane there =
    let line : SerialLine = record { ring = []; ticks = script.uart; free = 0 } in
    let many : length (opening script flash).devices.lines ≡ lane_count script.partition =
    length-replicate (lane_count script.partition) line in
    record {
      there = omega (arith, there, many);
      empty = ap (λ (x : SerialLine). x.ring) (get_or-replicate (lane_count script.partition) lane line _ there);
    }

pub returns-clause-kept : goal.returns-clause-kept
unfolding opening
returns-clause-kept c script flash choices lane there =
    let opens = opens_empty script flash lane there in
    from_empty _ _ _ _ _ _ opens.empty (λ roomy. (opens.there, roomy))
    (c.input_is_kept.ensures.kept (opening script flash) choices lane)

pub returns-clause-rings : goal.returns-clause-rings
returns-clause-rings c script flash choices lane there =
    let opens = opens_empty script flash lane there in
    let none : length (ring_in lane (opening script flash).devices) ≡ 0 = ap (λ (xs : List ℕ). length xs) opens.empty in
    c.input_is_kept.ensures.rings (opening script flash) choices lane opens.there (omega (arith, none))
