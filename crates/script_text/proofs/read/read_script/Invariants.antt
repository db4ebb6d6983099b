use Rattle.std.proofs.Common.{◌≡◌, ◌+◌, ◌≤◌, length, take, drop}
use Rattle.std.specs.List.{enumerate_from, filter_map}
use Rattle.script_text.specs.Text.{lines}
use Rattle.script_text.specs.Reading.{faults, fault_of}
use Rattle.script_text.specs.Progress.{DraftSays}
use Rattle.script_text.proofs.read.read_script.Given as goal

abbrev pub invariant-loop-line : goal.invariant-loop-line
invariant-loop-line l =
    let all = lines l.script in
    record {
      left : l.line-iterator ≡ drop l.number all;
      passed : l.number ≤ length all;
      -- the faults of the lines that are left are those of all
      unbroken : filter_map (fault_of all) (enumerate_from (l.number + 1) (drop l.number all)) ≡ faults all;
      made : DraftSays (take l.number all) l.draft;
    }
