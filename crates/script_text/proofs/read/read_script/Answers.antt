use Rattle.std.proofs.Common.{◌≡◌, ◌∷◌, List, ℕ, take, drop, sym, subst, ◌∙◌}
use Rattle.script_text.specs.Progress.{DraftSays}
use Rattle.script_text.specs.Text.{lines}
use Rattle.script_text.proofs.Faults.{one_less, one_passed, one_more, unbroken_more}
use Rattle.script_text.proofs.read.read_script.Goals as goal

pub loop-line-preserved : goal.loop-line-preserved
loop-line-preserved c =
    let all = lines c.args.script.now in
    let n = c.loop-line.number in
    let line = c.in-Some.line.now in
    let rest = c.next.new.self in
    let h : drop n all ≡ line ∷ rest = sym c.loop-line.invariant.left ∙ c.in-Some.ensures.steps in
    let added = c.in-Ok.ensures (take n all) c.loop-line.invariant.made in
    record {
      left = one_less all n line rest h;
      passed = one_passed all n line rest h;
      unbroken = unbroken_more all n line rest h added.0 c.loop-line.invariant.unbroken;
      made = subst (λ (ls : List (List ℕ)). DraftSays ls c.add.new.self) (sym (one_more all n line rest h)) added.1;
    }
