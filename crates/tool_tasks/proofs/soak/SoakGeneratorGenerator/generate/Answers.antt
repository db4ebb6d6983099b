use Rattle.std.proofs.Common.{◌≡◌, List, ℕ, true, subst, sym}
use Rattle.std.specs.Result.{is_ok}
use Rattle.script_text.specs.Reading.{reading}
use Rattle.tool_tasks.proofs.SoakScripts.{soak_reads}
use Rattle.tool_tasks.proofs.soak.SoakGeneratorGenerator.generate.Goals as goal

pub returns-clause-reads : goal.returns-clause-reads
returns-clause-reads c =
    subst (λ (script : List ℕ). is_ok (reading script) ≡ true) (sym c.in_ok-flash.ensures.script)
    (soak_reads c.args.number)
