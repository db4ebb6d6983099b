use Rattle.std.proofs.Common.{◌∙◌, rules, subst, sym, ap, List, ℕ, Some, None}
use Rattle.script_text.specs.Reading.{reading}
use Rattle.board_opening.specs.Opening.{opening}
use Rattle.run_text.specs.declared.mode.Mode.TheVariants.{Soak}
use Rattle.tool_words.specs.Words.{Soaks}
use Rattle.tool_tasks.specs.Comes.{Running, IsTask}
use Rattle.tool_tasks.specs.Ready.{HasNoReading}
use Rattle.tool_tasks.proofs.Loading.{only_memory, soak_task}
use Rattle.tool_tasks.proofs.prepare.load_soak.Goals as goal

pub returns-in_err-said-clause-refused : goal.returns-in_err-said-clause-refused
returns-in_err-said-clause-refused g c =
    let refusal = c.in_err-said.field-0.0 in
    let unread = subst (λ s. HasNoReading s refusal) c.deref.ensures.value c.in_err-said.ensures.refused in
    let memory = only_memory _ refusal c.in-Ok.ensures.reads unread in
    search rules

pub returns-clause-task : goal.returns-clause-task
returns-clause-task g c =
    let makes = g.G.Generator.files in
    let n = c.args.number in
    let turns = c.args.turns in
    let said = c.in_ok-said.said in
    let script = c.deref.ensures.value ∙ c.in-Ok.ensures.script in
    let read = ap reading (sym script) ∙ c.in_ok-said.ensures.said in
    subst (λ (f : List ℕ). IsTask makes (λ name. None) (Some (Soaks n turns)) (Running Soak turns (opening said f)))
    (sym c.in-Ok.ensures.flash) (soak_task makes (λ (name : List ℕ). None) n turns said read)
