use Rattle.std.proofs.Common.{rules, subst, sym, ap, ◌∙◌}
use Rattle.script_text.specs.Reading.{reading}
use Rattle.tool_words.specs.declared.refusal.File.TheVariants.{Script as ScriptFile}
use Rattle.tool_words.specs.Parts.{run_words}
use Rattle.tool_tasks.specs.Causes.{shelf_account}
use Rattle.tool_tasks.specs.Ready.{HasNoReading}
use Rattle.tool_tasks.proofs.Loading.{run_refused, run_task, run_unread, run_unread_flash, text_later, unread_later}
use Rattle.tool_tasks.proofs.prepare.load_run.Goals as goal

pub returns-in_err-flash-clause-refused : goal.returns-in_err-flash-clause-refused
returns-in_err-flash-clause-refused g c =
    let told = shelf_account g.H.Shelf.tells c.args.shelf.now c.read_file.new.shelf in
    let cause = run_unread_flash told (run_words c.args.words) c.in_err-flash.field-0.0 c.in_err-flash.ensures.unread in
    search rules

pub returns-in_err-script-clause-refused : goal.returns-in_err-script-clause-refused
returns-in_err-script-clause-refused g c =
    let told = shelf_account g.H.Shelf.tells c.args.shelf.now c.read_file-2.new.shelf in
    let refusal = c.in_err-script.field-0.0 in
    let unread = unread_later g.H.Shelf.tells c.args.shelf.now c.read_file.new.shelf c.read_file-2.new.shelf ScriptFile
    c.args.words.script.now refusal c.in_ok-flash.ensures.keeps c.in_err-script.ensures.unread in
    let cause = run_unread (run_words c.args.words) c.in_ok-flash.flash.items c.in_ok-flash.ensures.within told refusal
    c.in_ok-flash.ensures.text unread in
    search rules

pub returns-in_err-said-clause-refused : goal.returns-in_err-said-clause-refused
returns-in_err-said-clause-refused g c =
    let told = shelf_account g.H.Shelf.tells c.args.shelf.now c.read_file-2.new.shelf in
    let refusal = c.in_err-said.field-0.0 in
    let flash = c.in_ok-flash.ensures in
    let text = text_later g.H.Shelf.tells c.args.shelf.now c.read_file.new.shelf c.args.words.script.now
    c.in_ok-script.script.items flash.keeps c.in_ok-script.ensures.text in
    let no_reading = subst (λ s. HasNoReading s refusal) c.deref.ensures.value c.in_err-said.ensures.refused in
    let cause = run_refused (run_words c.args.words) c.in_ok-flash.flash.items flash.within c.in_ok-script.script.items
    c.in_ok-script.ensures.within told refusal flash.text text no_reading in
    search rules

pub returns-clause-task : goal.returns-clause-task
returns-clause-task g c =
    let flash = c.in_ok-flash.ensures in
    let text = text_later g.H.Shelf.tells c.args.shelf.now c.read_file.new.shelf c.args.words.script.now
    c.in_ok-script.script.items flash.keeps c.in_ok-script.ensures.text in
    let said = ap reading (sym c.deref.ensures.value) ∙ c.in_ok-said.ensures.said in
    run_task (run_words c.args.words) c.in_ok-flash.flash.items flash.within c.in_ok-script.script.items
    c.in_ok-script.ensures.within _ _ flash.text text said
