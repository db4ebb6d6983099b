use Rattle.std.proofs.Common.{rules, subst, sym, arith, ◌≡◌, List, ℕ, Ok, Err}
use Rattle.tool_words.specs.declared.refusal.Refusal.TheVariants.{Image}
use Rattle.tool_words.specs.declared.refusal.ImageFault.{ImageFault}
use Rattle.tool_words.specs.Words.{edit_given, edits_of}
use Rattle.tool_words.specs.Parts.{edit_words}
use Rattle.tool_tasks.specs.Comes.{Making, IsTaskOf, edited_by}
use Rattle.tool_tasks.specs.Causes.{CauseOf, shelf_account}
use Rattle.tool_tasks.proofs.Loading.{edit_no_task, edit_task, edit_unread, whole_back}
use Rattle.tool_tasks.proofs.prepare.load_edit.Goals as goal

pub returns-in_err-flash-clause-refused : goal.returns-in_err-flash-clause-refused
returns-in_err-flash-clause-refused g c =
    let told = shelf_account g.H.Shelf.tells c.args.shelf.now c.read_file.new.shelf in
    let cause = edit_unread told (edit_words c.args.words) c.in_err-flash.field-0.0 c.in_err-flash.ensures.unread in
    search rules

pub returns-in-Ok-clause-task : goal.returns-in-Ok-clause-task
returns-in-Ok-clause-task g c =
    let bytes = (g.H.Shelf.tells c.args.shelf.now).bytes in
    let flash = c.in_ok-flash.ensures in
    let new = c.make_edit.new.flash in
    let edited = subst (λ (xs : List ℕ). edited_by (edit_given c.args.words.edit) c.args.words.offset xs ≡ Ok new)
    c.deref_mut.ensures.value c.in-Ok.ensures in
    subst (λ (xs : List ℕ). IsTaskOf bytes (edits_of c.args.words) (Making xs))
    (sym (whole_back c.in_ok-flash.flash.len new c.in_ok-flash.flash.items
    (omega (arith, c.make_edit.auto.flash, c.deref_mut.ensures.len))))
    (edit_task (edit_words c.args.words) c.in_ok-flash.flash.items flash.within bytes new flash.text edited)

pub returns-in-Err-clause-refused : goal.returns-in-Err-clause-refused
returns-in-Err-clause-refused g c =
    let told = shelf_account g.H.Shelf.tells c.args.shelf.now c.read_file.new.shelf in
    let flash = c.in_ok-flash.ensures in
    let edited = subst (λ (xs : List ℕ). edited_by (edit_given c.args.words.edit) c.args.words.offset xs
    ≡ Err c.in-Err.fault) c.deref_mut.ensures.value c.in-Err.ensures.0 in
    subst (λ (fault : ImageFault). CauseOf told (edits_of c.args.words) (Image fault)) (sym c.of_edit.ensures)
    (edit_no_task (edit_words c.args.words) c.in_ok-flash.flash.items flash.within told c.in-Err.fault flash.text
    edited)
