use Rattle.std.proofs.Common.{rules}
use Rattle.tool_tasks.specs.Causes.{shelf_account}
use Rattle.tool_tasks.proofs.Loading.{list_task, list_unread}
use Rattle.tool_tasks.proofs.prepare.load_list.Goals as goal

pub returns-in_err-flash-clause-refused : goal.returns-in_err-flash-clause-refused
returns-in_err-flash-clause-refused g c =
    let told = shelf_account g.H.Shelf.tells c.args.shelf.now c.read_file.new.shelf in
    let cause = list_unread told c.args.name.now c.in_err-flash.field-0.0 c.in_err-flash.ensures.unread in
    search rules

pub returns-clause-task : goal.returns-clause-task
returns-clause-task g c =
    let flash = c.in_ok-flash.ensures in
    list_task (g.H.Shelf.tells c.args.shelf.now).bytes c.args.name.now c.in_ok-flash.flash.items flash.text flash.within
