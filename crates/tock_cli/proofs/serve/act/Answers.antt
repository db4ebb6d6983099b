use Rattle.tool_words.specs.Words.{command_of}
use Rattle.tool_tasks.specs.Causes.{shelf_account}
use Rattle.tool_tasks.specs.Ready.{task_of}
use Rattle.tool_answers.specs.Served.{sink_account}
use Rattle.tool_answers.proofs.Accounts.{task_is_accounted}
use Rattle.tool_answers.proofs.Serving.{ends_happen, refused_happens}
use Rattle.tock_cli.proofs.serve.act.Goals as goal

pub returns-in-Ok : goal.returns-in-Ok
returns-in-Ok g c =
    let makes = g.G.Generator.files in
    let told = shelf_account g.H.Shelf.tells c.args.shelf.now c.prepare.new.shelf in
    let sent = sink_account g.K.Sink.tells c.args.out.now c.finish.new.out in
    let words = command_of c.args.words.now in
    let task = task_of c.in-Ok.ready in
    ends_happen makes told sent words c.finish.new.last task c.finish.result c.in-Ok.ensures.task
    (task_is_accounted c.runs_from_boot_are_accounted_for.ensures
    c.partitions_from_boot_see_themselves_alone.ensures.runs makes told words task c.in-Ok.ensures.task)
    c.finish.ensures

pub returns-in-Err : goal.returns-in-Err
returns-in-Err g c =
    let told = shelf_account g.H.Shelf.tells c.args.shelf.now c.prepare.new.shelf in
    let sent = sink_account g.K.Sink.tells c.args.out.now c.refuse.new.out in
    refused_happens g.G.Generator.files told sent (command_of c.args.words.now) c.take.new.self c.in-Err.refusal
    c.refuse.result c.in-Err.ensures.refused c.take.ensures.after c.refuse.ensures
