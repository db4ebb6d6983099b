use Rattle.std.proofs.Common.{◌+◌, drop, take, rules, string_bytes, subst, sym, ap, ◌∙◌}
use Rattle.tool_words.specs.Parts.{argument_bytes}
use Rattle.tool_tasks.proofs.Packing.{PacksOn, begins, one_more, pack_task, refused, words_all, words_more, words_split}
use Rattle.tool_tasks.proofs.prepare.load_pack.Goals as goal

pub loop-name-init : goal.loop-name-init
loop-name-init g c =
    begins g.H.Shelf.tells c.args.shelf.now (argument_bytes c.args.files.now) c.new-flash.result.items
    c.new-flash.ensures.items

pub returns-in_err-pack_file-clause-refused : goal.returns-in_err-pack_file-clause-refused
returns-in_err-pack_file-clause-refused g c =
    let l = c.loop-name in
    let i = l.name-index in
    let files = c.args.files.now in
    let name = c.as_str.ensures.value ∙ ap string_bytes c.name-item.is in
    let cause = refused g.H.Shelf.tells c.args.shelf.now l.shelf c.pack_file.new.shelf (argument_bytes files)
    (argument_bytes (take i files)) l.objects l.flash.items c.as_str.result.now l.invariant
    (argument_bytes (drop (i + 1) files)) (words_split files i _ c.as_str.result.now c.loop-name-test.true name)
    c.in_err-pack_file.field-0.0 c.in_err-pack_file.ensures.refused in
    search rules

pub loop-name-preserved : goal.loop-name-preserved
loop-name-preserved g c =
    let l = c.loop-name in
    let i = l.name-index in
    let files = c.args.files.now in
    let name = c.as_str.ensures.value ∙ ap string_bytes c.name-item.is in
    let packed = c.in_ok-pack_file.ensures in
    let on = one_more g.H.Shelf.tells c.args.shelf.now l.shelf c.pack_file.new.shelf (argument_bytes files)
    (argument_bytes (take i files)) l.objects l.flash.items c.as_str.result.now l.invariant c.pack_file.new.objects
    c.pack_file.new.image.items packed.packed packed.keeps in
    subst (λ done. PacksOn g.H.Shelf.tells c.args.shelf.now c.pack_file.new.shelf (argument_bytes files) done
    c.pack_file.new.objects c.pack_file.new.image.items)
    (sym (words_more files i _ c.as_str.result.now c.loop-name-test.true name)) on

pub returns-clause-task : goal.returns-clause-task
returns-clause-task g c =
    let l = c.loop-name in
    let files = c.args.files.now in
    pack_task g.H.Shelf.tells c.args.shelf.now l.shelf (argument_bytes files) (argument_bytes (take l.name-index files))
    l.objects l.flash.items l.invariant (words_all files l.name-index c.loop-name-test.false)

pub pack_file-requires-clause-few : goal.pack_file-requires-clause-few
pack_file-requires-clause-few g c = c.loop-name.invariant.few

pub pack_file-requires-clause-short : goal.pack_file-requires-clause-short
pack_file-requires-clause-short g c = c.loop-name.invariant.short
