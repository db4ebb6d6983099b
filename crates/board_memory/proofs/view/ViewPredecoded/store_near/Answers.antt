use Rattle.std.proofs.Common.{List, ℕ, ap, ◌∙◌}
use Rattle.board_memory.specs.Bytes.{memory_byte_at}
use Rattle.board_memory.proofs.Near.{data_put}
use Rattle.board_memory.proofs.view.ViewPredecoded.store_near.Goals as goal

pub returns-clause-stored : goal.returns-clause-stored
returns-clause-stored c =
    let view = c.args.self.now in
    ap (λ (ram : List ℕ). memory_byte_at view.sight.flash.now ram) c.put_number.ensures
    ∙ data_put view.sight.flash.now view.ram.now view.sight.pmp.now view.sight.near.start view.sight.near.size
    c.args.at c.args.width c.in-Some.offset
    c.a_store_is_put.ensures c.args.value view.sound.data_near c.in-Some.ensures
