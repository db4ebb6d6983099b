use Rattle.std.proofs.Common.{◌<◌, length, rules, arith, ◌∙◌}
use Rattle.grant_model.specs.Encoding.{encode_grants}
use Rattle.grant_enter.specs.Homes.{own_of}
use Rattle.kernel_model.specs.Record.{Record}
use Rattle.board_core.proofs.Looks.{read_missing, read_there}
use Rattle.board_core.proofs.Kernels.{kernel_cut, kernel_there}
use Rattle.board_core.proofs.board.Board.grants.Goals as goal

pub returns-then-index-len : goal.returns-then-index-len
returns-then-index-len c =
    read_missing c.self.invariant c.args.slot (λ (r : Record). encode_grants r.own.grants) c.self.view_is
    (omega (arith, c.len.ensures, c.index.ensures.value, c.if-index-len.true))

pub split_at-requires : goal.split_at-requires
split_at-requires c =
    let h : c.args.slot < length c.self.inside.state.machine.home.owns = search rules in
    kernel_there (own_of c.self.inside.state.machine.home c.args.slot) c.layout-layout.result c.block.result.now
    c.own_bytes-below.result (c.owns_lie_in_place.ensures c.args.slot h) c.layout-layout.ensures c.block.ensures
    c.own_bytes-below.ensures

pub returns : goal.returns
returns c =
    let h : c.args.slot < length c.self.inside.state.machine.home.owns = search rules in
    let cut = kernel_cut (own_of c.self.inside.state.machine.home c.args.slot) c.layout-layout.result c.block.result.now
    c.own_bytes-below.result (c.owns_lie_in_place.ensures c.args.slot h) c.layout-layout.ensures c.block.ensures
    c.own_bytes-below.ensures in
    read_there c.self.invariant c.args.slot (λ (r : Record). encode_grants r.own.grants) c.self.view_is
    c.split_at.result.1.now (omega (arith, c.len.ensures, c.index.ensures.value, c.if-index-len.false))
    (λ p is. c.split_at.ensures.back ∙ cut)
