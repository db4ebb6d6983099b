use Rattle.std.proofs.Common.{◌-◌, ◌/◌, arith}
use Rattle.tk_base.specs.declared.access.TheConstants.{FLASH_START}
use Rattle.board_memory.proofs.Known.{known_part}
use Rattle.board_memory.proofs.windows.known_count.Goals as goal

pub returns-clause-known : goal.returns-clause-known
returns-clause-known c =
    let code = c.args.code in
    let starts = c.requires.starts in
    let even = c.requires.even in
    let inside = c.requires.inside in
    let all = c.requires.entries.long in
    known_part c.args.flash.now c.args.entries.now code.start ((code.start - FLASH_START) / 2) (code.size / 2) code.size
    c.reach.result c.reach-else-reach-gt2.result _ _ c.requires.entries (omega (arith, starts, even))
    (omega (arith, all, inside, even, starts)) (omega (arith)) c.if-count-lt2.false
    c.reach.ensures c.if-reach-gt2.false c.reach-else-reach-gt2.ensures c.if-reach-gt4.false
