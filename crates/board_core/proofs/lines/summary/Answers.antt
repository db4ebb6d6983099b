use Rattle.std.proofs.Common.{All, List, ap, map, sym, subst, ◌∙◌}
use Rattle.grant_enter.specs.Homes.{nobody}
use Rattle.process_record.specs.declared.process.Process.{Process}
use Rattle.std.specs.List.{zip}
use Rattle.kernel_calls.specs.Residents.{InFlash, IsResident, resident_line}
use Rattle.board_core.proofs.Boards.{summary_shown}
use Rattle.kernel_calls.proofs.Pairs.{all-firsts}
use Rattle.board_core.proofs.lines.summary.Goals as goal

pub slot_lines-requires-clause-objects : goal.slot_lines-requires-clause-objects
slot_lines-requires-clause-objects c =
    let b = c.args.state.now in
    let objects = all-firsts (IsResident b.machine.home.flash b.machine.moment.steps) (InFlash b.machine.home.flash)
    b.processes.items
    b.machine.home.owns nobody c.requires.owns
    (λ h s. record { from_base = s.own.object.lies.from; in_flash = s.own.object.lies.to })
    c.requires.seated in
    subst (λ (processes : List Process). All (InFlash b.machine.home.flash) processes) (sym c.deref.ensures.value)
    objects

pub returns : goal.returns
returns c =
    summary_shown c.requires c.slot_lines.result c.copied.result c.bits.result
    (c.slot_lines.ensures
    ∙ ap (λ (processes : List Process). map (resident_line c.args.state.now.machine.home.flash)
    (zip processes c.args.state.now.machine.home.owns)) c.deref.ensures.value)
    (c.copied.ensures ∙ c.deref-2.ensures.0)
    c.bits.ensures
