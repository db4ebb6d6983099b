use Rattle.std.proofs.Common.{◌≡◌, ◌≤◌, ◌+◌, ◌-◌, IfSome, ap, sym, subst, arith, ◌∙◌}
use Rattle.tbf_headers.specs.Meaning.{header_reading}
use Rattle.tbf_headers.specs.Objects.{object_at}
use Rattle.tbf_headers.specs.Shown.{shown}
use Rattle.process_layout.specs.LayoutView.{LayoutView}
use Rattle.process_layout.specs.Ordered.{IsOrdered}
use Rattle.process_model.specs.Own.{opened}
use Rattle.process_record.specs.Process.{started}
use Rattle.board_opening.specs.Boot.{footprint_of}
use Rattle.kernel_calls.specs.Residents.{IsResident}
use Rattle.board_opening.proofs.Crews.{application_known, starts, process_shown, process_seated}
use Rattle.board_opening.proofs.boot.first_process.Goals as goal
use Rattle.board_opening.proofs.boot.first_process.Goals.{After-start}

pub word_at-size-requires : goal.word_at-size-requires
word_at-size-requires c =
    let a = application_known c.args.flash.now c.args.offset c.args.place.now c.requires.layout in
    omega (arith, a.large, c.requires.flash.1)

-- the process that was made is that of the application at its start
is_start : (c : After-start) → let e = c.args.place.now.1 in
    let a = application_known c.args.flash.now c.args.offset c.args.place.now c.requires.layout in
    c.start.result ≡ started (536870912 + c.args.offset) a.h a.m e.start (e.end - e.start) e.brk
is_start c =
    let a = application_known c.args.flash.now c.args.offset c.args.place.now c.requires.layout in
    starts a (shown c.in-Ok.header) c.start.result (sym (c.in-Ok.ensures.read
    ∙ ap header_reading (c.object_at.ensures
    ∙ ap (object_at c.args.flash.now c.args.offset) c.word_at-size.ensures)))
    (subst (λ (e : LayoutView). IfSome c.in-Ok.header.main
    (λ m. c.start.result
    ≡ started (536870912 + c.args.offset) (shown c.in-Ok.header) m e.start (e.end - e.start) e.brk))
    c.layout.view_is c.start.ensures)

pub returns-clause-shown : goal.returns-clause-shown
returns-clause-shown c =
    let a = application_known c.args.flash.now c.args.offset c.args.place.now c.requires.layout in
    process_shown a (is_start (goal.at.returns-clause-shown c).After-start)

-- it is as it is to be before the first step
seated : (c : After-start)
    → IsResident c.args.flash.now 0 (c.start.result, opened (footprint_of c.start.result c.args.place.now))
seated c =
    let a = application_known c.args.flash.now c.args.offset c.args.place.now c.requires.layout in
    let f = c.requires.flash in
    process_seated a (is_start c) f.0 f.1 f.2
    (subst (λ (e : LayoutView). e.brk ≤ e.end) c.layout.view_is
    (omega (arith, c.layout.invariant.grants, c.layout.invariant.end)))

pub returns-clause-seated : goal.returns-clause-seated
returns-clause-seated c = seated (goal.at.returns-clause-seated c).After-start

pub returns-clause-first : goal.returns-clause-first
returns-clause-first c =
    let a = application_known c.args.flash.now c.args.offset c.args.place.now c.requires.layout in
    record {
      ordered = subst IsOrdered c.layout.view_is c.layout.invariant;
      object = (seated (goal.at.returns-clause-first c).After-start).own.object.lies;
      no_grants = a.no_grants;
    }
