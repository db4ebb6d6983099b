use Rattle.std.proofs.Common.{◌≡◌, ◌+◌, ◌∙◌, drop, Bool, true, cond, List, ap}
use Rattle.std.specs.Prelude.{is_ok}
use Rattle.std.specs.List.{insert, position_or_len}
use Rattle.script_text.specs.Settings.{ScriptEvent}
use Rattle.board_devices.specs.Arriving.{inserted, is_later}
use Rattle.board_devices.proofs.Inserting.{put_among}
use Rattle.board_devices.proofs.arrivals.Arrivals.expect.Goals.{in-Ok, in-Err}
use Rattle.board_devices.proofs.arrivals.Arrivals.expect.Goals as goal

pub returns-clause-comes : goal.returns-clause-comes
returns-clause-comes c =
    let e = c.args.event in
    let come = c.self.inside.come in
    let at = c.place_after.result in
    let before = c.self.inside.events.items in
    let left : c.split_at.result.1.now ≡ drop come before =
    c.split_at.ensures.back ∙ ap (λ (xs : List ScriptEvent). drop come xs) c.deref.ensures.value in
    let place : at ≡ position_or_len (is_later e.time) (drop come before) =
    c.place_after.ensures.place
    ∙ ap (λ (xs : List ScriptEvent). position_or_len (is_later c.event.inside.time) xs) left
    ∙ ap (λ (x : ScriptEvent). position_or_len (is_later x.time) (drop come before)) c.event.view_is in
    let comes : c.insert.new.self.items ≡ insert before (come + at) e
    → drop come c.insert.new.self.items ≡ inserted e c.args.self.now =
    λ made.
    ap (λ (xs : List ScriptEvent). drop come xs) made
    ∙ put_among e before come at c.self.invariant.0 place
    ∙ ap (λ (xs : List ScriptEvent). inserted e xs) c.self.view_is in
    elim c.match-insert.branch [
      | in-Ok w ↦ (
          let ok : is_ok c.insert.result ≡ true = ap is_ok w.in-Ok.is in
          let made : c.insert.new.self.items ≡ insert before (come + at) e =
          c.insert.ensures.items ∙ ap (λ (b : Bool). cond b (insert before (come + at) e) before) ok in
          let done = comes made in
          search (done, w.result-is))
      | in-Err w ↦ search (w.result-is)
    ]
